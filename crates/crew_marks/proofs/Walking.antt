-- The marks of all alerts, of which one is set.
use Rattle.std.proofs.Common.{◌≡◌, ℕ, zero, suc, ◌<◌, ◌≢◌, Bool, true, false, ◌||◌, ◌==◌, cond, inl, inr, List, [], ◌∷◌, length, get_or, set, replicate, refl, sym, ◌∙◌, ap, arith}
use Rattle.std.specs.List.{find}
use Rattle.std.proofs.lemmas.Bool.{cases_lt, cases_eq, eqb-true, false≢true}
use Rattle.std.proofs.lemmas.List.{get_or_past, get_or-replicate, length-replicate, get_or-set_same, get_or-set_other, set-get_or, length-set}
use Rattle.ecam_spec.proofs.ListLaws.{mem, eqb-self}
use Rattle.wakes.specs.Marks as numbers
use Rattle.wakes.specs.Marks.{room}
use Rattle.crew_marks.specs.declared.mark.Mark.{Mark}
use Rattle.crew_marks.specs.MarkSets.{MarkSets, mark_at, set_mark, is_marked, is_touched, room_for, AreMarked, TellTouched, HasMark, AreMany}

-- ---- flags

pub no-flag : (n a : ℕ) → get_or (replicate n false) a false ≡ false
no-flag n a =
    elim (cases_lt a n) [
      | inl within ↦ get_or-replicate n a false false within
      | inr past ↦ get_or_past (replicate n false) a false (omega (arith, length-replicate n false))
    ]

pub unset-flag : (flags : List Bool) (n a : ℕ) → flags ≡ replicate n false → get_or flags a false ≡ false
unset-flag flags n a e = ap (λ xs. get_or xs a false) e ∙ no-flag n a

-- ---- one mark

-- the mark that was set, and the others
module _ (s : MarkSets) (a : ℕ) (m : Mark) where
  pub mark-same : HasMark s a → mark_at (set_mark s a m) a ≡ m
  mark-same h =
      let one = get_or-set_same s.cleared a m.cleared false h.cleared in
      let two = get_or-set_same s.cancelled a m.cancelled false h.cancelled in
      let three = get_or-set_same s.recalled a m.recalled false h.recalled in
      let four = get_or-set_same s.shown a m.shown false h.shown in
      rw (one, two, three, four) refl

  pub mark-other : (i : ℕ) → i ≢ a → mark_at (set_mark s a m) i ≡ mark_at s i
  mark-other i h =
      let one = get_or-set_other s.cleared a i m.cleared false h in
      let two = get_or-set_other s.cancelled a i m.cancelled false h in
      let three = get_or-set_other s.recalled a i m.recalled false h in
      let four = get_or-set_other s.shown a i m.shown false h in
      cc

-- sets of the same flags are the same
pub same-sets : (s t : MarkSets) → s.order ≡ t.order → s.cleared ≡ t.cleared → s.cancelled ≡ t.cancelled → s.recalled ≡ t.recalled → s.shown ≡ t.shown → s ≡ t
same-sets s t ordered one two three four =
    ap (λ xs. sets-of xs s.cleared s.cancelled s.recalled s.shown) ordered ∙ ap (λ xs. sets-of t.order xs s.cancelled s.recalled s.shown) one
    ∙ ap (λ xs. sets-of t.order t.cleared xs s.recalled s.shown) two ∙ ap (λ xs. sets-of t.order t.cleared t.cancelled xs s.shown) three
    ∙ ap (λ xs. sets-of t.order t.cleared t.cancelled t.recalled xs) four where
      sets-of : List ℕ → List Bool → List Bool → List Bool → List Bool → MarkSets
      sets-of order cleared cancelled recalled shown =
          record { order = order; cleared = cleared; cancelled = cancelled; recalled = recalled; shown = shown }

-- the mark that an alert has already changes nothing
pub set-mark_at : (s : MarkSets) (a : ℕ) → set_mark s a (mark_at s a) ≡ s
set-mark_at s a =
    let one = set-get_or s.cleared a false in
    let two = set-get_or s.cancelled a false in
    let three = set-get_or s.recalled a false in
    let four = set-get_or s.shown a false in
    rw (one, two, three, four) refl

set-set : (xs : List Bool) (i : ℕ) (x y : Bool) → set (set xs i x) i y ≡ set xs i y
set-set [] i x y = refl
set-set (z ∷ zs) zero x y = refl
set-set (z ∷ zs) (suc i) x y = ap (λ ys. z ∷ ys) (set-set zs i x y)

pub set_mark-again : (s : MarkSets) (a : ℕ) (m n : Mark) → set_mark (set_mark s a m) a n ≡ set_mark s a n
set_mark-again s a m n =
    let one = set-set s.cleared a m.cleared n.cleared in
    let two = set-set s.cancelled a m.cancelled n.cancelled in
    let three = set-set s.recalled a m.recalled n.recalled in
    let four = set-set s.shown a m.shown n.shown in
    cc

-- ---- what is kept beside the marks

tells-set : (f : Mark → Bool) (s : MarkSets) (flags : List Bool) (i : ℕ) (m : Mark) → HasMark s i → i < length flags
    → ((a : ℕ) → get_or flags a false ≡ f (mark_at s a)) → (a : ℕ) → get_or (set flags i (f m)) a false ≡ f (mark_at (set_mark s i m) a)
tells-set f s flags i m has within told a =
    elim (cases_eq a i) [
      | inl e ↦ rw e (get_or-set_same flags i (f m) false within ∙ ap f (sym (mark-same s i m has)))
      | inr ne ↦ get_or-set_other flags i a (f m) false ne ∙ told a ∙ ap f (sym (mark-other s i m a ne))
    ]

pub room-within : (s : MarkSets) (set : List ℕ) (i : ℕ) → HasMark s i → AreMarked s set → i < room set
room-within s set i has are = omega (arith, are.room, has.cleared)

module _ (s : MarkSets) (old new : List ℕ) (i : ℕ) (m : Mark) (flag : Bool) (has : HasMark s i)
    (is : flag ≡ is_marked m) (roomy : room new ≡ room old)
    (puts : (a : ℕ) → numbers.is_marked new a ≡ cond (a == i) flag (numbers.is_marked old a)) (are : AreMarked s old) where
  told-now : (a : ℕ) (t : Bool) → (a == i) ≡ t → numbers.is_marked new a ≡ is_marked (mark_at (set_mark s i m) a)
  told-now a true e =
      puts a ∙ ap (λ t. cond t flag (numbers.is_marked old a)) e ∙ is
      ∙ ap is_marked (sym (mark-same s i m has)) ∙ ap (λ n. is_marked (mark_at (set_mark s i m) n)) (sym (eqb-true a i e))
  told-now a false e =
      let apart : a ≢ i = λ same. false≢true (sym e ∙ ap (λ n. n == i) same ∙ eqb-self i) in
      puts a ∙ ap (λ t. cond t flag (numbers.is_marked old a)) e ∙ are.told a ∙ ap is_marked (sym (mark-other s i m a apart))

  pub marked-set : AreMarked (set_mark s i m) new
  marked-set = record {
    room = roomy ∙ are.room ∙ ap room_for (sym (length-set s.cleared i m.cleared));
    told = λ a. told-now a (a == i) refl;
  }

pub touched-set : (s : MarkSets) (flags : List Bool) (i : ℕ) (m : Mark) (flag : Bool) → HasMark s i → flag ≡ is_touched m → TellTouched s flags → TellTouched (set_mark s i m) (set flags i flag)
touched-set s flags i m flag has is tells = record {
  many = length-set flags i flag ∙ tells.many ∙ sym (length-set s.cleared i m.cleared);
  told = λ a. ap (λ f. get_or (set flags i f) a false) is ∙ tells-set is_touched s flags i m has (omega (arith, tells.many, has.cleared)) tells.told a;
}

module _ (s : MarkSets) (n i j k : ℕ)
    (cleared : s.cleared ≡ replicate n false) (cancelled : s.cancelled ≡ replicate i false)
    (recalled : s.recalled ≡ replicate j false) (shown : s.shown ≡ replicate k false) where
  unset-mark : (a : ℕ) → mark_at s a ≡ record { cleared = false; cancelled = false; recalled = false; shown = false }
  unset-mark a =
      let one = unset-flag s.cleared n a cleared in
      let two = unset-flag s.cancelled i a cancelled in
      let three = unset-flag s.recalled j a recalled in
      let four = unset-flag s.shown k a shown in
      rw (one, two, three, four) refl

  pub unset-marked : (set : List ℕ) → room set ≡ room_for n → ((a : ℕ) → numbers.is_marked set a ≡ false)
      → AreMarked s set
  unset-marked set roomy none = record {
    room = roomy ∙ ap room_for (sym (ap length cleared ∙ length-replicate n false));
    told = λ a. none a ∙ ap is_marked (sym (unset-mark a));
  }

  pub unset-touched : (flags : List Bool) → flags ≡ replicate n false → TellTouched s flags
  unset-touched flags e = record {
    many = ap length (e ∙ sym cleared);
    told = λ a. unset-flag flags n a e ∙ ap is_touched (sym (unset-mark a));
  }

-- ---- how many marks there are

pub has-mark : (s : MarkSets) (n a : ℕ) → AreMany s n → a < n → HasMark s a
has-mark s n a many within = record {
  cleared = omega (arith, many.cleared);
  cancelled = omega (arith, many.cancelled);
  recalled = omega (arith, many.recalled);
  shown = omega (arith, many.shown);
}

pub many-set : (s : MarkSets) (n a : ℕ) (m : Mark) → AreMany s n → AreMany (set_mark s a m) n
many-set s n a m many = record {
  cleared = length-set s.cleared a m.cleared ∙ many.cleared;
  cancelled = length-set s.cancelled a m.cancelled ∙ many.cancelled;
  recalled = length-set s.recalled a m.recalled ∙ many.recalled;
  shown = length-set s.shown a m.shown ∙ many.shown;
}

-- ---- what is found in a list

pub find-agree : (p q : ℕ → Bool) (xs : List ℕ) → ((a : ℕ) → mem a xs ≡ true → p a ≡ q a) → find p xs ≡ find q xs
find-agree p q [] same = refl
find-agree p q (x ∷ xs) same =
    let here : p x ≡ q x = same x (ap (λ b. b || mem x xs) (eqb-self x)) in
    let rest : find p xs ≡ find q xs = find-agree p q xs (λ a h. same a (later (a == x) (mem a xs) h)) in
    rw (here, rest) refl where
      later : (b c : Bool) → c ≡ true → (b || c) ≡ true
      later true c h = refl
      later false c h = h
