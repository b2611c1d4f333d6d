-- A walk over the alerts that are looked at.
use Rattle.std.proofs.Common.{◌≡◌, ℕ, ◌+◌, ◌<◌, ◌≤◌, ◌≢◌, Bool, true, false, ◌||◌, List, get_or, cond, inl, inr, refl, sym, ◌∙◌, ap, arith}
use Rattle.std.specs.Prelude.{◌↔◌}
use Rattle.std.proofs.lemmas.Bool.{or_parts, or_from, cases_lt}
use Rattle.wakes.specs.Marks as numbers
use Rattle.crew_marks.specs.declared.mark.Mark.{Mark}
use Rattle.crew_marks.specs.declared.mark.Sight.{Sight}
use Rattle.crew_marks.specs.declared.mark.Actions.{Actions}
use Rattle.crew_marks.specs.MarkSets.{MarkSets, mark_at, set_mark, is_touched, HasMark}
use Rattle.crew_marks.specs.MarkStep.{mark_after, acts}
use Rattle.crew_marks.proofs.Walking.{mark-same, mark-other, set-mark_at, set_mark-again}

-- ---- one alert that is settled

-- the mark of one of which the crew made nothing
abbrev clean : Bool → Mark
clean shown = record { cleared = false; cancelled = false; recalled = false; shown = shown }

-- the crew does nothing
abbrev nothing : Actions
nothing = record { clr = false; rcl = false; emer = false; restores = false }

clean-stays : (up waiting caution aims : Bool) → mark_after (clean up) (record { up = up; waiting = waiting; is_caution = caution; is_target = aims }) nothing ≡ clean up
clean-stays true true true aims = refl
clean-stays true true false aims = refl
clean-stays true false true aims = refl
clean-stays true false false aims = refl
clean-stays false true true aims = refl
clean-stays false true false aims = refl
clean-stays false false true aims = refl
clean-stays false false false aims = refl

untouched-is : (m : Mark) (up : Bool) → up ≡ m.shown → is_touched m ≡ false → m ≡ clean up
untouched-is m up as_up h =
    let one = or_parts m.cleared _ h in
    let two = or_parts m.cancelled m.recalled one.1 in
    ap (λ b. mark-of b m.cancelled m.recalled m.shown) one.0 ∙ ap (λ b. mark-of false b m.recalled m.shown) two.0
    ∙ ap (λ b. mark-of false false b m.shown) two.1 ∙ ap (λ b. mark-of false false false b) (sym as_up) where
      mark-of : Bool → Bool → Bool → Bool → Mark
      mark-of cleared cancelled recalled shown = record { cleared = cleared; cancelled = cancelled; recalled = recalled; shown = shown }

nothing-is : (x : Actions) → acts x ≡ false → x ≡ nothing
nothing-is x h =
    let one = or_parts x.clr _ h in
    let two = or_parts x.rcl _ one.1 in
    let three = or_parts x.emer x.restores two.1 in
    ap (λ b. actions-of b x.rcl x.emer x.restores) one.0 ∙ ap (λ b. actions-of false b x.emer x.restores) two.0
    ∙ ap (λ b. actions-of false false b x.restores) three.0 ∙ ap (λ b. actions-of false false false b) three.1 where
      actions-of : Bool → Bool → Bool → Bool → Actions
      actions-of clr rcl emer restores = record { clr = clr; rcl = rcl; emer = emer; restores = restores }

mark-stays : (m : Mark) (s : Sight) (x : Actions) → s.up ≡ m.shown → is_touched m ≡ false → acts x ≡ false → mark_after m s x ≡ m
mark-stays m s x as_up untouched quiet =
    let mark : m ≡ clean s.up = untouched-is m s.up as_up untouched in
    ap (λ n. mark_after n s x) mark ∙ ap (λ y. mark_after (clean s.up) s y) (nothing-is x quiet)
    ∙ clean-stays s.up s.waiting s.is_caution s.is_target ∙ sym mark

-- one that is settled needs no step where the crew does nothing
pub settled-stays : (s : MarkSets) (a : ℕ) (g : Sight) (x : Actions) → acts x ≡ false
    → g.up ≡ get_or s.shown a false → is_touched (mark_at s a) ≡ false
    → s ≡ set_mark s a (mark_after (mark_at s a) g x)
settled-stays s a g x quiet as_up untouched =
    sym (ap (set_mark s a) (mark-stays (mark_at s a) g x as_up untouched quiet) ∙ set-mark_at s a)

-- ---- the walk

-- those in the set take a step, and the others stay
abbrev pub step_in : List ℕ → (ℕ → Mark → Mark) → ℕ → Mark → Mark
step_in set step a m = cond (numbers.is_marked set a) (step a m) m

pub looked-at : (set : List ℕ) (step : ℕ → Mark → Mark) (a : ℕ) (m : Mark) → numbers.is_marked set a ≡ true → step_in set step a m ≡ step a m
looked-at set step a m on = ap (λ t. cond t (step a m) m) on

pub passed-over : (set : List ℕ) (step : ℕ → Mark → Mark) (a : ℕ) (m : Mark) → numbers.is_marked set a ≡ false → m ≡ step_in set step a m
passed-over set step a m off = ap (λ t. cond t (step a m) m) (sym off)

-- the alerts below i are stepped, and the others stand as they did
pub record ArePassed (step : ℕ → Mark → Mark) (initial : MarkSets) (i : ℕ) (s : MarkSets) (turned : Bool) : Type 0 where
  pub marks : (a : ℕ) → a < i → mark_at s a ≡ step a (mark_at initial a)
  pub left : (a : ℕ) → i ≤ a → mark_at s a ≡ mark_at initial a
  pub changed : (turned ≡ false) ↔ (s ≡ initial)
  pub order : s.order ≡ initial.order

pub pass-none : (step : ℕ → Mark → Mark) (initial : MarkSets) → ArePassed step initial 0 initial false
pass-none step initial = record { marks = λ a h. absurd (omega arith); left = λ a h. refl; changed = (λ e. refl, λ e. refl); order = refl }

-- those that stay as they are need no step
pub pass-others : (step : ℕ → Mark → Mark) (initial : MarkSets) (i j : ℕ) (s : MarkSets) (turned : Bool) → i ≤ j
    → ((a : ℕ) → i ≤ a → a < j → mark_at initial a ≡ step a (mark_at initial a))
    → ArePassed step initial i s turned → ArePassed step initial j s turned
pass-others step initial i j s turned order stays p = record {
  marks = λ a h.
      elim (cases_lt a i) [
        | inl low ↦ p.marks a low
        | inr high ↦
            let behind : i ≤ a = omega arith in
            p.left a behind ∙ stays a behind h
      ];
  left = λ a h. p.left a (omega arith);
  changed = p.changed;
  order = p.order;
}

-- those that aren't looked at keep their marks
pub pass-kept : (set : List ℕ) (step : ℕ → Mark → Mark) (initial : MarkSets) (i : ℕ) (s : MarkSets) (turned : Bool)
    → ArePassed (step_in set step) initial i s turned → (a : ℕ) → numbers.is_marked set a ≡ false → mark_at s a ≡ mark_at initial a
pass-kept set step initial i s turned p a off =
    elim (cases_lt a i) [
      | inl low ↦ p.marks a low ∙ sym (passed-over set step a (mark_at initial a) off)
      | inr high ↦ p.left a (omega arith)
    ]

module _ (step : ℕ → Mark → Mark) (initial : MarkSets) (i : ℕ) (s t : MarkSets) (changed turned : Bool) (has : HasMark s i)
    (stepped : t ≡ set_mark s i (step i (mark_at s i))) (turns : (turned ≡ false) ↔ (t ≡ s)) (p : ArePassed step initial i s changed) where
  as_before : mark_at s i ≡ mark_at initial i
  as_before = p.left i (omega arith)

  here : mark_at t i ≡ step i (mark_at initial i)
  here = ap (λ u. mark_at u i) stepped ∙ mark-same s i (step i (mark_at s i)) has ∙ ap (step i) as_before

  elsewhere : (a : ℕ) → a ≢ i → mark_at t a ≡ mark_at s a
  elsewhere a apart = ap (λ u. mark_at u a) stepped ∙ mark-other s i (step i (mark_at s i)) a apart

  unturned : t ≡ initial → s ≡ initial
  unturned e =
      sym (set_mark-again s i (step i (mark_at s i)) (mark_at s i) ∙ set-mark_at s i)
      ∙ ap (λ u. set_mark u i (mark_at s i)) (sym stepped ∙ e)
      ∙ ap (set_mark initial i) as_before ∙ set-mark_at initial i

  -- one alert more
  pub pass-more : ArePassed step initial (i + 1) t (changed || turned)
  pass-more = record {
    marks = λ a h.
        elim (cases_lt a i) [
          | inl low ↦ elsewhere a (λ e. absurd (let w : ⊥ = omega arith in w)) ∙ p.marks a low
          | inr high ↦
              let same : a ≡ i = omega arith in
              rw same here
        ];
    left = λ a h. elsewhere a (λ e. absurd (let w : ⊥ = omega arith in w)) ∙ p.left a (omega arith);
    changed = (
      λ e. turns.0 ((or_parts changed turned e).1) ∙ p.changed.0 ((or_parts changed turned e).0),
      λ e. or_from changed turned (p.changed.1 (unturned e)) (turns.1 (e ∙ sym (unturned e))),
    );
    order = ap (λ (u : MarkSets). u.order) stepped ∙ p.order;
  }
