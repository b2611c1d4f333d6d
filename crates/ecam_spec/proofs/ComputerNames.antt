-- What asks for a computer: where a condition doesn't, it is as true in worlds that differ in their computers alone;
-- and what a book doesn't ask, no part of it does.
use Rattle.std.proofs.Common.{◌≡◌, ℕ, zero, suc, Bool, true, false, ◌||◌, ◌⊎◌, inl, inr, List, [], ◌∷◌, ◌++◌, map, get_or, refl, sym, ◌∙◌, ap}
use Rattle.std.proofs.Math.Bool.{or_assoc}
use Rattle.std.specs.List.{list_any}
use Rattle.std.proofs.lemmas.List.Folds.{list_any-append}
use Rattle.std.proofs.lemmas.Bool.{or_parts}
use Rattle.ecam_spec.specs.declared.kinds.Key.{Key}
use Rattle.ecam_spec.specs.Book.{Tree, Trees, constant, discrete, valid, compared, in_phase, alert, press, computer, negation, all, any, at_least, confirmed, held, risen, latched, none, more, Line, Alert, Memo, Book}
use Rattle.ecam_spec.specs.BookTerms.{terms_of, phase_terms, line_terms, lines_of}
use Rattle.ecam_spec.specs.DraftFaults.{has_atom, have_atom}
use Rattle.ecam_spec.specs.Computers.{asks_computer, names_computer}
use Rattle.ecam_spec.specs.Term.{World}
use Rattle.ecam_spec.specs.TermNames.{AgreeOn, AgreeOnAll}
use Rattle.ecam_spec.specs.Situation.{no_alert, alert_at}

-- two worlds agree in a moment, but perhaps not in which computers are up
pub record Alike (v w : World) (i : ℕ) : Type 0 where
  pub values : (p : ℕ) → v.values p i ≡ w.values p i
  pub phase : v.phase i ≡ w.phase i
  pub active : (a : ℕ) → v.active a i ≡ w.active a i
  pub pressed : (key : Key) → v.pressed key i ≡ w.pressed key i

pub left-part : {U : Type 0} (a b : Bool) → ((a || b) ≡ false) ⊎ U → (a ≡ false) ⊎ U
left-part a b (inl e) = inl ((or_parts a b e).0)
left-part a b (inr u) = inr u

pub right-part : {U : Type 0} (a b : Bool) → ((a || b) ≡ false) ⊎ U → (b ≡ false) ⊎ U
right-part a b (inl e) = inl ((or_parts a b e).1)
right-part a b (inr u) = inr u

pub map-left : {A B U : Type 0} → (A → B) → A ⊎ U → B ⊎ U
map-left f (inl a) = inl (f a)
map-left f (inr u) = inr u

up-same : {U : Type 0} → (true ≡ false) ⊎ U → U
up-same (inl e) = absurd (let w : ⊥ = cc in w)
up-same (inr u) = u

module _ (v w : World) (i : ℕ) (alike : Alike v w i) where
  mutual
    unfolding AgreeOn has_atom

    pub agree-on : (c : Tree) → (has_atom asks_computer c ≡ false) ⊎ ((n : ℕ) → v.up n i ≡ w.up n i) → AgreeOn v w i c
    agree-on (constant b) h = tt
    agree-on (discrete p) h = alike.values p
    agree-on (valid p) h = alike.values p
    agree-on (compared p op x) h = alike.values p
    agree-on (in_phase set) h = alike.phase
    agree-on (alert a) h = alike.active a
    agree-on (press key) h = alike.pressed key
    agree-on (computer n) h = up-same h n
    agree-on (negation c) h = agree-on c h
    agree-on (all cs) h = agree-on-all cs h
    agree-on (any cs) h = agree-on-all cs h
    agree-on (at_least n cs) h = agree-on-all cs h
    agree-on (confirmed c n) h = agree-on c h
    agree-on (held c n) h = agree-on c h
    agree-on (risen c) h = agree-on c h
    agree-on (latched s r) h = (agree-on s (left-part (has_atom asks_computer s) (has_atom asks_computer r) h), agree-on r (right-part (has_atom asks_computer s) (has_atom asks_computer r) h))

    pub agree-on-all : (cs : Trees) → (have_atom asks_computer cs ≡ false) ⊎ ((n : ℕ) → v.up n i ≡ w.up n i) → AgreeOnAll v w i cs
    agree-on-all none h = tt
    agree-on-all (more c cs) h = (agree-on c (left-part (has_atom asks_computer c) (have_atom asks_computer cs) h), agree-on-all cs (right-part (has_atom asks_computer c) (have_atom asks_computer cs) h))

-- what no condition of a list asks for, no one of them does
pub any-at : {X : Type 0} (p : X → Bool) (xs : List X) (i : ℕ) (d : X) → list_any p xs ≡ false → p d ≡ false → p (get_or xs i d) ≡ false
any-at p [] i d h e = e
any-at p (x ∷ xs) zero d h e = (or_parts (p x) (list_any p xs) h).0
any-at p (x ∷ xs) (suc i) d h e = any-at p xs i d ((or_parts (p x) (list_any p xs) h).1) e

-- whether a condition, and a procedure line, asks for a computer
abbrev pub asks : Tree → Bool
asks c = has_atom asks_computer c

abbrev pub line-asks : Line → Bool
line-asks l = asks l.when || asks l.done

module _ (b : Book) where
  any-map : {X : Type 0} (f : X → Tree) (xs : List X) → list_any asks (map f xs) ≡ list_any (λ x. asks (f x)) xs
  any-map f [] = refl
  any-map f (x ∷ xs) = ap (λ c. asks (f x) || c) (any-map f xs)

  lines-any : (ls : List Line) → list_any asks (line_terms ls) ≡ list_any line-asks ls
  lines-any [] = refl
  lines-any (l ∷ ls) =
      ap (λ c. asks l.when || (asks l.done || c)) (lines-any ls) ∙ sym (or_assoc (asks l.when) (asks l.done) (list_any line-asks ls))

  alerts-any : (as' : List Alert) → list_any line-asks (lines_of as') ≡ list_any (λ (a : Alert). list_any line-asks a.lines) as'
  alerts-any [] = refl
  alerts-any (a ∷ as') =
      list_any-append line-asks a.lines (lines_of as') ∙ ap (λ c. list_any line-asks a.lines || c) (alerts-any as')

  -- the book's conditions are those of its phases, alerts, lines and memos
  parts : names_computer b ≡ (((list_any asks (phase_terms b.phase) || list_any (λ (a : Alert). asks a.when) b.alerts) || list_any (λ (a : Alert). list_any line-asks a.lines) b.alerts) || list_any (λ (m : Memo). asks m.when) b.memos)
  unfolding names_computer terms_of
  parts =
      let whens = map (λ (a : Alert). a.when) b.alerts in
      let dones = line_terms (lines_of b.alerts) in
      let memos = map (λ (m : Memo). m.when) b.memos in
      list_any-append asks ((phase_terms b.phase ++ whens) ++ dones) memos
      ∙ ap (λ c. c || list_any asks memos) (list_any-append asks (phase_terms b.phase ++ whens) dones)
      ∙ ap (λ c. (c || list_any asks dones) || list_any asks memos) (list_any-append asks (phase_terms b.phase) whens)
      ∙ ap (λ c. ((list_any asks (phase_terms b.phase) || c) || list_any asks dones) || list_any asks memos) (any-map (λ (a : Alert). a.when) b.alerts)
      ∙ ap (λ c. ((list_any asks (phase_terms b.phase) || list_any (λ (a : Alert). asks a.when) b.alerts) || c) || list_any asks memos)
      (lines-any (lines_of b.alerts) ∙ alerts-any b.alerts)
      ∙ ap (λ c. ((list_any asks (phase_terms b.phase) || list_any (λ (a : Alert). asks a.when) b.alerts) || list_any (λ (a : Alert). list_any line-asks a.lines) b.alerts) || c)
      (any-map (λ (m : Memo). m.when) b.memos)

  module _ {U : Type 0} (free : (names_computer b ≡ false) ⊎ U) where
    free-parts : ((((list_any asks (phase_terms b.phase) || list_any (λ (a : Alert). asks a.when) b.alerts) || list_any (λ (a : Alert). list_any line-asks a.lines) b.alerts) || list_any (λ (m : Memo). asks m.when) b.memos) ≡ false) ⊎ U
    free-parts = map-left (λ e. sym parts ∙ e) free

    pub free-phase : (list_any asks (phase_terms b.phase) ≡ false) ⊎ U
    free-phase = left-part _ _ (left-part _ _ (left-part _ _ free-parts))

    pub free-when : (a : ℕ) → (asks (alert_at b a).when ≡ false) ⊎ U
    unfolding has_atom
    free-when a =
        map-left (λ e. any-at (λ (x : Alert). asks x.when) b.alerts a no_alert e refl)
        (right-part (list_any asks (phase_terms b.phase)) _ (left-part _ _ (left-part _ _ free-parts)))

    pub free-lines : (a : ℕ) → (list_any line-asks (alert_at b a).lines ≡ false) ⊎ U
    free-lines a =
        map-left (λ e. any-at (λ (x : Alert). list_any line-asks x.lines) b.alerts a no_alert e refl)
        (right-part _ (list_any (λ (x : Alert). list_any line-asks x.lines) b.alerts) (left-part _ _ free-parts))

    pub free-memos : (list_any (λ (m : Memo). asks m.when) b.memos ≡ false) ⊎ U
    free-memos = right-part _ _ free-parts
