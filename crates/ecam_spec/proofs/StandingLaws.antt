-- What follows for the standing of an alert from what is so of it.
use Rattle.std.proofs.Common.{◌≡◌, ℕ, ◌≤◌, Bool, true, false, not, ◌&&◌, ◌||◌, Option, Some, None, sym, ◌∙◌, refl, ap, cond, leb, arith}
use Rattle.std.specs.Prelude.{is_some}
use Rattle.std.proofs.lemmas.Bool.{leb-true, true≢false}
use Rattle.std.proofs.Math.Bool.{and-false}
use Rattle.ecam_spec.specs.declared.kinds.Standing.TheVariants.{Titled, Counted, Cancelled, Cleared}
use Rattle.ecam_spec.specs.Standing.{Facts, standing_by_row, standing_of, accounts, has_row, is_counted}

-- what ties the facts of an alert together, and whether it is recalled
pub record Tied (f : Facts) (recalled : Bool) : Type 0 where
  pub active : f.active ≡ true → f.present ≡ true
  pub cleared : f.cleared ≡ true → f.active ≡ true
  pub recalled_waits : recalled ≡ true → (f.present ≡ true) × (f.active ≡ false)
  pub shown : f.shown ≡ (not f.cancelled && (((f.active && not (f.active && is_some f.starred_by)) && not f.cleared) || recalled))

abbrev facts : (p a sh : Bool) (sb : Option ℕ) (ca cl : Bool) (tr : Option ℕ) → Facts
facts p a sh sb ca cl tr = record { present = p; active = a; shown = sh; starred_by = sb; cancelled = ca; cleared = cl; title_row = tr }

-- ---- accounted for: starred, cancelled, cleared, titled or counted

titled-or-counted : (b : Bool) (r : ℕ) → accounts (cond b (Titled r) Counted) ≡ true
titled-or-counted true r = refl
titled-or-counted false r = refl

row-accounts : (tr : Option ℕ) → accounts (standing_by_row tr) ≡ true
row-accounts None = refl
row-accounts (Some r) = titled-or-counted (leb r 7) r

accounts-by : (p a sh : Bool) (sb : Option ℕ) (ca cl : Bool) (tr : Option ℕ) (re : Bool) → Tied (facts p a sh sb ca cl tr) re → accounts (standing_of (facts p a sh sb ca cl tr)) ≡ (a || (re && not ca))
unfolding standing_of
accounts-by false true sh sb ca cl tr re t = absurd (true≢false (sym (t.active refl)))
accounts-by true true sh (Some q) ca cl tr re t = refl
accounts-by true true sh None true cl tr re t = refl
accounts-by true true sh None false true tr re t = refl
accounts-by true true sh None false false tr re t = row-accounts tr
accounts-by p false true sb ca cl tr false t = absurd (true≢false (t.shown ∙ and-false (not ca)))
accounts-by false false false sb ca cl tr false t = refl
accounts-by true false false sb ca cl tr false t = refl
accounts-by false false sh sb ca cl tr true t = absurd (true≢false (sym (t.recalled_waits refl).0))
accounts-by true false true sb true cl tr true t = absurd (true≢false t.shown)
accounts-by true false false sb true cl tr true t = refl
accounts-by true false sh sb false true tr true t = absurd (true≢false (sym (t.cleared refl)))
accounts-by true false false sb false false tr true t = absurd (true≢false (sym t.shown))
accounts-by true false true sb false false tr true t = row-accounts tr

-- an alert is accounted for where it is active, or recalled and not cancelled
pub accounts-where : (f : Facts) (re : Bool) → Tied f re → accounts (standing_of f) ≡ (f.active || (re && not f.cancelled))
accounts-where f re t = accounts-by f.present f.active f.shown f.starred_by f.cancelled f.cleared f.title_row re t

-- ---- a row, or a count

row-or-count : (b : Bool) (r : ℕ) → has_row (cond b (Titled r) Counted) ≡ true
row-or-count true r = refl
row-or-count false r = refl

row-has : (tr : Option ℕ) → has_row (standing_by_row tr) ≡ true
row-has None = refl
row-has (Some r) = row-or-count (leb r 7) r

row-by : (p a sh : Bool) (sb : Option ℕ) (ca cl : Bool) (tr : Option ℕ) → Tied (facts p a sh sb ca cl tr) true → ca ≡ false → has_row (standing_of (facts p a sh sb ca cl tr)) ≡ true
unfolding standing_of
row-by p a sh sb true cl tr t e = absurd (true≢false e)
row-by p true sh sb false cl tr t e = absurd (true≢false (t.recalled_waits refl).1)
row-by false false sh sb false cl tr t e = absurd (true≢false (sym (t.recalled_waits refl).0))
row-by true false sh sb false true tr t e = absurd (true≢false (sym (t.cleared refl)))
row-by true false false sb false false tr t e = absurd (true≢false (sym t.shown))
row-by true false true sb false false tr t e = row-has tr

-- a recalled alert that isn't cancelled is titled or counted
pub recalled-has_row : (f : Facts) → Tied f true → f.cancelled ≡ false → has_row (standing_of f) ≡ true
recalled-has_row f t e = row-by f.present f.active f.shown f.starred_by f.cancelled f.cleared f.title_row t e

-- ---- titled, so that is the row of its title

titled-by : (b : Bool) (r s : ℕ) → leb s 7 ≡ b → cond b (Titled s) Counted ≡ Titled r → (◌≡◌ {A = Option ℕ} (Some s) (Some r)) × (r ≤ 7)
titled-by true r s e h = let same : s ≡ r = cc in (ap Some same, omega (arith, leb-true s 7 e))
titled-by false r s e h = absurd (let w : ⊥ = cc in w)

-- neither starred, cancelled nor cleared, so it stands by its row
by-row : (ca cl : Bool) (tr : Option ℕ) (r : ℕ) → cond ca Cancelled (cond cl Cleared (standing_by_row tr)) ≡ Titled r → (tr ≡ Some r) × (r ≤ 7)
by-row true cl tr r h = absurd (let w : ⊥ = cc in w)
by-row false true tr r h = absurd (let w : ⊥ = cc in w)
by-row false false None r h = absurd (let w : ⊥ = cc in w)
by-row false false (Some s) r h = titled-by (leb s 7) r s refl h

titled-from : (p a sh : Bool) (sb : Option ℕ) (ca cl : Bool) (tr : Option ℕ) (r : ℕ) → standing_of (facts p a sh sb ca cl tr) ≡ Titled r → (tr ≡ Some r) × (r ≤ 7)
unfolding standing_of
titled-from false a sh sb ca cl tr r h = absurd (let w : ⊥ = cc in w)
titled-from true false false sb ca cl tr r h = absurd (let w : ⊥ = cc in w)
titled-from true false true sb ca cl tr r h = by-row ca cl tr r h
titled-from true true sh (Some q) ca cl tr r h = absurd (let w : ⊥ = cc in w)
titled-from true true sh None ca cl tr r h = by-row ca cl tr r h

pub titled-row : (f : Facts) (r : ℕ) → standing_of f ≡ Titled r → (f.title_row ≡ Some r) × (r ≤ 7)
titled-row f r h = titled-from f.present f.active f.shown f.starred_by f.cancelled f.cleared f.title_row r h

-- ---- counted, so its title stands beyond the seventh row

abbrev pub beyond-of : Option ℕ → Bool
beyond-of None = false
beyond-of (Some r) = not (leb r 7)

counted-by : (b : Bool) (r : ℕ) → is_counted (cond b (Titled r) Counted) ≡ not b
counted-by true r = refl
counted-by false r = refl

counted-from : (p a sh : Bool) (sb : Option ℕ) (ca cl : Bool) (tr : Option ℕ) (re : Bool) → Tied (facts p a sh sb ca cl tr) re → is_some tr ≡ sh → is_counted (standing_of (facts p a sh sb ca cl tr)) ≡ beyond-of tr
unfolding standing_of
counted-from p false false sb ca cl (Some r) re t h = absurd (true≢false h)
counted-from true false false sb ca cl None re t h = refl
counted-from false false false sb ca cl None re t h = refl
counted-from p false true sb ca cl tr false t h = absurd (true≢false (t.shown ∙ and-false (not ca)))
counted-from false false true sb ca cl tr true t h = absurd (true≢false (sym (t.recalled_waits refl).0))
counted-from true false true sb true cl tr true t h = absurd (true≢false t.shown)
counted-from true false true sb false true tr true t h = absurd (true≢false (sym (t.cleared refl)))
counted-from true false true sb false false None true t h = absurd (true≢false (sym h))
counted-from true false true sb false false (Some r) true t h = counted-by (leb r 7) r
counted-from false true sh sb ca cl tr re t h = absurd (true≢false (sym (t.active refl)))
counted-from true true sh sb ca cl tr true t h = absurd (true≢false (t.recalled_waits refl).1)
counted-from true true sh (Some q) ca cl (Some r) false t h = absurd (true≢false (h ∙ t.shown ∙ and-false (not ca)))
counted-from true true sh (Some q) ca cl None false t h = refl
counted-from true true sh None true cl (Some r) false t h = absurd (true≢false (h ∙ t.shown))
counted-from true true sh None true cl None false t h = refl
counted-from true true sh None false true (Some r) false t h = absurd (true≢false (h ∙ t.shown))
counted-from true true sh None false true None false t h = refl
counted-from true true sh None false false (Some r) false t h = counted-by (leb r 7) r
counted-from true true sh None false false None false t h = absurd (true≢false (sym (h ∙ t.shown)))

pub counted-beyond : (f : Facts) (re : Bool) → Tied f re → is_some f.title_row ≡ f.shown → is_counted (standing_of f) ≡ beyond-of f.title_row
counted-beyond f re t h = counted-from f.present f.active f.shown f.starred_by f.cancelled f.cleared f.title_row re t h
