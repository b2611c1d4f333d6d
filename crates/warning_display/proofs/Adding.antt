-- Rows added to a zone of seven, one after another.
use Rattle.std.proofs.Common.{◌≡◌, ℕ, ◌+◌, ◌<◌, min, Bool, true, false, List, [], ◌∷◌, ◌++◌, map, take, slice_get, Some, cond, refl, sym, ◌∙◌, ap, arith, length-append}
use Rattle.std.specs.Prelude.{filter}
use Rattle.ecam_spec.specs.Picture.{Row}
use Rattle.zone_rows.specs.Tracked.{TrackedRows}
use Rattle.zone_rows.specs.Mended.{Appends}
use Rattle.zone_rows.proofs.Filling.{append-none, append-both}
use Rattle.warning_display.specs.Counted.{Adds}
use Rattle.warning_display.proofs.Passing.{filter-on, taken}

pub adds-none : (first total : ℕ) (t : TrackedRows) → Adds first [] total total t t
adds-none first total t = record { rows = append-none first 7 (min total 8) t; count = omega arith }

pub adds-one : (first : ℕ) (r : Row) (total counted : ℕ) (old new : TrackedRows) → Appends first 7 (r ∷ []) (min total 8) counted old new → counted ≡ min (min total 8 + 1) (7 + 1) → Adds first (r ∷ []) total (total + 1) old new
adds-one first r total counted old new put is =
    let here : counted ≡ min (total + 1) 8 = omega (arith, is) in
    record { rows = rw here at put; count = refl }

pub adds-both : (first : ℕ) (these those : List Row) (a b c : ℕ) (s t u : TrackedRows) → Adds first these a b s t → Adds first those b c t u → Adds first (these ++ those) a c s u
adds-both first these those a b c s t u p q = record {
  rows = append-both first 7 these those (min a 8) (min b 8) (min c 8) s t u p.rows q.rows;
  count = omega (arith, p.count, q.count, length-append these those);
}

pub adds-on : (first : ℕ) {X : Type 0} (f : X → Row) (test : X → Bool) (xs : List X) (i : ℕ) (x : X) (told : Bool) → slice_get xs i ≡ Some x → told ≡ test x → (a b c : ℕ) (s t u : TrackedRows)
    → Adds first (map f (filter test (take i xs))) a b s t → Adds first (cond told (f x ∷ []) []) b c t u → Adds first (map f (filter test (take (i + 1) xs))) a c s u
adds-on first f test xs i x told here tells a b c s t u before next =
    let on : map f (filter test (take (i + 1) xs)) ≡ map f (filter test (take i xs)) ++ cond told (f x ∷ []) [] =
    ap (λ ys. map f (filter test ys)) (taken xs i x here)
    ∙ filter-on f test (take i xs) x
    ∙ ap (λ d. map f (filter test (take i xs)) ++ cond d (f x ∷ []) []) (sym tells) in
    rw on (adds-both first (map f (filter test (take i xs))) (cond told (f x ∷ []) []) a b c s t u before next)

-- so few are counted
pub adds-few : (first : ℕ) (told : Bool) (r : Row) (total later : ℕ) (old new : TrackedRows) → Adds first (cond told (r ∷ []) []) total later old new → later < total + 2
adds-few first true r total later old new p = omega (arith, p.count)
adds-few first false r total later old new p = omega (arith, p.count)
