-- What holds from a moment on, by the start of the stretch with p and by the last moment with p.
use Rattle.std.proofs.Common.{◌≡◌, ℕ, zero, suc, ◌<◌, ◌≤◌, Bool, true, false, ◌&&◌, ◌||◌, Some, None, inl, inr, ltb, leb, cond, refl, sym, ◌∙◌, ap, arith}
use Rattle.std.proofs.lemmas.Bool.{cases_lt, le-leb}
use Rattle.std.proofs.lemmas.Bool.Decides.{nat_tests}
use Rattle.std.specs.Option.{option_map_or}
use Rattle.std.proofs.Math.Bool.{and-true, and-false}
use Rattle.ecam_spec.specs.Past.{Signal, once, historically, once_from, historically_from, last, start_of}
use Rattle.ecam_spec.proofs.PastSteps.{historically_from-suc, historically_from-after, once_from-after, start_of-suc, start_of-zero, start_of-le}

true-leb : (a b : ℕ) → a ≤ b → true ≡ leb a b
true-leb a b h = sym (le-leb a b h)

false-leb : (a b : ℕ) → b < a → false ≡ leb a b
false-leb a b h = grind (arith, nat_tests)

in_stretch : (b c : Bool) (start j k : ℕ) → j ≤ suc k → c ≡ leb start j → (b && c) ≡ leb (cond b start (suc (suc k))) j
in_stretch true c start j k within h = h
in_stretch false c start j k within h = false-leb (suc (suc k)) j (omega arith)

from_first : (b : Bool) (j : ℕ) → j ≤ 1 → (ltb 0 j || b) ≡ leb (cond b 0 1) j
from_first true j within = grind (arith, nat_tests)
from_first false j within = grind (arith, nat_tests)

-- p held from j on where its stretch begins no later
pub historically_from-start : (j : ℕ) (p : Signal) (k : ℕ) → j ≤ suc k → historically_from j p k ≡ leb (start_of p k) j
unfolding historically_from historically
historically_from-start j p zero within = rw start_of-zero (from_first (p 0) j within)
historically_from-start j p (suc k) within =
    elim (cases_lt (suc k) j) [
      | inr before ↦
          historically_from-suc j p k before
          ∙ in_stretch (p (suc k)) (historically_from j p k) (start_of p k) j k before (historically_from-start j p k before)
          ∙ ap (λ b. leb b j) (sym (start_of-suc p k))
      | inl after ↦
          let whole : historically_from j p (suc k) ≡ true = historically_from-after j p (suc k) (omega arith) in
          let early : start_of p (suc k) ≤ suc (suc k) = start_of-le p (suc k) in
          let here : true ≡ leb (start_of p (suc k)) j = true-leb (start_of p (suc k)) j (omega arith) in
          whole ∙ here
    ]

last_one : (j k : ℕ) (b : Bool) → (k < j → b ≡ false) → (leb j k && true || b) ≡ leb j k
last_one j k b early =
    elim (cases_lt k j) [
      | inl after ↦ let none : b ≡ false = early after in let past : leb j k ≡ false = grind (arith, nat_tests) in rw (past, none) refl
      | inr before ↦ let here : leb j k ≡ true = le-leb j k before in rw here refl
    ]

-- p in some moment from j on, where its last moment isn't before
pub once_from-last : (j : ℕ) (p : Signal) (k : ℕ) → once_from j p k ≡ option_map_or (leb j) (last p k) false
unfolding once_from once last
once_from-last j p zero = elim (p 0) as (λ b. (leb j 0 && b) ≡ option_map_or (leb j) (elim b [ true ↦ Some 0 | false ↦ None ]) false) [ true ↦ and-true (leb j 0) | false ↦ and-false (leb j 0) ]
once_from-last j p (suc k) =
    elim (p (suc k)) as (λ b. ((leb j (suc k) && b) || once_from j p k) ≡ option_map_or (leb j) (elim b [ true ↦ Some (suc k) | false ↦ last p k ]) false)
    [ true ↦ last_one j (suc k) (once_from j p k) (λ after. once_from-after j p k (omega arith)) | false ↦ ap (λ b. b || once_from j p k) (and-false (leb j (suc k))) ∙ once_from-last j p k ]
