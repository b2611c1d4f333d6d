-- The numbers of a set's phases as a loop writes them, one after the other.
use Rattle.std.proofs.Common.{◌≡◌, ℕ, suc, ◌+◌, ◌-◌, ◌<◌, ◌≤◌, Bool, true, false, List, [], ◌∷◌, ◌++◌, cond, sym, ◌∙◌, ap, add-one, arith}
use Rattle.std.specs.Prelude.{filter, decimal}
use Rattle.ecam_spec.specs.Term.{in_set}
use Rattle.term_text.specs.Written.{numbers_from, numbers_after, separator}

-- the phases of a set from a number up to 10
abbrev pub phases_from : ℕ → ℕ → List ℕ
phases_from set n = filter (in_set set) (numbers_from (11 - n) n)

numbers_next : (n : ℕ) → n < 11 → numbers_from (11 - n) n ≡ n ∷ numbers_from (11 - (n + 1)) (n + 1)
unfolding numbers_from
numbers_next n within =
    let e : 11 - n ≡ suc (11 - (n + 1)) = omega arith in
    ap (λ (k : ℕ). numbers_from k n) e ∙ ap (λ (k : ℕ). n ∷ numbers_from (11 - (n + 1)) k) (sym (add-one n))

phases_next : (set n : ℕ) → n < 11 → phases_from set n ≡ cond (in_set set n) (n ∷ phases_from set (n + 1)) (phases_from set (n + 1))
phases_next set n within = ap (filter (in_set set)) (numbers_next n within)

pub phase_here : (set n : ℕ) (is_first : Bool) → n < 11 → in_set set n ≡ true → numbers_after is_first (phases_from set n) ≡ separator is_first ++ decimal n ++ numbers_after false (phases_from set (n + 1))
unfolding numbers_after
phase_here set n is_first within is =
    ap (numbers_after is_first) (phases_next set n within ∙ ap (λ (b : Bool). cond b (n ∷ phases_from set (n + 1)) (phases_from set (n + 1))) is)

pub phase_past : (set n : ℕ) (is_first : Bool) → n < 11 → in_set set n ≡ false → numbers_after is_first (phases_from set n) ≡ numbers_after is_first (phases_from set (n + 1))
phase_past set n is_first within is =
    ap (numbers_after is_first) (phases_next set n within ∙ ap (λ (b : Bool). cond b (n ∷ phases_from set (n + 1)) (phases_from set (n + 1))) is)

pub phases_end : (set n : ℕ) (is_first : Bool) → 11 ≤ n → numbers_after is_first (phases_from set n) ≡ []
unfolding numbers_from numbers_after
phases_end set n is_first past =
    let e : 11 - n ≡ 0 = omega arith in
    ap (λ (k : ℕ). numbers_after is_first (filter (in_set set) (numbers_from k n))) e
