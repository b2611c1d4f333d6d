-- The phases of a set, rising, make the set again.
use Rattle.std.proofs.Common.{◌≡◌, ℕ, zero, suc, ◌+◌, ◌-◌, ◌*◌, ◌/◌, ◌%◌, ◌^◌, ◌<◌, ◌≤◌, Bool, true, false, cond, eqb, List, [], ◌∷◌, refl, sym, ◌∙◌, ap, arith, add-zero, mod-eq_of_lt}
use Rattle.std.specs.Prelude.{fold, filter, bit_or}
use Rattle.std.proofs.lemmas.Bool.{eqb-true, eqb-false}
use Rattle.std.proofs.lemmas.Nat.{or_comm, or_shifted, mod-pow-add, mod_below, pow_pos}
use Rattle.ecam_spec.specs.Term.{in_set}
use Rattle.ecam_spec.specs.TermNumber.{one_phase}
use Rattle.term_text.specs.Written.{numbers_from, phases_of}

-- a set with further phases
abbrev pub with_phases : ℕ → List ℕ → ℕ
with_phases set ps = fold (λ s p. bit_or s (one_phase p)) set ps

-- one bit more of a number
next_bit : (set k : ℕ) → set % 2 ^ (suc k) ≡ (set / 2 ^ k % 2) * 2 ^ k + set % 2 ^ k
next_bit set k =
    let e : suc k ≡ 1 + k = omega arith in
    ap (λ (n : ℕ). set % 2 ^ n) e ∙ mod-pow-add set 1 k

one_more_phase : (set k : ℕ) → bit_or (set % 2 ^ k) (2 ^ k) ≡ 2 ^ k + set % 2 ^ k
one_more_phase set k =
    let e : 1 * 2 ^ k ≡ 2 ^ k = omega arith in
    or_comm (set % 2 ^ k) (2 ^ k) ∙ ap (λ (n : ℕ). bit_or n (set % 2 ^ k)) (sym e)
    ∙ or_shifted 1 k (set % 2 ^ k) (mod_below set (2 ^ k) (pow_pos k)) ∙ ap (λ (n : ℕ). n + set % 2 ^ k) e

bit_is_set : (set k b : ℕ) → set / 2 ^ k % 2 ≡ b → eqb b 1 ≡ true → bit_or (set % 2 ^ k) (2 ^ k) ≡ set % 2 ^ (suc k)
bit_is_set set k b is one =
    let e : set / 2 ^ k % 2 ≡ 1 = is ∙ eqb-true b 1 one in
    one_more_phase set k ∙ sym (next_bit set k ∙ ap (λ (n : ℕ). n * 2 ^ k + set % 2 ^ k) e ∙ omega arith)

bit_is_clear : (set k b : ℕ) → set / 2 ^ k % 2 ≡ b → eqb b 1 ≡ false → set % 2 ^ k ≡ set % 2 ^ (suc k)
bit_is_clear set k b is none =
    let e : set / 2 ^ k % 2 ≡ 0 = omega (arith, eqb-false b 1 none, mod_below (set / 2 ^ k) 2) in
    sym (next_bit set k ∙ ap (λ (n : ℕ). n * 2 ^ k + set % 2 ^ k) e ∙ omega arith)

-- the bits up to a place, and the phases from there on, make all of them
phases_more : (set k : ℕ) (ps : List ℕ) (b : Bool) → in_set set (suc k) ≡ b → with_phases (set % 2 ^ k) (cond b (suc k ∷ ps) ps) ≡ with_phases (set % 2 ^ (suc k)) ps
phases_more set k ps true is =
    let e : suc k - 1 ≡ k = omega arith in
    let grown = bit_is_set set k (set / 2 ^ (suc k - 1) % 2) (ap (λ (n : ℕ). set / 2 ^ n % 2) (sym e)) is in
    ap (λ (n : ℕ). with_phases (bit_or (set % 2 ^ k) (2 ^ n)) ps) e ∙ ap (λ (s : ℕ). with_phases s ps) grown
phases_more set k ps false is =
    let e : suc k - 1 ≡ k = omega arith in
    ap (λ (s : ℕ). with_phases s ps) (bit_is_clear set k (set / 2 ^ (suc k - 1) % 2) (ap (λ (n : ℕ). set / 2 ^ n % 2) (sym e)) is)

phases_up_to : (set c k : ℕ) → with_phases (set % 2 ^ k) (filter (in_set set) (numbers_from c (suc k))) ≡ set % 2 ^ (k + c)
unfolding numbers_from
phases_up_to set zero k = ap (λ (n : ℕ). set % 2 ^ n) (sym (add-zero k))
phases_up_to set (suc c) k =
    let e : suc k + c ≡ k + suc c = omega arith in
    phases_more set k (filter (in_set set) (numbers_from c (suc (suc k)))) (in_set set (suc k)) refl
    ∙ phases_up_to set c (suc k) ∙ ap (λ (n : ℕ). set % 2 ^ n) e

pub phases_make_set : (set : ℕ) → set < 1024 → with_phases 0 (phases_of set) ≡ set
phases_make_set set small =
    let none : 0 ≡ set % 2 ^ 0 = omega arith in
    ap (λ (s : ℕ). with_phases s (phases_of set)) none ∙ phases_up_to set 10 0 ∙ mod-eq_of_lt small

-- the numbers of phases
abbrev pub ArePhases : List ℕ → Type 0
ArePhases [] = Unit {0}
ArePhases (p ∷ ps) = (1 ≤ p) × (p ≤ 10) × ArePhases ps

kept_or_not : (b : Bool) (p : ℕ) (ps : List ℕ) → 1 ≤ p → p ≤ 10 → ArePhases ps → ArePhases (cond b (p ∷ ps) ps)
kept_or_not true p ps low high are = (low, high, are)
kept_or_not false p ps low high are = are

are_phases : (set c first : ℕ) → 1 ≤ first → first + c ≤ 11 → ArePhases (filter (in_set set) (numbers_from c first))
unfolding numbers_from
are_phases set zero first low high = tt
are_phases set (suc c) first low high = kept_or_not (in_set set first) first (filter (in_set set) (numbers_from c (suc first))) low (omega arith) (are_phases set c (suc first) (omega arith) (omega arith))

pub phases_are_phases : (set : ℕ) → ArePhases (phases_of set)
phases_are_phases set = are_phases set 10 1 (omega arith) (omega arith)
