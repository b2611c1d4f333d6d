-- The data of a group, bit by bit.
use Rattle.std.proofs.Common.{◌≡◌, ℕ, suc, ◌+◌, ◌*◌, ◌%◌, ◌^◌, ◌<◌, ◌≤◌, Bool, true, false, List, [], ◌∷◌, ◌++◌, length, get_or, take, cond, refl, sym, ap, ◌∙◌, arith, subst, add-one}
use Rattle.std.proofs.Math.Nat.{pow-suc, pow-le-pow_right}
use Rattle.std.proofs.Math.Seq.{take-suc}
use Rattle.std.proofs.lemmas.List.{length-take, take_all}
use mir.Val.{bool_byte}
use Rattle.view_spec.specs.OutputWords.{number_of}

-- a flag as a number
pub as_bit : (b : Bool) → bool_byte b ≡ cond b 1 0
as_bit true = refl
as_bit false = refl

-- a further bit stands above the others
pub number_of-push : (bs : List Bool) (b : Bool) → number_of (bs ++ b ∷ []) ≡ number_of bs + cond b 1 0 * 2 ^ length bs
unfolding number_of
number_of-push [] b = omega arith
number_of-push (a ∷ bs) b =
    let rest : number_of (bs ++ b ∷ []) ≡ number_of bs + cond b 1 0 * 2 ^ length bs = number_of-push bs b in
    let twice : 2 ^ suc (length bs) ≡ 2 ^ length bs * 2 = pow-suc 2 (length bs) in
    elim b as (λ x. number_of (bs ++ b ∷ []) ≡ number_of bs + cond x 1 0 * 2 ^ length bs → cond a 1 0 + 2 * number_of (bs ++ b ∷ []) ≡ cond a 1 0 + 2 * number_of bs + cond x 1 0 * 2 ^ suc (length bs)) [
      | true ↦ λ r. omega (arith, twice)
      | false ↦ λ r. omega arith
    ] rest

-- a number of so many bits
pub number_of-small : (bs : List Bool) → number_of bs < 2 ^ length bs
unfolding number_of
number_of-small [] = omega arith
number_of-small (b ∷ bs) =
    let rest : number_of bs < 2 ^ length bs = number_of-small bs in
    let twice : 2 ^ suc (length bs) ≡ 2 ^ length bs * 2 = pow-suc 2 (length bs) in
    let bit : cond b 1 0 ≤ 1 = elim b as (λ x. cond x 1 0 ≤ 1) [ true ↦ omega arith | false ↦ omega arith ] in
    omega (arith, twice)

module _ (bs : List Bool) (i : ℕ) (within : i < length bs) where
  -- the first bits and one more
  pub number_of-take : number_of (take (suc i) bs) ≡ number_of (take i bs) + cond (get_or bs i false) 1 0 * 2 ^ i
  number_of-take =
      ap number_of (take-suc bs i false within)
      ∙ number_of-push (take i bs) (get_or bs i false)
      ∙ ap (λ n. number_of (take i bs) + cond (get_or bs i false) 1 0 * 2 ^ n) (let e : length (take i bs) ≡ i = omega (arith, length-take i bs) in e)

  module _ (few : length bs ≤ 16) (byte number : ℕ) (byte_is : byte ≡ cond (get_or bs i false) 1 0) (is : number ≡ number_of (take i bs)) where
    -- a bit is moved to its place
    moved : byte * 2 ^ i % 2 ^ 32 ≡ cond (get_or bs i false) 1 0 * 2 ^ i
    moved =
        let low : 2 ^ i ≤ 2 ^ 16 = pow-le-pow_right (omega arith) (let e : i ≤ 16 = omega arith in e) in
        rw byte_is (elim (get_or bs i false) as (λ x. cond x 1 0 * 2 ^ i % 2 ^ 32 ≡ cond x 1 0 * 2 ^ i) [ true ↦ omega (arith, low) | false ↦ omega arith ])

    pub with_bit : number + byte * 2 ^ i % 2 ^ 32 ≡ number_of (take (i + 1) bs)
    with_bit = ap (λ n. number + n) moved ∙ ap (λ n. n + cond (get_or bs i false) 1 0 * 2 ^ i) is ∙ sym number_of-take ∙ ap (λ n. number_of (take n bs)) (sym (add-one i))

    pub with_bit-small : number + byte * 2 ^ i % 2 ^ 32 < 2 ^ (i + 1)
    with_bit-small =
        let size : length (take (i + 1) bs) ≡ i + 1 = omega (arith, length-take (i + 1) bs) in
        subst (λ n. n < 2 ^ (i + 1)) (sym with_bit) (subst (λ n. number_of (take (i + 1) bs) < 2 ^ n) size (number_of-small (take (i + 1) bs)))

    pub with_bit-fits : number + byte * 2 ^ i % 2 ^ 32 < 2 ^ 32
    with_bit-fits =
        let high : 2 ^ (i + 1) ≤ 2 ^ 16 = pow-le-pow_right (omega arith) (let e : i + 1 ≤ 16 = omega arith in e) in
        omega (arith, with_bit-small)

-- all bits are in
pub all_bits : (bs : List Bool) (i number : ℕ) → length bs ≤ i → number ≡ number_of (take i bs) → number ≡ number_of bs
all_bits bs i number over is = is ∙ ap number_of (take_all i bs over)

pub all_bits-small : (bs : List Bool) (number : ℕ) → length bs ≤ 16 → number ≡ number_of bs → number < 2 ^ 19
all_bits-small bs number few is =
    let high : 2 ^ length bs ≤ 2 ^ 16 = pow-le-pow_right (omega arith) few in
    omega (arith, number_of-small bs)
