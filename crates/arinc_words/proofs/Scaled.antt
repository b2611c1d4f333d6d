-- A part of a range, rounded down, is within the range.
use Rattle.std.proofs.Common.{ℕ, zero, suc, ◌*◌, ◌/◌, ◌^◌, ◌<◌, ◌≤◌, ℤ, w64, pos, negsuc, neg_ℤ, ◌*ℤ◌, ◌≤ℤ◌, arith}
use Rattle.std.proofs.Math.Nat.{div-le_self, div-le_of_le-mul}
use Rattle.std.proofs.lemmas.Nat.{mul-le, div_below}
use Rattle.std.proofs.lemmas.Int.{ints, fits_signed_mul}
use Rattle.std.specs.Int.{int_div_euclid}
use Rattle.std.specs.Int.RustNames.{unsigned_abs, FitsSigned}
use Rattle.arinc_words.proofs.Fields.{pow_small}

negative_high : (m n r : ℕ) → int_div_euclid (neg_ℤ (pos m)) (pos n) ≤ℤ pos r
negative_high zero n r = let none : 0 / n ≤ 0 = div-le_self 0 n in omega (arith, ints)
negative_high (suc m) n r = omega (arith, ints)

negative_low : (m n r : ℕ) → m ≤ n * r → neg_ℤ (pos r) ≤ℤ int_div_euclid (neg_ℤ (pos m)) (pos n)
negative_low zero n r within = omega (arith, ints)
negative_low (suc m) zero r within = absurd (omega arith)
negative_low (suc m) (suc n) r within = let part : m / suc n < r = div_below m (suc n) r (omega arith) (omega arith) in omega (arith, ints)

-- no more than the whole range
pub scaled_high : (z : ℤ) (r n : ℕ) → z ≤ℤ pos n → int_div_euclid (z *ℤ pos r) (pos n) ≤ℤ pos r
scaled_high (pos a) r n high =
    let few : a ≤ n = omega (arith, ints) in
    let part : a * r / n ≤ r = div-le_of_le-mul n (mul-le a r n r few (omega arith)) in
    omega (arith, ints)
scaled_high (negsuc a) r n high = negative_high (suc a * r) n r

-- and no less than minus the whole
pub scaled_low : (z : ℤ) (r n : ℕ) → neg_ℤ (pos n) ≤ℤ z → neg_ℤ (pos r) ≤ℤ int_div_euclid (z *ℤ pos r) (pos n)
scaled_low (pos a) r n low = omega (arith, ints)
scaled_low (negsuc a) r n low =
    let few : suc a ≤ n = omega (arith, ints) in
    negative_low (suc a * r) n r (mul-le (suc a) r n r few (omega arith))

-- a number within n steps is at most n away from 0
abs_within : (z : ℤ) (n : ℕ) → neg_ℤ (pos n) ≤ℤ z → z ≤ℤ pos n → unsigned_abs z ≤ n
abs_within (pos a) n low high = omega (arith, ints)
abs_within (negsuc a) n low high = omega (arith, ints)

-- steps times the range have room
pub product_fits : (steps : ℤ) (range bits : ℕ) → neg_ℤ (pos (2 ^ bits)) ≤ℤ steps → steps ≤ℤ pos (2 ^ bits) → range ≤ 1000000 → bits ≤ 18 → FitsSigned w64 (steps *ℤ pos range)
product_fits steps range bits low high most few =
    let small : 2 ^ bits ≤ 262144 = pow_small bits few in
    let size : 2 ^ bits * 1000000 ≤ 262144 * 1000000 = mul-le (2 ^ bits) 1000000 262144 1000000 small (omega arith) in
    fits_signed_mul w64 steps (pos range) (2 ^ bits) 1000000 (abs_within steps (2 ^ bits) low high) most (omega arith)
