-- A flight phase is one of ten.
use Rattle.std.proofs.Common.{ℕ, ◌≤◌, Bool, true, false, cond, arith}
use Rattle.ecam_spec.specs.Phase.{Flight, parked_phase, ground_phase, air_phase, phase}

abbrev pub IsOneOfTen : ℕ → Type 0
IsOneOfTen n = (1 ≤ n) × (n ≤ 10)

either : (b : Bool) (x y : ℕ) → IsOneOfTen x → IsOneOfTen y → IsOneOfTen (cond b x y)
either true x y h k = h
either false x y h k = k

ten : (n : ℕ) → 1 ≤ n → n ≤ 10 → IsOneOfTen n
ten n h k = (h, k)

module _ (f : Flight) (k : ℕ) where
  parked-within : IsOneOfTen (parked_phase f k)
  unfolding parked_phase
  parked-within = either _ 10 1 (ten 10 (omega arith) (omega arith)) (ten 1 (omega arith) (omega arith))

  ground-within : IsOneOfTen (ground_phase f k)
  unfolding ground_phase
  ground-within =
      either (f.tp k) _ _ (either (f.fast k) 4 3 (ten 4 (omega arith) (omega arith)) (ten 3 (omega arith) (omega arith)))
      (either (f.fast k) 8 _ (ten 8 (omega arith) (omega arith))
      (either _ 9 2 (ten 9 (omega arith) (omega arith)) (ten 2 (omega arith) (omega arith))))

  air-within : IsOneOfTen (air_phase f k)
  unfolding air_phase
  air-within =
      either _ _ 5 (either _ 6 7 (ten 6 (omega arith) (omega arith)) (ten 7 (omega arith) (omega arith))) (ten 5 (omega arith) (omega arith))

  pub phase-within : IsOneOfTen (phase f k)
  unfolding phase
  phase-within = either (f.gnd k) _ _ (either (f.run k) _ _ ground-within parked-within) air-within
