-- The last number below n that passes, step by step.
use Rattle.std.proofs.Common.{◌≡◌, ℕ, suc, Bool, true, false, Some, None, cond, refl}
use Rattle.book_model.specs.SourcePlaces.{last_below}

pub last_below-suc : (p : ℕ → Bool) (n : ℕ) → last_below p (suc n) ≡ cond (p n) (Some n) (last_below p n)
unfolding last_below
last_below-suc p n = elim (p n) as (λ b. elim b [ true ↦ Some n | false ↦ last_below p n ] ≡ cond b (Some n) (last_below p n)) [ true ↦ refl | false ↦ refl ]

pub last_below-zero : (p : ℕ → Bool) → last_below p 0 ≡ None
unfolding last_below
last_below-zero p = refl
