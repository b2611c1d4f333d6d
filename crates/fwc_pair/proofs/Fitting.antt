-- A pair that fits its book.
use Rattle.std.proofs.Common.{◌≡◌, ℕ, ◌^◌, ◌<◌, ◌==◌, Bool, true, false, refl, sym, subst, cond, arith}
use Rattle.ecam_spec.specs.Book.{Book}
use Rattle.fwc_lane.specs.LaneFits.{LaneFits}
use Rattle.fwc_lane.specs.declared.lane.Lane.{Lane}
use Rattle.fwc_pair.specs.declared.pair.Pair.{Pair}
use Rattle.fwc_pair.specs.PairState.{PairFits, moments_of}

-- one of two lanes
pub either-fits : (b : Book) (on : Bool) (one two : Lane) → LaneFits b one → LaneFits b two → LaneFits b (cond on one two)
either-fits b true one two first second = first
either-fits b false one two first second = second

-- a computer fails
pub fail-fits : (b : Book) (n : ℕ) (old new : Pair) → new ≡ cond (n == 1) (record old { one_up = false }) (record old { two_up = false }) → PairFits b old → PairFits b new
unfolding PairFits
fail-fits b n old new is fits = subst (PairFits b) (sym is) (by (n == 1)) where
  by : (one : Bool) → PairFits b (cond one (record old { one_up = false }) (record old { two_up = false }))
  by true = record { one = fits.one; two = fits.two; together = λ e f. absurd (let w : ⊥ = cc in w); still = fits.still }
  by false = record { one = fits.one; two = fits.two; together = λ e f. absurd (let w : ⊥ = cc in w); still = fits.still }

-- where the moments of the pair can grow, so can those of each computer that is up
module _ (p : Pair) (small : moments_of p < 2 ^ 63) where
  pub one-grows : p.one_up ≡ true → p.one.moments < 2 ^ 63
  one-grows on = subst (λ u. cond u p.one.moments (cond p.two_up p.two.moments 0) < 2 ^ 63) on small

  pub two-grows : (p.one_up ≡ true → p.two_up ≡ true → p.two.moments ≡ p.one.moments) → p.two_up ≡ true → p.two.moments < 2 ^ 63
  two-grows together on = by p.one_up refl where
    by : (u : Bool) → p.one_up ≡ u → p.two.moments < 2 ^ 63
    by true e = omega (arith, together e on, one-grows e)
    by false e = subst (λ u. cond u p.two.moments 0 < 2 ^ 63) on (subst (λ u. cond u p.one.moments (cond p.two_up p.two.moments 0) < 2 ^ 63) e small)
