-- What a moment makes of a run, and of whether a value drifts.
use Rattle.std.proofs.Common.{◌≡◌, ℕ, zero, suc, ◌+◌, ◌-◌, ◌≤◌, min, Bool, true, false, not, ◌&&◌, ◌||◌, leb, ltb, ℤ, Option, refl, sym, ◌∙◌, ap, arith}
use Rattle.std.specs.Prelude.{is_some}
use Rattle.std.proofs.lemmas.Bool.Decides.{nat_tests}
use Rattle.ecam_spec.specs.Past.{Signal, historically_within, previous, start_of}
use Rattle.ecam_spec.specs.Term.{is_so}
use Rattle.ecam_spec.proofs.PastSteps.{since-now, start_of-off, start_of-on, start_of-le, start_of-on-le}
use Rattle.ecam_spec.proofs.PastMoments.{historically_within-start}
use Rattle.view_spec.specs.Advisories.{Advisory, is_outside, is_well_inside, is_out, is_back, drift}
use Rattle.advisories.specs.declared.drift.Drift.{Drift}
use Rattle.advisories.specs.Drifts.{run_after, next_run, drift_after}
use Rattle.advisories.specs.Watches.{at_rest, next_drift}

module _ (p : Signal) where
  -- a moment in which it doesn't hold ends a run, and one in which it does makes it longer
  run-off : (k : ℕ) → p k ≡ false → run_after p (suc k) ≡ 0
  run-off k off = omega (arith, start_of-off p k off)

  run-on : (k : ℕ) → p k ≡ true → run_after p (suc k) ≡ run_after p k + 1
  run-on zero on = omega (arith, start_of-on-le p 0 on)
  run-on (suc k) on = omega (arith, start_of-on p k on, start_of-le p k)

  step-off : (most run k : ℕ) → p k ≡ false → next_run most false run ≡ min (most + 1) (run_after p (suc k))
  step-off most run k off = omega (arith, run-off k off)

  bounded : (most run : ℕ) → next_run most true (min (most + 1) run) ≡ min (most + 1) (run + 1)
  bounded most run = grind (arith, nat_tests)

  pub run-next : (most k : ℕ) (holds : Bool) → holds ≡ p k → next_run most holds (min (most + 1) (run_after p k)) ≡ min (most + 1) (run_after p (suc k))
  run-next most k true is = bounded most (run_after p k) ∙ ap (min (most + 1)) (sym (run-on k (sym is)))
  run-next most k false is = step-off most (min (most + 1) (run_after p k)) k (sym is)

  -- it is as long as it has to be where the signal has held for as long
  long-run : (n start k : ℕ) → start ≤ suc k → ltb n (min (n + 1) (suc k - start)) ≡ leb (start + n) k
  long-run n start k within = grind (arith, nat_tests)

  pub run-long : (n k : ℕ) → ltb n (min (n + 1) (run_after p (suc k))) ≡ historically_within n p k
  run-long n k = long-run n (start_of p k) k (start_of-le p k) ∙ sym (historically_within-start n p k)

module _ (a : Advisory) (values : ℕ → Option ℤ) (k : ℕ) (value : Option ℤ) (is : value ≡ values k) where
  pub out-is : is_so (is_outside a) value ≡ is_out a values k
  unfolding is_out
  out-is = ap (is_so (is_outside a)) is

  stays-is : (is_some value && not (is_so (is_well_inside a) value)) ≡ (is_some (values k) && not (is_back a values k))
  unfolding is_back
  stays-is = ap (λ v. is_some v && not (is_so (is_well_inside a) v)) is

  pub drift-next : (run : ℕ) → run ≡ min (a.confirm + 1) (run_after (is_out a values) (suc k)) → (stays before : Bool)
      → stays ≡ (is_some value && not (is_so (is_well_inside a) value)) → before ≡ previous (drift a values) k
      → (ltb a.confirm run || (stays && before)) ≡ drift a values k
  unfolding drift
  drift-next run run-is stays before told was =
      ap (λ r. ltb a.confirm r || (stays && before)) run-is
      ∙ ap (λ b. b || (stays && before)) (run-long (is_out a values) a.confirm k)
      ∙ ap (λ b. historically_within a.confirm (is_out a values) k || (b && before)) (told ∙ stays-is)
      ∙ ap (λ b. historically_within a.confirm (is_out a values) k || ((is_some (values k) && not (is_back a values k)) && b)) was
      ∙ sym (since-now (historically_within a.confirm (is_out a values)) (λ j. is_some (values j) && not (is_back a values j)) k)

-- what is kept before the first moment, and after one more
pub rest-stands : (a : Advisory) (values : ℕ → Option ℤ) → at_rest ≡ drift_after a values 0
unfolding previous
rest-stands a values =
    ap (λ n. let d : Drift = record { run = n; drifts = false } in d) (let none : 0 ≡ min (a.confirm + 1) 0 = omega arith in none)

pub next-stands : (a : Advisory) (values : ℕ → Option ℤ) (k : ℕ) (d : Drift) → d ≡ drift_after a values k → next_drift a (values k) d ≡ drift_after a values (suc k)
unfolding previous
next-stands a values k d was =
    let run : (next_drift a (values k) d).run ≡ min (a.confirm + 1) (run_after (is_out a values) (suc k)) =
    ap (λ (x : Drift). next_run a.confirm (is_so (is_outside a) (values k)) x.run) was ∙ run-next (is_out a values) a.confirm k (is_so (is_outside a) (values k)) (out-is a values k (values k) refl) in
    let drifts : (next_drift a (values k) d).drifts ≡ drift a values k =
    drift-next a values k (values k) refl (next_drift a (values k) d).run run _ d.drifts refl (ap (λ (x : Drift). x.drifts) was) in
    cc
