-- What a moment makes of the heights that are armed, and which of them it calls.
use Rattle.std.proofs.Common.{◌≡◌, ℕ, suc, ◌+◌, not, ◌&&◌, ℤ, Option, find, sym, ◌∙◌, ap}
use Rattle.ecam_spec.specs.Past.{previous}
use Rattle.ecam_spec.proofs.PastSteps.{since-now}
use Rattle.view_spec.specs.Callouts.{heights, margin, is_above, is_at_most, armed, crossed, call}
use Rattle.callouts.specs.declared.state.Callouts.{Callouts}
use Rattle.callouts.specs.State.{AreArmed, rearmed, CalloutsStand}
use Rattle.callouts.proofs.InOrder.{map-agree}

module _ (values : ℕ → Option ℤ) (k : ℕ) (value : Option ℤ) (is : value ≡ values k) where
  -- it calls the least height that was armed and that the value is at most
  pub call-by : find (λ h. is_at_most h value && previous (armed values h) k) heights ≡ call values k
  unfolding call crossed
  call-by = ap (λ v. find (λ h. is_at_most h v && previous (armed values h) k) heights) is

  armed-by : (h : ℕ) → rearmed value h (previous (armed values h) k) ≡ armed values h k
  unfolding armed
  armed-by h =
      ap (λ v. rearmed v h (previous (armed values h) k)) is
      ∙ sym (since-now (λ k. is_above (h + margin) (values k)) (λ k. not (is_at_most h (values k))) k)

  -- and arms each height anew
  pub stands-on : (c : Callouts) → AreArmed (λ h. rearmed value h (previous (armed values h) k)) c → CalloutsStand values (suc k) c
  unfolding previous
  stands-on c after = after ∙ map-agree (λ h. rearmed value h (previous (armed values h) k)) (λ h. armed values h k) heights armed-by
