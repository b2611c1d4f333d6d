use Rattle.std.proofs.Common.{◌≡◌, ◌≤◌, false, length, get_or}
use Rattle.alert_truth.specs.Listed.{first_linked, first_lister}
use Rattle.alert_truth.proofs.listers.Listers.primary.Given as goal

-- none of those so far is active
abbrev pub invariant-loop-place : goal.invariant-loop-place
invariant-loop-place l = record {
  within : l.place ≤ length l.self.links.items;
  first : first_linked (λ p. get_or l.active p false) l.self.links.items l.place l.place ≡ first_lister (λ p. get_or l.active p false) l.self l.alert;
}

abbrev pub decreases-loop-place : goal.decreases-loop-place
decreases-loop-place l = l.place
