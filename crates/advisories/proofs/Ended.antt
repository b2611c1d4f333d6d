-- The last whole moment of a computer: what it stands for then.
use Rattle.std.proofs.Common.{ℕ, suc, subst}
use Rattle.ecam_spec.specs.Book.{Book}
use Rattle.ecam_spec.specs.History.{Moment}
use Rattle.fwc_lane.specs.LaneStands.{WholeStands}
use Rattle.fwc_lane.specs.declared.lane.Lane.{Lane}
use Rattle.advisories.specs.State.{HasEnded}

pub whole-ended : (b : Book) (m : ℕ → Moment) (k : ℕ) (l : Lane) → HasEnded b m k l → WholeStands b m (suc k) l
whole-ended b m k l ended = subst (λ n. WholeStands b m n l) ended.counted (ended.stands.whole m ended.goes)
