-- How many moments a pair has counted.
use Rattle.std.proofs.Common.{◌≡◌, ◌≤◌, Bool, true, false, List, length, refl, arith}
use Rattle.std.specs.Prelude.{if◌then◌else◌}
use Rattle.ecam_spec.specs.declared.kinds.Event.{Event}
use Rattle.ecam_spec.specs.Book.{Book}
use Rattle.ecam_spec.specs.History.{era}
use Rattle.ecam_spec.specs.Replay.{moment_of}
use Rattle.fwc_lane.specs.LaneStands.{LaneStands}
use Rattle.fwc_lane.specs.declared.lane.Lane.{Lane}
use Rattle.fwc_pair.specs.PairState.{UpStand, PairStands, moments_of}
use Rattle.fwc_pair.specs.declared.pair.Pair.{Pair}

module _ (b : Book) (h : List Event) where
  lane-counts : (l : Lane) → LaneStands b (era h) l → l.moments ≡ length (era h).moments
  lane-counts l stands = (stands.whole (moment_of (era h)) (λ i w. refl)).counted

  counted-by : (p : Pair) → PairStands b h p → (one two : Bool) → p.one_up ≡ one → p.two_up ≡ two
      → (if one then p.one.moments else (if two then p.two.moments else 0)) ≤ length (era h).moments
  unfolding UpStand
  counted-by p st true two e f = omega (arith, lane-counts p.one (st.up.one e))
  counted-by p st false true e f = omega (arith, lane-counts p.two (st.up.two f))
  counted-by p st false false e f = omega arith

  -- no more than the era has
  pub moments-counted : (p : Pair) → PairStands b h p → moments_of p ≤ length (era h).moments
  moments-counted p st = counted-by p st p.one_up p.two_up refl refl
