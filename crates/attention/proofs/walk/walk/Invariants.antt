use Rattle.std.proofs.Common.{◌≡◌, ◌≤◌, ◌<◌, ◌-◌, ◌⊎◌, ℕ, true, false, length, get_or}
use Rattle.ecam_spec.specs.Lamps as lamps
use Rattle.wakes.specs.Marks.{is_marked, room}
use Rattle.attention.specs.Watches.{AreMarked, AreWatched, has_open}
use Rattle.attention.specs.Moments.{IsMoment}
use Rattle.attention.specs.Calling.{HaveRoom}
use Rattle.attention.specs.Latest.{any_rings, Tells}
use Rattle.attention.specs.Walked.{IsStepped, IsLeft}
use Rattle.attention.proofs.walk.walk.Given as goal

abbrev pub invariant-loop-i : goal.invariant-loop-i
invariant-loop-i l = record {
  most : l.i ≤ length l.alerts;
  here : l.i < length l.alerts → is_marked l.looked l.i ≡ true;
  open_room : room l.still_open ≡ room l.initial.still_open;
  callers : HaveRoom (length l.alerts) l.callers;
  still_open : AreMarked has_open l.watches l.still_open;
  latest : Tells (any_rings (length l.alerts) l.watches l.callers.chimes) l.latest;
  stepped : (a : lamps.Attention) (k j : ℕ) → IsMoment a k l.alerts l.moment → AreWatched a k (length l.alerts) l.initial.watches
      → j < l.i → is_marked l.looked j ≡ true
      → IsStepped a k j (get_or l.moment.shown.now j false) l.watches l.callers;
  left : (j : ℕ) → (is_marked l.looked j ≡ false) ⊎ (l.i ≤ j) → IsLeft j l.initial.watches l.initial.callers l.watches l.callers;
}

abbrev pub decreases-loop-i : goal.decreases-loop-i
decreases-loop-i l = length l.alerts - l.i
