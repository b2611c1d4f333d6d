-- What a walk over some alerts leaves of each.
use Rattle.std.specs.Prelude.{◌≡◌, ℕ, suc, ◌&&◌, Bool, List, slice_get, Some}
use Rattle.ecam_spec.specs.Lamps as lamps
use Rattle.attention.specs.declared.callers.Callers.{Callers}
use Rattle.attention.specs.declared.watch.Watch.{Watch}
use Rattle.attention.specs.Watches.{watch_after}
use Rattle.attention.specs.Calling.{marks_at, marks_for}

-- alert i, which is shown or isn't, has been stepped to moment k
pub record IsStepped (a : lamps.Attention) (k i : ℕ) (shown : Bool) (watches : List Watch) (callers : Callers) : Type 0 where
  pub watch : slice_get watches i ≡ Some (watch_after a i (suc k))
  pub marks : marks_at callers i ≡ marks_for (a.level i) (a.sound i) (shown && lamps.calls a i k)

-- it is as it was
pub record IsLeft (i : ℕ) (watches : List Watch) (callers : Callers) (news : List Watch) (next : Callers) : Type 0 where
  pub watch : slice_get news i ≡ slice_get watches i
  pub marks : marks_at next i ≡ marks_at callers i
