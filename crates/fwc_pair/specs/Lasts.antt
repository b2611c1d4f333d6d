-- Which moment the picture that stands is of.
use Rattle.std.specs.Prelude.{◌≡◌, ℕ, suc, false, List, length}
use Rattle.ecam_spec.specs.declared.kinds.Event.{Event}
use Rattle.ecam_spec.specs.History.{none_up, flags_after, era}

-- a computer is up after the history, and moment k is the last whole one of its era
pub record IsLast (h : List Event) (k : ℕ) : Type 0 where
  pub up : none_up (flags_after h) ≡ false
  pub count : length (era h).moments ≡ suc k
