-- When two histories come to the same for all that follows.
use Rattle.std.specs.Prelude.{◌≡◌, false, List}
use Rattle.ecam_spec.specs.declared.kinds.Event.{Event}
use Rattle.ecam_spec.specs.Book.{Book}
use Rattle.ecam_spec.specs.History.{none_up, flags_after, era}
use Rattle.ecam_spec.specs.Replay.{last_picture}
use Rattle.ecam_kinds.specs.Shown.{picture_of}
use Rattle.fwc_pair.specs.declared.pair.Pair.{Pair}
use Rattle.fwc_pair.specs.PairState.{flags_of}

-- the same computers are up, the same picture stands, and where a computer is up the era is the
-- same
pub record ComeToTheSame (b : Book) (g h : List Event) : Type 0 where
  pub flags : flags_after g ≡ flags_after h
  pub face : last_picture b g ≡ last_picture b h
  pub era : none_up (flags_after h) ≡ false → era g ≡ era h

-- two pairs have the same computers up and show the same picture, and where a computer is up
-- their eras are the same
pub record AgreeWhereUp (g h : List Event) (p q : Pair) : Type 0 where
  pub flags : flags_of p ≡ flags_of q
  pub face : picture_of p.face ≡ picture_of q.face
  pub era : none_up (flags_of q) ≡ false → era g ≡ era h
