-- What a book's program writes of a whole history or record: its pictures, the blocks of their changes, and
-- where each alert stands at the end.
use Rattle.std.specs.Prelude.{ℕ, zero, suc, ◌+◌, ◌-◌, Bool, true, false, ◌==◌, List, [], ◌∷◌, ◌++◌, length, get_or, count_by, flat_map, is_none, if◌then◌else◌}
use Rattle.ecam_spec.specs.declared.kinds.Event.{Event}
use Rattle.ecam_spec.specs.declared.kinds.Event.TheVariants.{Tick}
use Rattle.ecam_spec.specs.declared.kinds.Standing.{Standing}
use Rattle.ecam_spec.specs.declared.kinds.Standing.TheVariants.{Dead, Quiet}
use Rattle.ecam_spec.specs.Book.{Text, Book}
use Rattle.ecam_spec.specs.History.{none_up, flags_after, Moment, Era, era}
use Rattle.ecam_spec.specs.Record.{fault, events}
use Rattle.ecam_spec.specs.Picture.{Picture, dead}
use Rattle.ecam_spec.specs.Output.{line, picture_before, blocks, end_line}
use Rattle.ecam_spec.specs.Alert.{starred_by}
use Rattle.ecam_spec.specs.LeftZone.{title_row}
use Rattle.ecam_spec.specs.Standing.{standing_of, standing_text}
use Rattle.ecam_spec.specs.Situation.{alert_at, primaries, present_in, active_in}
use Rattle.ecam_spec.specs.Screen.{alert_numbers, cleared_in, cancelled_in, is_shown_in, left_in, picture_in}

abbrev pub is_tick : Event → Bool
is_tick Tick = true
is_tick _ = false

unfoldable pub tick_count : List Event → ℕ
tick_count h = count_by is_tick h

-- a history up to its n-th Tick, with it
unfoldable pub through : ℕ → List Event → List Event
through zero h = []
through (suc n) [] = []
through (suc n) (e ∷ h) = e ∷ through (if is_tick e then n else suc n) h

-- the moments of an era by their numbers, that which hasn't ended among them
unfoldable pub moment_of : Era → ℕ → Moment
moment_of e k = get_or (e.moments ++ e.open_moment ∷ []) k e.open_moment

module _ (b : Book) where
  -- the picture at the Tick that ends a history: that of the last whole moment of its era
  unfoldable pub picture_at : List Event → Picture
  picture_at h =
      if none_up (flags_after h) then dead
      else picture_in b (moment_of (era h)) (length (era h).moments - 1)

  -- the picture of Tick number t
  unfoldable pub picture : List Event → ℕ → Picture
  picture h t = picture_at (through (t + 1) h)

  -- the picture with which that of the next Tick is compared: that of the last Tick, blank before the first
  unfoldable pub last_picture : List Event → Picture
  last_picture h = picture_before (picture h) (tick_count h)

  -- what is written of a history
  unfoldable pub history_blocks : List Event → Text
  history_blocks h = blocks (picture h) (tick_count h)

  -- what is written of a record under a limit on its bytes: the blocks before its first fault, and without a
  -- fault the line that ends it
  unfoldable pub reply : Text → ℕ → Text
  reply text limit =
      history_blocks (events text limit)
      ++ (if is_none (fault text limit) then end_line (tick_count (events text limit)) else [])

  -- where alert a stands in moment k of an era
  unfoldable pub standing_in : (ℕ → Moment) → ℕ → ℕ → Standing
  standing_in moments k a =
      standing_of (record {
        present = present_in b moments a k;
        active = active_in b moments a k;
        shown = is_shown_in b moments a k;
        starred_by = starred_by (active_in b moments) (primaries b a) k;
        cancelled = cancelled_in b moments a k;
        cleared = cleared_in b moments a k;
        title_row = title_row a (left_in b moments k);
      })

  -- where alert a stands after a history: in the last whole moment of its era, if there is one
  unfoldable pub standing : List Event → ℕ → Standing
  standing h a =
      if none_up (flags_after h) then Dead
      else (if length (era h).moments == 0 then Quiet
      else standing_in (moment_of (era h)) (length (era h).moments - 1) a)

  -- the lines of `why`, an alert each in the book's order
  unfoldable pub standing_lines : List Event → Text
  standing_lines h =
      flat_map (λ a. line ((alert_at b a).name ++ 32 ∷ standing_text (λ p. (alert_at b p).name) (standing h a))) (alert_numbers b)
