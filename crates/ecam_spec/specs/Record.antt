-- The record: bytes in lines, of which each says an event. Its form, its faults and their order are this
-- project's own. A place is a byte's, from 0; each rule speaks of the whole text.
use Rattle.std.specs.Prelude.{ℕ, zero, suc, ◌+◌, not, ◌&&◌, ◌==◌, nat_le, nat_lt, List, length, get_or, take, drop, filter, filter_map, Option, Some, None, is_some, is_none, unwrap_or, if◌then◌else◌}
use Rattle.ecam_spec.specs.declared.kinds.Event.{Event}
use Rattle.ecam_spec.specs.declared.kinds.FaultKind.{FaultKind}
use Rattle.ecam_spec.specs.declared.kinds.FaultKind.TheVariants.{Long, Form, Cut, NoEnd, AfterEnd, Limit}
use Rattle.ecam_spec.specs.declared.kinds.RecordFault.{RecordFault}
use Rattle.ecam_spec.specs.declared.limits.TheConstants.{RECORD_LINE}
use Rattle.ecam_spec.specs.Past.{Signal, once, previous, last, moment_after, count_up_to}
use Rattle.ecam_spec.specs.Places.{below, first_place}
use Rattle.ecam_spec.specs.RecordLine.{event_of, is_end, is_end_event}

module _ (text : List ℕ) where
  -- a line feed stands there
  unfoldable pub is_feed : Signal
  is_feed i = get_or text i 0 == 10

  -- the place where the line of this place begins: after the last line feed before
  unfoldable pub line_start : ℕ → ℕ
  line_start zero = 0
  line_start (suc i) = moment_after (last is_feed i)

  -- the bytes of the line before this place
  unfoldable pub line_before : ℕ → List ℕ
  line_before i = drop (line_start i) (take i text)

  -- the number of the line of this place, from 1
  unfoldable pub line_number : ℕ → ℕ
  line_number zero = 1
  line_number (suc i) = 1 + count_up_to is_feed i

  -- the line that ends the record ends there
  unfoldable pub ends_record : Signal
  ends_record i = is_feed i && is_end (line_before i)

  -- what is wrong at a place, under a limit on the number of bytes: the first of four tests
  unfoldable pub wrong_at : ℕ → ℕ → Option FaultKind
  wrong_at limit i =
      if nat_le limit i then Some Limit
      else (if previous (once ends_record) i then Some AfterEnd
      else (if not (is_feed i) && length (line_before i) == RECORD_LINE then Some Long
      else (if is_feed i && is_none (event_of (line_before i)) then Some Form
      else None)))

  abbrev pub is_wrong : ℕ → Signal
  is_wrong limit i = is_some (wrong_at limit i)

  -- the first place with a fault
  unfoldable pub wrong_place : ℕ → Option ℕ
  wrong_place limit = first_place (is_wrong limit) (length text)

  -- how many bytes stand before the first place with a fault
  unfoldable pub sound_length : ℕ → ℕ
  sound_length limit = unwrap_or (wrong_place limit) (length text)

  -- what is wrong where no place has a fault: the last line isn't whole, or no line ends the record
  unfoldable pub wrong_end : Option RecordFault
  wrong_end =
      if nat_lt (line_start (length text)) (length text)
      then Some (record { kind = Cut; line = line_number (length text) })
      else (if previous (once ends_record) (length text) then None
      else Some (record { kind = NoEnd; line = line_number (length text) }))

  -- the fault at the first place that has one
  unfoldable pub fault_at : ℕ → Option ℕ → Option RecordFault
  fault_at limit None = wrong_end
  fault_at limit (Some i) = Some (record { kind = unwrap_or (wrong_at limit i) Form; line = line_number i })

  unfoldable pub fault : ℕ → Option RecordFault
  fault limit = fault_at limit (wrong_place limit)

  -- the events of the whole lines before the first fault, in order; the line that ends the record is none
  unfoldable pub events : ℕ → List Event
  events limit =
      filter (λ e. not (is_end_event e))
      (filter_map (λ i. event_of (line_before i)) (filter is_feed (below (sound_length limit))))
