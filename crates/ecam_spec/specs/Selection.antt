-- What the system display is asked to show, by the keys ALL, PG1 to PG16, STS, CLR and EMER CANC. The keys are
-- the A320's in outline (DSC-31); the exact rules are this project's own.
use Rattle.std.specs.Prelude.{ℕ, ◌-◌, ◌/◌, ◌%◌, min, Bool, true, false, not, ◌&&◌, nat_lt, Option, Some, None, is_some, if◌then◌else◌}
use Rattle.std.specs.Option.{option_and_then}
use Rattle.ecam_spec.specs.declared.kinds.Choice.{Choice}
use Rattle.ecam_spec.specs.declared.kinds.Choice.TheVariants.{Auto, Page, Status}
use Rattle.ecam_spec.specs.Past.{Signal, last, moment_after, start_of, count_from}

-- what the selection goes by
pub record Panel : Type 0 where
  -- how many pages the book has
  pub pages : ℕ
  -- ALL is held
  pub all_held : Signal
  -- the page, from 0, whose key is pressed; of several the least
  pub page_called : ℕ → Option ℕ
  -- STS is pressed
  pub sts : Signal
  -- CLR is pressed
  pub clr : Signal
  -- EMER CANC is pressed, and the target is a caution
  pub cancels : Signal

-- how a moment selects
pub data Selecting : Type 0 where
  each_page : Selecting
  one_page : ℕ → Selecting
  the_status : Selecting
  the_clear : Selecting
  the_cancel : Selecting

abbrev pub is_status : Option Selecting → Bool
is_status (Some the_status) = true
is_status _ = false

abbrev pub is_cancel : Option Selecting → Bool
is_cancel (Some the_cancel) = true
is_cancel _ = false

-- the last page of the status that has a number: STS goes on to it and no further
abbrev pub last_number : ℕ
last_number = 4294967295

module _ (p : Panel) where
  -- what a moment without ALL selects
  unfoldable pub selecting_one : Option ℕ → ℕ → Option Selecting
  selecting_one (Some i) k = Some (one_page i)
  selecting_one None k =
      if p.sts k then Some the_status
      else (if p.clr k then Some the_clear
      else (if p.cancels k then Some the_cancel
      else None))

  -- what a moment selects, if it does: the first that applies
  unfoldable pub selecting : ℕ → Option Selecting
  selecting k = if p.all_held k && nat_lt 0 p.pages then Some each_page else selecting_one (p.page_called k) k

  abbrev pub selects : Signal
  selects k = is_some (selecting k)

  abbrev pub selects_status : Signal
  selects_status k = is_status (selecting k)

  -- the last selecting moment that isn't one of STS
  unfoldable pub last_but_status : ℕ → Option ℕ
  last_but_status k = last (λ i. selects i && not (selects_status i)) k

  -- the number of the status page, from 0: after EMER CANC the first, and one further with each press of STS;
  -- after anything else the first press shows the first
  unfoldable pub status_number : ℕ → ℕ
  status_number k =
      let m = last_but_status k in
      let presses = count_from (moment_after m) selects_status k in
      if is_cancel (option_and_then selecting m) then presses else presses - 1

  -- the page that ALL shows: one further each second, from the moment in which it went down
  unfoldable pub page_in_turn : ℕ → ℕ
  page_in_turn m = ((m - start_of p.all_held m) / 10) % p.pages

  -- the choice that selecting moment m left
  unfoldable pub choice_by : Option Selecting → ℕ → Choice
  choice_by None m = Auto
  choice_by (Some each_page) m = Page (page_in_turn m)
  choice_by (Some (one_page i)) m = Page i
  choice_by (Some the_clear) m = Auto
  choice_by (Some the_status) m = Status (min last_number (status_number m))
  choice_by (Some the_cancel) m = Status (min last_number (status_number m))

  abbrev pub choice_from : Option ℕ → Choice
  choice_from None = Auto
  choice_from (Some m) = choice_by (selecting m) m

  -- the choice now: that of the last selecting moment
  unfoldable pub choice : ℕ → Choice
  choice k = choice_from (last selects k)
