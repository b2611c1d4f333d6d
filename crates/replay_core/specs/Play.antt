-- How the replay of a record's file by a loaded book ends.
use Rattle.std.specs.Prelude.{◌≡◌, ◌⊎◌, ℕ, true, ◌++◌, Option, Some, Result, Ok, Err}
use Rattle.ecam_io.specs.Outside.{FileHas}
use Rattle.ecam_spec.specs.Book.{Text, Book}
use Rattle.ecam_spec.specs.Record.{events}
use Rattle.fwc_pair.specs.declared.pair.Pair.{Pair}
use Rattle.replay_core.specs.Calls.{ShelfCall, HasFailed, SinkCall, Writes}
use Rattle.replay_core.specs.Calls.{WritesNothing, HasFailedToWrite}
use Rattle.replay_core.specs.Loading.{IsUnopened}
use Rattle.record_views.specs.Showing.{Showing}
use Rattle.record_views.specs.Runs.{HasRun, HasMetFault, HasStopped}
use Rattle.record_views.specs.declared.show.RunError.{RunError}
use Rattle.record_views.specs.declared.show.RunError.TheVariants.{Read, Write, Record}

-- what is shown of the bytes of the record that came, which are those before what is left, is written
pub record ShowsInPart {S : Type 0} (out : SinkCall S) (limit : ℕ)
    (o : Showing) (text : Text) (left : Option Text) : Type 0 where
  pub taken : Text
  pub behind : Text
  pub part : text ≡ taken ++ behind
  pub rest : left ≡ Some behind
  pub written : Writes out (o.text (events taken limit))

-- the record's file is open, reading it failed, and what is shown of the part that came is written
pub record IsBroken {S : Type 0} (f : ShelfCall) (out : SinkCall S)
    (o : Showing) (record' : Text) (limit : ℕ) : Type 0 where
  pub cause : HasFailed f
  pub opened : f.is_open ≡ true
  pub replies : FileHas f.files record' (λ text. ShowsInPart out limit o text f.left)

module _ {S : Type 0} (f : ShelfCall) (out : SinkCall S)
    (b : Book) (o : Showing) (pair : Pair) (record' : Text) (limit : ℕ) where
  abbrev pub Plays : Result ℕ RunError → Type 0
  Plays (Ok ticks) =
      FileHas f.files record' (λ text. HasRun b o out.agrees out.old out.new pair limit text f.left
      ticks)
  Plays (Err Read) = (IsUnopened f record' × WritesNothing out) ⊎ IsBroken f out o record' limit
  Plays (Err Write) =
      HasFailedToWrite out
      × FileHas f.files record'
      (λ text. HasStopped b o out.agrees out.old out.new limit text f.left)
  Plays (Err (Record g)) =
      FileHas f.files record'
      (λ text. HasMetFault b o out.agrees out.old out.new limit text f.left g)

-- how it ended, without the number of its Ticks
abbrev pub uncounted : Result ℕ RunError → Result (Unit {0}) RunError
uncounted (Ok ticks) = Ok tt
uncounted (Err e) = Err e

-- how showing a record ends so
pub record Shown {S : Type 0} (f : ShelfCall) (out : SinkCall S) (b : Book) (o : Showing)
    (record' : Text) (limit : ℕ) (result : Result (Unit {0}) RunError) : Type 0 where
  pub played : Result ℕ RunError
  pub result_is : result ≡ uncounted played
  pub pair : Pair
  pub plays : Plays f out b o pair record' limit played
