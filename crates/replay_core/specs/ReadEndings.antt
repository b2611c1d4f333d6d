-- How `why`, and commands that show a record, end that read it by a book: what is written, and how far the
-- record was read.
use Rattle.std.specs.Prelude.{◌≡◌, ℕ, true, List, [], ◌++◌, Option, Some, None, is_some}
use Rattle.ecam_spec.specs.declared.kinds.RecordFault.{RecordFault}
use Rattle.ecam_spec.specs.Book.{Text, Book}
use Rattle.ecam_spec.specs.Record.{fault, events}
use Rattle.ecam_spec.specs.Replay.{standing_lines}
use Rattle.ecam_spec.specs.Command.{no_limit}
use Rattle.view_spec.specs.Advisories.{Advisory}
use Rattle.view_spec.specs.Places.{number_place}
use Rattle.replay_core.specs.Calls.{Files, SinkCall, Writes, WritesPart, WritesNothing}
use Rattle.replay_core.specs.LimitsLoading.{LimitsHave}
use Rattle.replay_core.specs.Play.{ShowsInPart}
use Rattle.record_views.specs.Showing.{Showing, output_of}
use Rattle.record_views.specs.Runs.{TookNear, HasStopped}

-- what holds of the book once the record is opened, and then of the book, of the record's bytes and
-- of what is left of them: where the record was read to its end, where it has this fault, where reading it failed, and where writing failed
pub record Endings : Type 1 where
  pub accepts : Book → Type 0
  pub whole : Book → Text → Option Text → Type 0
  pub refused : RecordFault → Book → Text → Option Text → Type 0
  pub broken : Book → Text → Option Text → Type 0
  pub stopped : Book → Text → Option Text → Type 0

-- ---- the endings of a command that shows a record, as `replay` does by the blocks of changes

module _ {S : Type 0} (out : SinkCall S) (o : Book → Showing) (limit : ℕ) where
  -- the record has no fault, its whole output is written, and it was read to its end
  pub record ShowsWhole (b : Book) (text : Text) (left : Option Text) : Type 0 where
    pub faultless : fault text limit ≡ None
    pub written : Writes out (output_of (o b) text limit)
    pub spent : left ≡ Some []

  -- the record has this fault, its output is written, and no more than a piece was taken from the
  -- first wrong byte on
  pub record ShowsUpTo (g : RecordFault) (b : Book) (text : Text) (left : Option Text)
      : Type 0 where
    pub fault_is : fault text limit ≡ Some g
    pub written : Writes out (output_of (o b) text limit)
    pub took : TookNear limit text left

  abbrev pub showing : Endings
  showing = record {
    accepts = λ b. Unit {0};
    whole = ShowsWhole;
    refused = ShowsUpTo;
    broken = λ b text left. ShowsInPart out limit (o b) text left;
    stopped = λ b text left. HasStopped b (o b) out.agrees out.old out.new limit text left;
  }

-- ---- those of a command that goes by a number parameter besides

-- the book has a number parameter of that name
abbrev pub HasNumber : Text → Book → Type 0
HasNumber name b = is_some (number_place b name) ≡ true

abbrev pub numbered : Text → Endings → Endings
numbered name e = record {
  accepts = HasNumber name;
  whole = λ b text left. HasNumber name b × e.whole b text left;
  refused = λ g b text left. HasNumber name b × e.refused g b text left;
  broken = λ b text left. HasNumber name b × e.broken b text left;
  stopped = λ b text left. HasNumber name b × e.stopped b text left;
}

-- ---- those of a command that goes by the limits of a file besides

-- the file has limits by the book, and these are the endings under them
abbrev pub under : Files → Text → (List Advisory → Endings) → Endings
under files name e = record {
  accepts = λ b. LimitsHave files name b (λ ls. (e ls).accepts b);
  whole = λ b text left. LimitsHave files name b (λ ls. (e ls).whole b text left);
  refused = λ g b text left. LimitsHave files name b (λ ls. (e ls).refused g b text left);
  broken = λ b text left. LimitsHave files name b (λ ls. (e ls).broken b text left);
  stopped = λ b text left. LimitsHave files name b (λ ls. (e ls).stopped b text left);
}

-- ---- the endings of `why`

module _ {S : Type 0} (out : SinkCall S) where
  -- the record has no fault, where each alert stands after it is written, and it was read to its
  -- end
  pub record Explains (b : Book) (text : Text) (left : Option Text) : Type 0 where
    pub faultless : fault text no_limit ≡ None
    pub written : Writes out (standing_lines b (events text no_limit))
    pub spent : left ≡ Some []

  -- or a prefix of it is written
  pub record ExplainsInPart (b : Book) (text : Text) (left : Option Text) : Type 0 where
    pub faultless : fault text no_limit ≡ None
    pub written : WritesPart out (standing_lines b (events text no_limit))
    pub spent : left ≡ Some []

  -- the record has this fault, nothing is written, and no more than a piece was taken from the
  -- first wrong byte on
  pub record ExplainsNothing (g : RecordFault) (b : Book) (text : Text) (left : Option Text)
      : Type 0 where
    pub fault_is : fault text no_limit ≡ Some g
    pub kept : WritesNothing out
    pub took : TookNear no_limit text left

  -- a part of the record came, that before what is left, and nothing is written
  pub record BreaksOff (b : Book) (text : Text) (left : Option Text) : Type 0 where
    pub taken : Text
    pub behind : Text
    pub part : text ≡ taken ++ behind
    pub rest : left ≡ Some behind
    pub kept : WritesNothing out

  abbrev pub explaining : Endings
  explaining = record {
    accepts = λ b. Unit {0};
    whole = Explains;
    refused = ExplainsNothing;
    broken = BreaksOff;
    stopped = ExplainsInPart;
  }
