-- What the program promises first of all, in the words of the definitions.
use Rattle.std.specs.Prelude.{◌≡◌, ℕ, List, ◌++◌, Some}
use Rattle.ecam_io.specs.Outside.{file_named}
use Rattle.ecam_spec.specs.declared.kinds.Event.{Event}
use Rattle.ecam_spec.specs.Book.{Text, Book}
use Rattle.ecam_spec.specs.Output.{blocks, end_line}
use Rattle.ecam_spec.specs.Record.{events}
use Rattle.ecam_spec.specs.Replay.{picture, tick_count}
use Rattle.ecam_spec.specs.Command.{command_of, replay}
use Rattle.book_spec.specs.BookBytes.{book}
use Rattle.replay_core.specs.Calls.{Files}

-- the words ask for the replay of this whole history by this accepted book: the shelf tells its
-- files, the one that the words name first is the book, and the events of the other one are the
-- history
pub record Replays (files : Files) (words : List Text) (b : Book) (history : List Event)
    : Type 0 where
  pub told : List (Text × Text)
  pub files_are : files ≡ Some told
  pub book_name : Text
  pub record_name : Text
  pub limit : ℕ
  pub asked : command_of words ≡ Some (replay book_name record_name limit)
  pub book_bytes : Text
  pub book_file : file_named told book_name ≡ Some book_bytes
  pub accepted : book book_bytes ≡ Some b
  pub record_bytes : Text
  pub record_file : file_named told record_name ≡ Some record_bytes
  pub history_is : history ≡ events record_bytes limit

-- the blocks of the changes between the pictures that the book's definitions give for the whole
-- history, and the line that ends it
abbrev pub all_changes : Book → List Event → Text
all_changes b history =
    blocks (picture b history) (tick_count history) ++ end_line (tick_count history)
