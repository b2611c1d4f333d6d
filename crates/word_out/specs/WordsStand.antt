-- When the words that are kept stand for a history.
use Rattle.std.specs.Prelude.{◌≡◌, ℕ, suc, ◌<◌, ◌%◌, List, length, get_or}
use Rattle.ecam_spec.specs.declared.kinds.Event.{Event}
use Rattle.ecam_spec.specs.Book.{Book}
use Rattle.ecam_spec.specs.Replay.{tick_count}
use Rattle.view_spec.specs.OutputWords.{word_count, word}
use Rattle.word_out.specs.declared.word_out.WordOut.{WordOut}

-- there is a place for each word, they are those of the last Tick, and it is told how many Ticks there were since the
-- last at which all are written
pub record WordsStand (b : Book) (h : List Event) (w : WordOut) : Type 0 where
  pub fits : length w.words.items ≡ word_count b
  pub tick : w.tick ≡ tick_count h % 100
  pub words : (t n : ℕ) → tick_count h ≡ suc t → n < word_count b → get_or w.words.items n 0 ≡ word b h t n
