-- The words by what the computers hold.
use Rattle.std.specs.Prelude.{ℕ, zero, suc, Bool, not, ◌||◌, ◌==◌, [], if◌then◌else◌}
use Rattle.ecam_spec.specs.History.{none_up}
use Rattle.ecam_spec.specs.Book.{Text}
use Rattle.arinc_words.specs.Composed.{composed}
use Rattle.attention.specs.State.{lights_of}
use Rattle.fwc_lane.specs.declared.lane.Lane.{Lane}
use Rattle.fwc_pair.specs.declared.pair.Pair.{Pair}
use Rattle.fwc_pair.specs.PairState.{flags_of}
use Rattle.view_spec.specs.OutputWords.{label_of, sdi_of, status_data, group_data, word_line}

-- the data of a word, as a computer holds them
abbrev pub lane_data : Lane → ℕ → ℕ
lane_data l zero = let lights = lights_of l.attention in status_data lights.warn lights.caut lights.sound l.phase.number
lane_data l (suc g) = group_data l.marks.sets.shown g

-- a word of the first computer that is up
abbrev pub pair_word : Pair → ℕ → ℕ
pair_word p n =
    if none_up (flags_of p)
    then composed (label_of n) (sdi_of n) 0 1
    else composed (label_of n) (sdi_of n) (lane_data (if p.one_up then p.one else p.two) n) 0

-- the line of a word that is written, where all are or where it isn't the one that was
abbrev pub written_line : Bool → ℕ → ℕ → Text
written_line all old new = if all || not (new == old) then word_line new else []
