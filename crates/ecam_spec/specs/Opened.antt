-- One word that opens the definitions from a word on a bus to what `replay` and `why` write, so that a worked row
-- computes: `unfolding opened` and `refl`.
use Rattle.std.specs.Fmt.{digits}
use Rattle.ecam_spec.specs.Past.{once, historically, once_from, historically_from, once_within, historically_within, since, previous, rise, last, start_of, count_up_to, count_from}
use Rattle.ecam_spec.specs.Places.{below, first_place}
use Rattle.ecam_spec.specs.Word.{label, sdi, ssm, is_odd}
use Rattle.ecam_spec.specs.Reading.{discrete, raw, binary, decimal}
use Rattle.ecam_spec.specs.Value.{takes, last_taken, word_of, is_fresh, reading, source_value, value}
use Rattle.ecam_spec.specs.Term.{holds, truths}
use Rattle.ecam_spec.specs.Phase.{trip, back_lately, high_last, climb_begins, climb_start, climbed, parked_phase, ground_phase, air_phase, phase}
use Rattle.ecam_spec.specs.PhaseRules.{rules}
use Rattle.ecam_spec.specs.TermSize.{placed, own_slots, children, placed_children, nodes, nodes_of}
use Rattle.ecam_spec.specs.TermNames.{IsWithin, AreWithin}
use Rattle.ecam_spec.specs.Picture.{blank, zone, dead}
use Rattle.ecam_spec.specs.History.{flags_with, flags_after, begins_era, era_place, era_with, era, begun}
use Rattle.ecam_spec.specs.Keys.{last_stroke, pressed, held}
use Rattle.ecam_spec.specs.RecordLine.{key_words, key_of, computer_of, bus_of, digit_of, bits_of, word_event, is_end, event_of}
use Rattle.ecam_spec.specs.Record.{is_feed, line_start, line_before, line_number, ends_record, wrong_at, wrong_place, sound_length, wrong_end, fault_at, fault, events}
use Rattle.ecam_spec.specs.Output.{row_names, row_line, changed_lines, block, blocks, end_line}
use Rattle.ecam_spec.specs.Alert.{present, active, waiting, starred, starred_by, up, onset, primaries_in}
use Rattle.ecam_spec.specs.Crew.{target, struck, cleared, long_recall, cancelled, recalled, is_shown, shown_after, shown_below, shown, normal}
use Rattle.ecam_spec.specs.LeftZone.{alert_rows, left_rows, left_zone, has_more, overflow, title_row}
use Rattle.ecam_spec.specs.RightZone.{right_rows, right_zone, right_beyond}
use Rattle.ecam_spec.specs.StatusPage.{sections, section_rows, cancelled_rows, status_rows, status_pages, status_page, flags, flags_row}
use Rattle.ecam_spec.specs.Selection.{selecting_one, selecting, last_but_status, status_number, page_in_turn, choice_by, choice}
use Rattle.ecam_spec.specs.SystemDisplay.{value_row, shown_value, page_row, page_rows, called_page, display_rows}
use Rattle.ecam_spec.specs.Lamps.{acknowledges, last_onset, is_open, calls, warns, cautions, chimes, sound_of, sound}
use Rattle.ecam_spec.specs.LampRows.{lamp_rows}
use Rattle.ecam_spec.specs.Standing.{standing_of, standing_text}
use Rattle.ecam_spec.specs.Situation.{primaries, value_in, computer_up, flight, phase_in, condition, present_knowing, inhibited, active_knowing, known_below, condition_in, present_in, active_in, waiting_in, world, starred_in, up_in}
use Rattle.ecam_spec.specs.Screen.{order, enters_one, cockpit, shown_in, cleared_in, cancelled_in, recalled_in, is_shown_in, target_in, attention, panel, line_stands, memo_rows, left_in, starred_systems, right_in, status_in, display, picture_in}
use Rattle.ecam_spec.specs.Replay.{tick_count, through, moment_of, picture_at, picture, history_blocks, reply, standing_in, standing, standing_lines}

unfoldable pub opened : Unit {0}
unfolding digits once historically once_from historically_from once_within historically_within since previous rise last start_of count_up_to count_from below first_place label sdi ssm is_odd discrete raw binary decimal takes last_taken word_of is_fresh reading source_value value holds truths trip back_lately high_last climb_begins climb_start climbed parked_phase ground_phase air_phase phase rules placed own_slots children placed_children nodes nodes_of IsWithin AreWithin blank zone dead flags_with flags_after begins_era era_place era_with era begun last_stroke pressed held key_words key_of computer_of bus_of digit_of bits_of word_event is_end event_of is_feed line_start line_before line_number ends_record wrong_at wrong_place sound_length wrong_end fault_at fault events row_names row_line changed_lines block blocks end_line present active waiting starred starred_by up onset primaries_in target struck cleared long_recall cancelled recalled is_shown shown_after shown_below shown normal alert_rows left_rows left_zone has_more overflow title_row right_rows right_zone right_beyond sections section_rows cancelled_rows status_rows status_pages status_page flags flags_row selecting_one selecting last_but_status status_number page_in_turn choice_by choice value_row shown_value page_row page_rows called_page display_rows acknowledges last_onset is_open calls warns cautions chimes sound_of sound lamp_rows standing_of standing_text primaries value_in computer_up flight phase_in condition present_knowing inhibited active_knowing known_below condition_in present_in active_in waiting_in world starred_in up_in order enters_one cockpit shown_in cleared_in cancelled_in recalled_in is_shown_in target_in attention panel line_stands memo_rows left_in starred_systems right_in status_in display picture_in tick_count through moment_of picture_at picture history_blocks reply standing_in standing standing_lines
opened = tt
