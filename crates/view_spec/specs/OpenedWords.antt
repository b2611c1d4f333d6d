-- The definitions that a worked row of the words opens, so that it is proved by computing them.
use Rattle.arinc_words.specs.Composed.{label_bits, joined, made_odd, composed}
use Rattle.view_spec.specs.Ticks.{texts, each_tick}
use Rattle.view_spec.specs.OutputWords.{groups, word_count, label_of, sdi_of, number_of, status_data, group_data, shown_flags, data_in, word_at, word, is_written, word_digits, word_line, tick_text}

unfoldable pub opened_words : Unit {0}
unfolding label_bits joined made_odd composed texts each_tick groups word_count label_of sdi_of number_of status_data group_data shown_flags data_in word_at word is_written word_digits word_line tick_text
opened_words = tt
