use Rattle.word_out.proofs.Reread.{record_sound, record_moments, record_values}
use Rattle.word_out.proofs.laws.the_words_are_a_record_that_tells_the_alerts.Goals as goal

pub returns-clause-sound : goal.returns-clause-sound
returns-clause-sound c = record_sound

pub returns-clause-moments : goal.returns-clause-moments
returns-clause-moments c = record_moments

pub returns-clause-values : goal.returns-clause-values
returns-clause-values c = record_values
