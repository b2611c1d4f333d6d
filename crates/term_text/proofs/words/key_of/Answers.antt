use Rattle.std.proofs.Common.{rules}
use Rattle.std.specs.Fmt.{digits}
use Rattle.ecam_spec.specs.Places.{below}
use Rattle.ecam_spec.specs.RecordLine.{key_of, key_words}
use Rattle.term_text.proofs.words.key_of.Goals as goal

pub returns : goal.returns
unfolding key_of key_words below digits
returns c = search rules
