use Rattle.std.proofs.Common.{List, ℕ, ◌≤◌, length, refl, sym, subst}
use Rattle.std.specs.Fmt.{digits}
use Rattle.ecam_spec.specs.Places.{below}
use Rattle.ecam_spec.specs.RecordLine.{key_words}
use Rattle.record_maker.proofs.Texts.{short_keys}
use Rattle.record_maker.proofs.lines.key_word.Goals as goal

pub key_in-requires-clause-keys : goal.key_in-requires-clause-keys
unfolding key_words below digits
key_in-requires-clause-keys c = refl

pub returns-clause-short : goal.returns-clause-short
returns-clause-short c = subst (λ (t : List ℕ). length t ≤ 5) (sym c.key_in.ensures) (short_keys c.args.number c.requires)
