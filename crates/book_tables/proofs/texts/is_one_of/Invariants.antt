use Rattle.std.proofs.Common.{◌≡◌, false, take}
use Rattle.std.specs.List.{list_any}
use Rattle.ecam_spec.specs.Bytes.{same_text}
use Rattle.book_tables.proofs.texts.is_one_of.Given as goal

abbrev pub invariant-loop-word : goal.invariant-loop-word
invariant-loop-word l = list_any (λ s. same_text l.text s.now) (take l.word-index l.known) ≡ false
