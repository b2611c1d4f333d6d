use Rattle.std.proofs.Common.{◌≡◌, drop}
use Rattle.std.specs.List.{list_all}
use Rattle.ecam_spec.specs.Bytes.{is_name_byte}
use Rattle.term_text.proofs.token.is_name.Given as goal

abbrev pub invariant-loop-byte : goal.invariant-loop-byte
invariant-loop-byte l = list_all is_name_byte l.word ≡ list_all is_name_byte (drop l.byte-index l.word)
