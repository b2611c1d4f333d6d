use Rattle.std.proofs.Common.{◌≡◌, false, take}
use Rattle.std.specs.List.{list_any}
use Rattle.ecam_spec.specs.Bytes.{same_text}
use Rattle.book_faults.proofs.tables.has_key.Given as goal

abbrev pub invariant-loop-key : goal.invariant-loop-key
invariant-loop-key g l = list_any (λ k. same_text l.name k.name.now) (take l.key-index l.keys) ≡ false
