use Rattle.std.proofs.Common.{arith}
use Rattle.std.proofs.lemmas.Grind.{common_steps}
use Rattle.ecam_spec.specs.Bytes.{same_text}
use Rattle.book_faults.proofs.KeyLists.{any_key_names}
use Rattle.book_faults.proofs.tables.has_key.Goals as goal

pub returns-then-is_same : goal.returns-then-is_same
returns-then-is_same g c = grind (arith, common_steps, any_key_names (same_text c.args.name.now) c.args.keys.now)

pub returns : goal.returns
returns g c = grind (arith, common_steps, any_key_names (same_text c.args.name.now) c.args.keys.now)
