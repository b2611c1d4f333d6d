use Rattle.std.proofs.Common.{◌≡◌, true, ◌∙◌}
use Rattle.toml.specs.Errors.{IsMemory}
use Rattle.book_reader.proofs.BookText.{parsed, unparsed}
use Rattle.advisories.specs.declared.limits.LimitsError.TheVariants.{Fault}
use Rattle.advisories.proofs.reading.table_in.Goals as goal

pub returns-in-Ok-clause-table : goal.returns-in-Ok-clause-table
returns-in-Ok-clause-table c = parsed c.args.bytes.now c.in-Ok.ensures.ok.0 ∙ c.in-Ok.ensures.ok.1

pub returns-else-is_memory-clause-fault : goal.returns-else-is_memory-clause-fault
returns-else-is_memory-clause-fault c f told = (
  let told_2 : c.top_fault.result ≡ Fault f = cc in cc,
  unparsed c.args.bytes.now (c.in-Err.ensures.refused (λ (m : IsMemory c.in-Err.error). let t : c.is_memory.result ≡ true = c.is_memory.ensures.1 m in cc)),
)
