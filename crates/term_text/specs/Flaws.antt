-- What is wrong with names and numbers, as the program keeps it.
use Rattle.std.specs.Prelude.{Option, Some, None, option_map}
use Rattle.ecam_spec.specs.TermText.{Flaw, unknown_name, out_of_range, earlier}
use Rattle.term_text.specs.declared.flaw.Flaw as kept
use Rattle.term_text.specs.declared.flaw.Flaw.TheVariants as kinds

abbrev pub flaw_of : kept.Flaw → Flaw
flaw_of (kinds.UnknownName at) = unknown_name at
flaw_of (kinds.OutOfRange at) = out_of_range at

abbrev pub flaw_in : Option kept.Flaw → Option Flaw
flaw_in = option_map flaw_of

-- of what is wrong with two parts of a text, what stands first
abbrev pub earlier_of : Option Flaw → Option Flaw → Option Flaw
earlier_of None b = b
earlier_of (Some a) b = Some (earlier a b)
