-- For which rule the text of a condition is refused.
use Rattle.std.specs.Prelude.{Bool, true, false}
use Rattle.ecam_spec.specs.TermText.{Outcome, means}
use Rattle.book_spec.specs.Rules.{is_misspelled, has_unknown, is_too_much, has_wrong_number}
use Rattle.book_spec.specs.declared.schema.Rule.{Rule}
use Rattle.book_spec.specs.declared.schema.Rule.TheVariants.{Spelled, Found, Small, Measured}

abbrev pub refused_by : Rule → Outcome → Bool
refused_by Spelled outcome = is_misspelled outcome
refused_by Found outcome = has_unknown outcome
refused_by Small outcome = is_too_much outcome
refused_by Measured outcome = has_wrong_number outcome
refused_by _ outcome = false

-- it is refused for one of them
abbrev pub refuses : Outcome → Bool
refuses (means tree) = false
refuses _ = true
