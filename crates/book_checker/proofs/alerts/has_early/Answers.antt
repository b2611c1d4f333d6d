use Rattle.std.proofs.Common.{◌∙◌, rules, tests}
use Rattle.std.proofs.lemmas.Iterator.{YieldsList-from_slice}
use Rattle.std.proofs.lemmas.Iterator.Search.{any_from_yields_List}
use Rattle.ecam_spec.specs.DraftFaults.{is_at_most}
use Rattle.book_model.specs.NamePlaces.{number_by}
use Rattle.book_model.specs.View.{bytes_of}
use Rattle.book_checker.proofs.Secondaries.{early_by}
use Rattle.book_checker.proofs.alerts.has_early.Goals as goal

pub returns : goal.returns
returns c names finds =
    any_from_yields_List (λ n. is_at_most c.args.primary (number_by c.args.places.now (bytes_of n))) _ _ c.any.result c.any.ensures.ran (YieldsList-from_slice c.args.secondaries.now cc) (λ x b q k. search (rules, tests))
    ∙ early_by names c.args.places.now finds bytes_of c.args.secondaries.now c.args.primary
