use Rattle.std.proofs.Common.{◌≡◌, map, take}
use Rattle.book_model.specs.Sealed.{the_book}
use Rattle.book_tables.specs.Reading.{views}
use Rattle.limits_spec.specs.LimitsOf.{advisory_in}
use Rattle.advisories.specs.View.{list_of}
use Rattle.advisories.proofs.reading.advisories_in.Given as goal

abbrev pub invariant-loop-value : goal.invariant-loop-value
invariant-loop-value l = list_of l.list.items ≡ map (advisory_in (the_book l.book)) (views (take l.value-index l.values))
