use Rattle.std.proofs.Common.{◌≡◌, map, take}
use Rattle.book_spec.specs.Defaults.{table_in, name_or_none}
use Rattle.book_tables.specs.Reading.{texts_of, views}
use Rattle.book_tables.proofs.fields.proper_names_in.Given as goal

abbrev pub invariant-loop-item : goal.invariant-loop-item
invariant-loop-item l = texts_of l.names.items ≡ map (λ d. name_or_none (table_in d)) (views (take l.item-index l.items))
