use Rattle.std.proofs.Common.{◌∙◌, sym, arith}
use Rattle.book_tables.proofs.NamePlaces.{short_name_place, long_name_place}
use Rattle.book_tables.proofs.places.short_place.Goals as goal

pub returns : goal.returns
returns c names finds = c.place_in.ensures ∙ finds c.args.name.now ∙ sym (short_name_place names c.args.name.now (omega arith))

pub returns-then-name-gt-LONGEST_NAME : goal.returns-then-name-gt-LONGEST_NAME
returns-then-name-gt-LONGEST_NAME c names finds = sym (long_name_place names c.args.name.now (omega arith))
