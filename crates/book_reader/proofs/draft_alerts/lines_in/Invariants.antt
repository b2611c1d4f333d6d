use Rattle.std.proofs.Common.{◌≡◌, false, map, take, All}
use Rattle.std.specs.List.{list_any}
use Rattle.toml.specs.View.{view}
use Rattle.book_faults.specs.Readable.{refused_in_line}
use Rattle.book_model.specs.View.{line_of}
use Rattle.book_spec.specs.DraftOf.{line_in}
use Rattle.book_tables.specs.Reading.{views}
use Rattle.book_tables.specs.Catalogue.{names_in}
use Rattle.book_reader.specs.Unplaced.{IsUnplacedLine}
use Rattle.book_reader.proofs.draft_alerts.lines_in.Given as goal

abbrev pub invariant-loop-item : goal.invariant-loop-item
invariant-loop-item l = record {
  value : map line_of l.lines.items ≡ map (line_in (names_in l.names)) (views (take l.item-index l.items));
  unplaced : All IsUnplacedLine l.lines.items;
  read : list_any (λ v. refused_in_line (names_in l.names) (view v)) (take l.item-index l.items) ≡ false;
}
