use Rattle.std.proofs.Common.{◌≡◌, false, map, take, All}
use Rattle.std.specs.List.{list_any}
use Rattle.toml.specs.View.{view}
use Rattle.book_faults.specs.Readable.{refused_in_memo}
use Rattle.book_model.specs.View.{memo_of}
use Rattle.book_spec.specs.DraftOf.{memo_in}
use Rattle.book_tables.specs.Reading.{views}
use Rattle.book_tables.specs.Catalogue.{names_in}
use Rattle.book_reader.specs.Unplaced.{IsUnplacedMemo}
use Rattle.book_reader.proofs.draft.memos_in.Given as goal

abbrev pub invariant-loop-item : goal.invariant-loop-item
invariant-loop-item l = record {
  value : map memo_of l.memos.items ≡ map (memo_in (names_in l.names)) (views (take l.item-index l.items));
  unplaced : All IsUnplacedMemo l.memos.items;
  read : list_any (λ v. refused_in_memo (names_in l.names) (view v)) (take l.item-index l.items) ≡ false;
}
