use Rattle.std.proofs.Common.{◌≡◌, None, sym, subst, string_bytes}
use Rattle.std.specs.declared.alloc.Global.{Global}
use Rattle.book_spec.specs.BookBytes.{book_fault}
use Rattle.book_migration.specs.Migration.{IsMigration}
use Rattle.book_model.specs.Sealed.{the_book}
use Rattle.replay_core.specs.Calls.{shelf_call}
use Rattle.replay_core.proofs.BookFacts.{book-faultless}
use Rattle.replay_core.proofs.Loads.{file-migrated}
use Rattle.replay_core.proofs.migrate.load_migrated.Goals as goal

-- the bytes of a book have no fault
pub migrated-requires : goal.migrated-requires
migrated-requires g c =
    subst (λ t. book_fault t ≡ None) (sym c.deref.ensures.value)
    (book-faultless c.in-Ok.file.bytes.items (the_book c.in-Ok.file.book) c.in-Ok.ensures.book)

pub returns-in-Ok-migrated-clause-text : goal.returns-in-Ok-migrated-clause-text
returns-in-Ok-migrated-clause-text g c =
    let text = string_bytes {Z = Global} c.in-Ok-migrated.text in
    file-migrated (shelf_call g.F.Source c.args.files.now c.load_file.new.files) c.args.name.now c.in-Ok.file c.in-Ok.ensures.reads text
    (subst (λ t. IsMigration t text) c.deref.ensures.value c.in-Ok-migrated.ensures)
