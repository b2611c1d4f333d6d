use Rattle.std.proofs.Common.{◌≡◌, Err, Some, refl, sym, ap, ◌∙◌, subst}
use Rattle.ecam_io.specs.Outside.{FileHas}
use Rattle.book_spec.specs.BookBytes.{book_fault, book}
use Rattle.book_model.specs.Sealed.{the_book}
use Rattle.replay_core.specs.Calls.{shelf_call}
use Rattle.replay_core.specs.Loading.{HasFault}
use Rattle.replay_core.specs.declared.load.BookFile.{BookFile}
use Rattle.replay_core.proofs.Loads.{file-refused, file-read}
use Rattle.replay_core.proofs.load.load_file.Goals as goal

pub returns-in-Err-Fault-clause-reads : goal.returns-in-Err-Fault-clause-reads
returns-in-Err-Fault-clause-reads g c =
    let s = shelf_call g.F.Source c.args.files.now c.read_file.new.files in
    let v = c.in-Ok.bytes.items in
    let told = subst (λ t. book_fault t ≡ Some c.in-Err-Fault.fault) c.deref.ensures.value
    (c.book_of.ensures.fault c.in-Err-Fault.fault (c.in-Err-Fault.is ∙ ap Err c.in-Err-Fault.field-0-is)) in
    subst (λ f. FileHas s.files c.args.name.now (λ bytes. HasFault bytes f s.left)) (sym c.in-Err-Fault.fault-is)
    (file-refused s c.args.name.now v c.in-Ok.ensures.front c.in-Err-Fault.fault told)

pub returns-in-Ok-book_of-clause-reads : goal.returns-in-Ok-book_of-clause-reads
returns-in-Ok-book_of-clause-reads g c =
    let s = shelf_call g.F.Source c.args.files.now c.read_file.new.files in
    let v = c.in-Ok.bytes.items in
    let f : BookFile = record { bytes = c.in-Ok.bytes; book = c.in-Ok-book_of.book } in
    file-read s c.args.name.now v c.in-Ok.ensures.front f refl
    (subst (λ t. book t ≡ Some (the_book c.in-Ok-book_of.book)) c.deref.ensures.value c.in-Ok-book_of.ensures.book)
