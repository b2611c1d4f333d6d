use Rattle.std.proofs.Common.{◌≡◌, Err, Some, sym, ap, ◌∙◌, subst}
use Rattle.ecam_io.specs.Outside.{FileHas}
use Rattle.book_model.specs.Sealed.{the_book}
use Rattle.limits_spec.specs.LimitsBytes.{limits_fault, limits}
use Rattle.advisories.specs.View.{limits_of}
use Rattle.replay_core.specs.LimitsLoading.{HasLimitsFault}
use Rattle.replay_core.proofs.Loads.{limits-refused, limits-read}
use Rattle.replay_core.proofs.load_limits.load_limits.Goals as goal

pub returns-in-Err-Fault-clause-loads : goal.returns-in-Err-Fault-clause-loads
returns-in-Err-Fault-clause-loads g c =
    let files = g.F.Source.files c.args.files.now in
    let left = g.F.Source.left c.read_file.new.files in
    let b = the_book c.args.book.now in
    let v = c.in-Ok.bytes.items in
    let told = subst (λ t. limits_fault b t ≡ Some c.in-Err-Fault.fault) c.deref.ensures.value
    (c.read_limits.ensures.fault c.in-Err-Fault.fault (c.in-Err-Fault.is ∙ ap Err c.in-Err-Fault.field-0-is)) in
    subst (λ f. FileHas files c.args.name.now (HasLimitsFault b f left)) (sym c.in-Err-Fault.fault-is)
    (limits-refused files c.args.name.now v left c.in-Ok.ensures.front b c.in-Err-Fault.fault told)

pub returns-in-Ok-read_limits-clause-loads : goal.returns-in-Ok-read_limits-clause-loads
returns-in-Ok-read_limits-clause-loads g c =
    let b = the_book c.args.book.now in
    let v = c.in-Ok.bytes.items in
    limits-read (g.F.Source.files c.args.files.now) c.args.name.now v (g.F.Source.left c.read_file.new.files) c.in-Ok.ensures.front b (limits_of c.in-Ok-read_limits.limits)
    (subst (λ t. limits b t ≡ Some (limits_of c.in-Ok-read_limits.limits)) c.deref.ensures.value c.in-Ok-read_limits.ensures.limits)
