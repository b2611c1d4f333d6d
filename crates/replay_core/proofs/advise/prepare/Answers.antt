use Rattle.std.proofs.Common.{refl, ◌∙◌, ap}
use Rattle.ecam_io.specs.Outside.{raised}
use Rattle.book_model.specs.Sealed.{the_book}
use Rattle.replay_core.specs.Calls.{shelf_call}
use Rattle.replay_core.specs.declared.load_limits.UnreadyLimits.TheVariants as limits
use Rattle.replay_core.proofs.Causes.{after-loading}
use Rattle.replay_core.proofs.Limited.{limits-unset, limits-prepared}
use Rattle.replay_core.proofs.advise.prepare.Goals as goal

pub returns-in-Err-clause-prepares : goal.returns-in-Err-clause-prepares
returns-in-Err-clause-prepares g c = (c.in-Err.ensures.opens, c.in-Err.ensures.loads)

pub returns-in-Err-load_limits-clause-prepares : goal.returns-in-Err-load_limits-clause-prepares
returns-in-Err-load_limits-clause-prepares g c =
    let first = shelf_call g.F.Source c.args.files.now c.load_book.new.files in
    let second = shelf_call g.F.Source c.load_book.new.files c.load_limits.new.files in
    let b = the_book c.in-Ok.book in
    let on = after-loading first second c.args.book_name.now b c.in-Ok.ensures.files refl c.in-Ok.ensures.faults c.in-Ok.ensures.loads in (
      c.in-Err-load_limits.ensures.opens ∙ ap raised c.in-Ok.ensures.opens,
      limits-unset first second c.args.book_name.now c.args.limits_name.now b on c.in-Err-load_limits.unready c.in-Err-load_limits.ensures.loads,
    )

pub returns-in-Ok-set_up-clause-prepares : goal.returns-in-Ok-set_up-clause-prepares
returns-in-Ok-set_up-clause-prepares g c =
    let first = shelf_call g.F.Source c.args.files.now c.load_book.new.files in
    let second = shelf_call g.F.Source c.load_book.new.files c.load_limits.new.files in
    let b = the_book c.in-Ok.book in
    let on = after-loading first second c.args.book_name.now b c.in-Ok.ensures.files refl c.in-Ok.ensures.faults c.in-Ok.ensures.loads in
    limits-prepared first second c.args.book_name.now c.args.limits_name.now b on c.in-Ok-load_limits.limits c.in-Ok-set_up.prepared
    (c.in-Ok-load_limits.ensures.opens ∙ ap raised c.in-Ok.ensures.opens) c.in-Ok-load_limits.ensures.loads c.in-Ok-load_limits.ensures.fit
    (ap the_book c.in-Ok-set_up.ensures.book) c.in-Ok-set_up.ensures.pair c.in-Ok-set_up.ensures.settings c.in-Ok-set_up.ensures.begins

pub returns-in-Err-set_up-clause-prepares : goal.returns-in-Err-set_up-clause-prepares
returns-in-Err-set_up-clause-prepares g c =
    let first = shelf_call g.F.Source c.args.files.now c.load_book.new.files in
    let second = shelf_call g.F.Source c.load_book.new.files c.load_limits.new.files in
    let b = the_book c.in-Ok.book in
    let on = after-loading first second c.args.book_name.now b c.in-Ok.ensures.files refl c.in-Ok.ensures.faults c.in-Ok.ensures.loads in (
      c.in-Ok-load_limits.ensures.opens ∙ ap raised c.in-Ok.ensures.opens,
      limits-unset first second c.args.book_name.now c.args.limits_name.now b on limits.NoMemory (c.in-Ok-load_limits.ensures.took (λ is. let w : ⊥ = cc in w)),
    )
