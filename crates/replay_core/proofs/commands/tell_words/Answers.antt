use Rattle.std.proofs.Common.{refl, sym, ◌∙◌, subst}
use Rattle.ecam_spec.specs.Command.{no_limit}
use Rattle.replay_core.specs.Showings.{words_of}
use Rattle.record_views.specs.declared.show.RunError.TheVariants as runs
use Rattle.replay_core.specs.Answers.{ByRecord}
use Rattle.replay_core.specs.Calls.{shelf_call, sink_call}
use Rattle.replay_core.specs.ReadEndings.{showing}
use Rattle.replay_core.specs.Outcomes.{record_ending}
use Rattle.replay_core.specs.declared.error.RecordError.TheVariants.{Run}
use Rattle.replay_core.specs.declared.load.Unready.TheVariants as unready
use Rattle.replay_core.specs.declared.outcome.Outcome.TheVariants as outcomes
use Rattle.replay_core.proofs.Causes.{shown-after-loading, told-error, not-refused, not-unready}
use Rattle.replay_core.proofs.commands.tell_words.Goals as goal

pub returns-in_ok-show-in-Ok-clause-tells : goal.returns-in_ok-show-in-Ok-clause-tells
returns-in_ok-show-in-Ok-clause-tells g c =
    shown-after-loading (shelf_call g.F.Source c.args.files.now c.load.new.files) (shelf_call g.F.Source c.load.new.files c.show.new.files)
    c.args.book_name.now c.args.record_name.now c.in_ok-loaded.loaded c.in_ok-loaded.ensures.files refl refl c.in_ok-loaded.ensures.faults c.in_ok-loaded.ensures.opens
    c.in_ok-loaded.ensures.readies (sink_call g.O.Sink c.args.out.now c.show.new.out) words_of no_limit _ c.in_ok-show-in-Ok.ensures.opens c.in_ok-show-in-Ok.ensures.shows

pub returns-in_err-show-in-Ok-clause-tells : goal.returns-in_err-show-in-Ok-clause-tells
returns-in_err-show-in-Ok-clause-tells g c =
    let out = sink_call g.O.Sink c.args.out.now c.show.new.out in
    subst (ByRecord (shelf_call g.F.Source c.args.files.now c.show.new.files) out c.args.book_name.now c.args.record_name.now (showing out words_of no_limit))
    (sym (told-error record_ending c.from_residual-in_err-show-in-Ok.result (Run c.in_err-show-in-Ok.field-0.0) c.from_residual-in_err-show-in-Ok.ensures.1))
    (shown-after-loading (shelf_call g.F.Source c.args.files.now c.load.new.files) (shelf_call g.F.Source c.load.new.files c.show.new.files)
    c.args.book_name.now c.args.record_name.now c.in_ok-loaded.loaded c.in_ok-loaded.ensures.files refl refl c.in_ok-loaded.ensures.faults c.in_ok-loaded.ensures.opens
    c.in_ok-loaded.ensures.readies out words_of no_limit _ c.in_err-show-in-Ok.ensures.opens c.in_err-show-in-Ok.ensures.shows)

-- no fault is counted but by what is told as one
pub returns-in_err-show-in-Ok-clause-quiet : goal.returns-in_err-show-in-Ok-clause-quiet
returns-in_err-show-in-Ok-clause-quiet g c = λ other.
    c.in_err-show-in-Ok.ensures.quiet (not-refused c.in_err-show-in-Ok.field-0.0 runs.Read (record_ending c.from_residual-in_err-show-in-Ok.result) outcomes.ReadFault
    (told-error record_ending c.from_residual-in_err-show-in-Ok.result (Run c.in_err-show-in-Ok.field-0.0) c.from_residual-in_err-show-in-Ok.ensures.1) refl other)
    ∙ c.in_ok-loaded.ensures.quiet (not-unready c.in_ok-loaded.loaded unready.Unread)

pub returns-in_err-show-in-Ok-clause-out_quiet : goal.returns-in_err-show-in-Ok-clause-out_quiet
returns-in_err-show-in-Ok-clause-out_quiet g c = λ other.
    c.in_err-show-in-Ok.ensures.out_quiet (not-refused c.in_err-show-in-Ok.field-0.0 runs.Write (record_ending c.from_residual-in_err-show-in-Ok.result) outcomes.WriteFault
    (told-error record_ending c.from_residual-in_err-show-in-Ok.result (Run c.in_err-show-in-Ok.field-0.0) c.from_residual-in_err-show-in-Ok.ensures.1) refl other)
