use Rattle.std.proofs.Common.{refl, sym, ◌∙◌, subst}
use Rattle.record_views.specs.Showing.{blocks_of}
use Rattle.record_views.specs.declared.show.RunError.TheVariants as runs
use Rattle.replay_core.specs.Answers.{ByRecord}
use Rattle.replay_core.specs.Calls.{shelf_call, sink_call}
use Rattle.replay_core.specs.ReadEndings.{showing}
use Rattle.replay_core.specs.Outcomes.{record_ending}
use Rattle.replay_core.specs.declared.error.RecordError.TheVariants.{Run}
use Rattle.replay_core.specs.declared.load.Unready.TheVariants as unready
use Rattle.replay_core.specs.declared.outcome.Outcome.TheVariants as outcomes
use Rattle.replay_core.proofs.Causes.{shown-after-loading, told-error, not-refused, not-unready}
use Rattle.replay_core.proofs.commands.replay_files.Goals as goal

pub returns-clause-replays : goal.returns-clause-replays
returns-clause-replays g c =
    shown-after-loading (shelf_call g.F.Source c.args.files.now c.load.new.files) (shelf_call g.F.Source c.load.new.files c.show.new.files)
    c.args.book_name.now c.args.record_name.now c.in_ok-loaded.loaded c.in_ok-loaded.ensures.files refl refl c.in_ok-loaded.ensures.faults c.in_ok-loaded.ensures.opens
    c.in_ok-loaded.ensures.readies (sink_call g.O.Sink c.args.out.now c.show.new.out) blocks_of c.args.limit _ c.in_ok-show.ensures.opens c.in_ok-show.ensures.shows

pub returns-in_err-show-clause-replays : goal.returns-in_err-show-clause-replays
returns-in_err-show-clause-replays g c =
    let out = sink_call g.O.Sink c.args.out.now c.show.new.out in
    subst (ByRecord (shelf_call g.F.Source c.args.files.now c.show.new.files) out c.args.book_name.now c.args.record_name.now (showing out blocks_of c.args.limit))
    (sym (told-error record_ending c.from_residual-in_err-show.result (Run c.in_err-show.field-0.0) c.from_residual-in_err-show.ensures.1))
    (shown-after-loading (shelf_call g.F.Source c.args.files.now c.load.new.files) (shelf_call g.F.Source c.load.new.files c.show.new.files)
    c.args.book_name.now c.args.record_name.now c.in_ok-loaded.loaded c.in_ok-loaded.ensures.files refl refl c.in_ok-loaded.ensures.faults c.in_ok-loaded.ensures.opens
    c.in_ok-loaded.ensures.readies out blocks_of c.args.limit _ c.in_err-show.ensures.opens c.in_err-show.ensures.shows)

-- no fault is counted but by what is told as one
pub returns-in_err-show-clause-quiet : goal.returns-in_err-show-clause-quiet
returns-in_err-show-clause-quiet g c = λ other.
    c.in_err-show.ensures.quiet (not-refused c.in_err-show.field-0.0 runs.Read (record_ending c.from_residual-in_err-show.result) outcomes.ReadFault
    (told-error record_ending c.from_residual-in_err-show.result (Run c.in_err-show.field-0.0) c.from_residual-in_err-show.ensures.1) refl other)
    ∙ c.in_ok-loaded.ensures.quiet (not-unready c.in_ok-loaded.loaded unready.Unread)

pub returns-in_err-show-clause-out_quiet : goal.returns-in_err-show-clause-out_quiet
returns-in_err-show-clause-out_quiet g c = λ other.
    c.in_err-show.ensures.out_quiet (not-refused c.in_err-show.field-0.0 runs.Write (record_ending c.from_residual-in_err-show.result) outcomes.WriteFault
    (told-error record_ending c.from_residual-in_err-show.result (Run c.in_err-show.field-0.0) c.from_residual-in_err-show.ensures.1) refl other)
