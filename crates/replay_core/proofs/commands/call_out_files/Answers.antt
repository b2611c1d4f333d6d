use Rattle.std.proofs.Common.{Some, Ok, Err, refl, sym, ◌∙◌, ap, subst}
use Rattle.ecam_spec.specs.Command.{no_limit}
use Rattle.book_model.specs.Sealed.{the_book}
use Rattle.record_views.specs.declared.show.RunError.TheVariants as runs
use Rattle.replay_core.specs.Answers.{ByNumber}
use Rattle.replay_core.specs.Calls.{shelf_call, sink_call}
use Rattle.replay_core.specs.Outcomes.{number_ending}
use Rattle.replay_core.specs.Play.{Shown}
use Rattle.replay_core.specs.ReadEndings.{showing}
use Rattle.replay_core.specs.Showings.{calls_of, called_out}
use Rattle.replay_core.specs.declared.error.NumberError.TheVariants.{Run}
use Rattle.replay_core.specs.declared.load.Unready.TheVariants as unready
use Rattle.replay_core.specs.declared.outcome.Outcome.TheVariants as outcomes
use Rattle.replay_core.proofs.Causes.{shown-after-loading, by-its-number, has-number, told-error, not-refused, not-unready}
use Rattle.replay_core.proofs.commands.call_out_files.Goals as goal

pub returns-in_ok-show-in-Some-clause-calls : goal.returns-in_ok-show-in-Some-clause-calls
returns-in_ok-show-in-Some-clause-calls g c =
    let first = shelf_call g.F.Source c.args.files.now c.load.new.files in
    let second = shelf_call g.F.Source c.load.new.files c.show.new.files in
    let out = sink_call g.O.Sink c.args.out.now c.show.new.out in
    let l = c.in_ok-loaded.loaded in
    let b = the_book l.book in
    let place = c.in-Some.ensures.place in
    let shown = subst (λ o. Shown second out b o c.args.record_name.now no_limit (Ok tt)) (ap (calls_of b) (ap Some c.new.ensures.param ∙ place)) c.in_ok-show-in-Some.ensures.shows in
    by-its-number (shelf_call g.F.Source c.args.files.now c.show.new.files) out c.args.book_name.now c.args.record_name.now c.args.parameter.now
    (showing out (called_out c.args.parameter.now) no_limit)
    (has-number first c.args.book_name.now c.args.parameter.now l c.in_ok-loaded.ensures.readies c.in-Some.param (sym place)) outcomes.Done
    (shown-after-loading first second c.args.book_name.now c.args.record_name.now l c.in_ok-loaded.ensures.files refl refl c.in_ok-loaded.ensures.faults
    c.in_ok-loaded.ensures.opens c.in_ok-loaded.ensures.readies out (called_out c.args.parameter.now) no_limit _ c.in_ok-show-in-Some.ensures.opens shown)

pub returns-in_err-show-in-Some-clause-calls : goal.returns-in_err-show-in-Some-clause-calls
returns-in_err-show-in-Some-clause-calls g c =
    let first = shelf_call g.F.Source c.args.files.now c.load.new.files in
    let second = shelf_call g.F.Source c.load.new.files c.show.new.files in
    let out = sink_call g.O.Sink c.args.out.now c.show.new.out in
    let l = c.in_ok-loaded.loaded in
    let b = the_book l.book in
    let place = c.in-Some.ensures.place in
    let e = c.in_err-show-in-Some.field-0.0 in
    let shown = subst (λ o. Shown second out b o c.args.record_name.now no_limit (Err e)) (ap (calls_of b) (ap Some c.new.ensures.param ∙ place)) c.in_err-show-in-Some.ensures.shows in
    subst (ByNumber (shelf_call g.F.Source c.args.files.now c.show.new.files) out c.args.book_name.now c.args.record_name.now c.args.parameter.now
    (showing out (called_out c.args.parameter.now) no_limit))
    (sym (told-error number_ending c.from_residual-in_err-show-in-Some.result (Run e) c.from_residual-in_err-show-in-Some.ensures.1))
    (by-its-number (shelf_call g.F.Source c.args.files.now c.show.new.files) out c.args.book_name.now c.args.record_name.now c.args.parameter.now
    (showing out (called_out c.args.parameter.now) no_limit)
    (has-number first c.args.book_name.now c.args.parameter.now l c.in_ok-loaded.ensures.readies c.in-Some.param (sym place)) _
    (shown-after-loading first second c.args.book_name.now c.args.record_name.now l c.in_ok-loaded.ensures.files refl refl c.in_ok-loaded.ensures.faults
    c.in_ok-loaded.ensures.opens c.in_ok-loaded.ensures.readies out (called_out c.args.parameter.now) no_limit _ c.in_err-show-in-Some.ensures.opens shown))

-- the callouts are new
pub show-requires-clause-new : goal.show-requires-clause-new
show-requires-clause-new g c = c.new.ensures.begins (the_book c.in_ok-loaded.loaded.book)

-- no fault is counted but by what is told as one
pub returns-in_err-show-in-Some-clause-quiet : goal.returns-in_err-show-in-Some-clause-quiet
returns-in_err-show-in-Some-clause-quiet g c = λ other.
    c.in_err-show-in-Some.ensures.quiet (not-refused c.in_err-show-in-Some.field-0.0 runs.Read (number_ending c.from_residual-in_err-show-in-Some.result) outcomes.ReadFault
    (told-error number_ending c.from_residual-in_err-show-in-Some.result (Run c.in_err-show-in-Some.field-0.0) c.from_residual-in_err-show-in-Some.ensures.1) refl other)
    ∙ c.in_ok-loaded.ensures.quiet (not-unready c.in_ok-loaded.loaded unready.Unread)

pub returns-in_err-show-in-Some-clause-out_quiet : goal.returns-in_err-show-in-Some-clause-out_quiet
returns-in_err-show-in-Some-clause-out_quiet g c = λ other.
    c.in_err-show-in-Some.ensures.out_quiet (not-refused c.in_err-show-in-Some.field-0.0 runs.Write (number_ending c.from_residual-in_err-show-in-Some.result) outcomes.WriteFault
    (told-error number_ending c.from_residual-in_err-show-in-Some.result (Run c.in_err-show-in-Some.field-0.0) c.from_residual-in_err-show-in-Some.ensures.1) refl other)
