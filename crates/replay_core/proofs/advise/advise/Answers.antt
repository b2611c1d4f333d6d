use Rattle.std.proofs.Common.{List, refl, sym, ◌∙◌, subst}
use Rattle.ecam_spec.specs.Command.{no_limit}
use Rattle.view_spec.specs.Advisories.{Advisory}
use Rattle.record_views.specs.declared.show.RunError.TheVariants as runs
use Rattle.replay_core.specs.Answers.{ByLimits}
use Rattle.replay_core.specs.Calls.{shelf_call, sink_call}
use Rattle.replay_core.specs.Outcomes.{limits_ending}
use Rattle.replay_core.specs.ReadEndings.{showing}
use Rattle.replay_core.specs.Showings.{advised}
use Rattle.replay_core.specs.declared.error.LimitsError.TheVariants.{Run}
use Rattle.replay_core.specs.declared.outcome.Outcome.TheVariants as outcomes
use Rattle.replay_core.proofs.Causes.{told-error, not-refused}
use Rattle.replay_core.proofs.Limited.{shown-after-preparing}
use Rattle.replay_core.proofs.advise.advise.Goals as goal

pub returns-clause-advises : goal.returns-clause-advises
returns-clause-advises g c =
    shown-after-preparing (shelf_call g.F.Source c.args.files.now c.prepare.new.files) (shelf_call g.F.Source c.prepare.new.files c.show.new.files)
    c.args.book_name.now c.args.record_name.now c.args.limits_name.now c.in_ok-prepared.prepared c.in_ok-prepared.ensures.files refl refl c.in_ok-prepared.ensures.faults
    c.in_ok-prepared.ensures.prepares (sink_call g.O.Sink c.args.out.now c.show.new.out) advised no_limit _ c.in_ok-show.ensures.opens c.in_ok-show.ensures.shows

pub returns-in_err-show-clause-advises : goal.returns-in_err-show-clause-advises
returns-in_err-show-clause-advises g c =
    let out = sink_call g.O.Sink c.args.out.now c.show.new.out in
    subst (ByLimits (shelf_call g.F.Source c.args.files.now c.show.new.files) out c.args.book_name.now c.args.record_name.now c.args.limits_name.now
    (λ (ls : List Advisory). showing out (advised ls) no_limit))
    (sym (told-error limits_ending c.from_residual-in_err-show.result (Run c.in_err-show.field-0.0) c.from_residual-in_err-show.ensures.1))
    (shown-after-preparing (shelf_call g.F.Source c.args.files.now c.prepare.new.files) (shelf_call g.F.Source c.prepare.new.files c.show.new.files)
    c.args.book_name.now c.args.record_name.now c.args.limits_name.now c.in_ok-prepared.prepared c.in_ok-prepared.ensures.files refl refl c.in_ok-prepared.ensures.faults
    c.in_ok-prepared.ensures.prepares out advised no_limit _ c.in_err-show.ensures.opens c.in_err-show.ensures.shows)

-- no fault is counted but by what is told as one
pub returns-in_err-show-clause-quiet : goal.returns-in_err-show-clause-quiet
returns-in_err-show-clause-quiet g c = λ other.
    c.in_err-show.ensures.quiet (not-refused c.in_err-show.field-0.0 runs.Read (limits_ending c.from_residual-in_err-show.result) outcomes.ReadFault
    (told-error limits_ending c.from_residual-in_err-show.result (Run c.in_err-show.field-0.0) c.from_residual-in_err-show.ensures.1) refl other)
    ∙ c.in_ok-prepared.ensures.quiet (λ is. let w : ⊥ = cc in w) (λ is. let w : ⊥ = cc in w)

pub returns-in_err-show-clause-out_quiet : goal.returns-in_err-show-clause-out_quiet
returns-in_err-show-clause-out_quiet g c = λ other.
    c.in_err-show.ensures.out_quiet (not-refused c.in_err-show.field-0.0 runs.Write (limits_ending c.from_residual-in_err-show.result) outcomes.WriteFault
    (told-error limits_ending c.from_residual-in_err-show.result (Run c.in_err-show.field-0.0) c.from_residual-in_err-show.ensures.1) refl other)
