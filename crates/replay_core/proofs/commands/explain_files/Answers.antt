use Rattle.std.specs.Prelude.{⊤}
use Rattle.std.proofs.Common.{List, refl, sym, ◌∙◌, ap, subst}
use Rattle.ecam_io.specs.Outside.{raised}
use Rattle.ecam_io.specs.declared.discard.Discard.{Discard}
use Rattle.book_model.specs.Sealed.{the_book}
use Rattle.record_views.specs.declared.show.RunError.TheVariants as runs
use Rattle.replay_core.specs.Calls.{OpenedBoth, shelf_call, sink_call, Writes, WritesPart}
use Rattle.replay_core.specs.Answers.{ByRecord}
use Rattle.replay_core.specs.ReadEndings.{explaining}
use Rattle.replay_core.specs.declared.error.RecordError.TheVariants.{Run}
use Rattle.ecam_spec.specs.declared.kinds.Event.{Event}
use Rattle.ecam_spec.specs.Replay.{standing_lines}
use Rattle.fwc_pair.specs.PairState.{PairStands}
use Rattle.replay_core.specs.Outcomes.{refusal_of, record_ending}
use Rattle.replay_core.specs.declared.load.Unready.TheVariants as unready
use Rattle.replay_core.specs.declared.outcome.Outcome.TheVariants as outcomes
use Rattle.replay_core.proofs.Causes.{after-loading, joined, unexplained, explained, half-explained, told-error, not-refused, not-unready}
use Rattle.replay_core.proofs.Drilled.{never-rose}
use Rattle.replay_core.proofs.commands.explain_files.Goals as goal

pub returns-in-Err-clause-explains : goal.returns-in-Err-clause-explains
returns-in-Err-clause-explains g c =
    let first = shelf_call g.F.Source c.args.files.now c.load.new.files in
    let second = shelf_call g.F.Source c.load.new.files c.play.new.files in
    let out = sink_call g.O.Sink c.args.out.now c.args.out.now in
    let b = the_book c.in_ok-loaded.loaded.book in
    let on = after-loading first second c.args.book_name.now b c.in_ok-loaded.ensures.files refl c.in_ok-loaded.ensures.faults c.in_ok-loaded.ensures.readies.book in
    let count : OpenedBoth (joined first second) = c.in-Err.ensures.opens ∙ ap raised c.in_ok-loaded.ensures.opens in
    unexplained first second c.args.book_name.now c.args.record_name.now b on out (OpenedBoth (joined first second)) count {D = Discard} (record { agrees = λ s w. ⊤; old = _; new = c.play.new.out; faults = 0; faults_now = 0 }) _ never-rose c.play.new.loaded.pair c.in-Err.error c.in-Err.ensures.plays (λ w was. was)

-- no fault is counted but by what is told as one
pub returns-in-Err-clause-quiet : goal.returns-in-Err-clause-quiet
returns-in-Err-clause-quiet g c = λ other.
    c.in-Err.ensures.quiet (not-refused c.in-Err.error runs.Read (refusal_of c.in-Err.error) outcomes.ReadFault refl refl other)
    ∙ c.in_ok-loaded.ensures.quiet (not-unready c.in_ok-loaded.loaded unready.Unread)

pub returns-in_err-put_standings-in-Ok-clause-explains : goal.returns-in_err-put_standings-in-Ok-clause-explains
returns-in_err-put_standings-in-Ok-clause-explains g c =
    let first = shelf_call g.F.Source c.args.files.now c.load.new.files in
    let second = shelf_call g.F.Source c.load.new.files c.play.new.files in
    let out = sink_call g.O.Sink c.args.out.now c.put_standings.new.out in
    let b = the_book c.in_ok-loaded.loaded.book in
    let pair = c.play.new.loaded.pair in
    let on = after-loading first second c.args.book_name.now b c.in_ok-loaded.ensures.files refl c.in_ok-loaded.ensures.faults c.in_ok-loaded.ensures.readies.book in
    let count : OpenedBoth (joined first second) = c.in-Ok.ensures.opens ∙ ap raised c.in_ok-loaded.ensures.opens in
    let part = subst (λ x. (h : List Event) → PairStands x h pair → WritesPart out (standing_lines x h)) (ap the_book c.in-Ok.ensures.book) c.in_err-put_standings-in-Ok.ensures.prefix in
    subst (ByRecord (joined first second) out c.args.book_name.now c.args.record_name.now (explaining out))
    (sym (told-error record_ending c.from_residual-in_err-put_standings-in-Ok.result (Run runs.Write) c.from_residual-in_err-put_standings-in-Ok.ensures.1))
    (half-explained first second c.args.book_name.now c.args.record_name.now b on out (OpenedBoth (joined first second)) count {D = Discard} (record { agrees = λ s w. ⊤; old = _; new = c.play.new.out; faults = 0; faults_now = 0 }) _ never-rose pair _ c.in-Ok.ensures.plays c.in_err-put_standings-in-Ok.ensures.cause part)

pub returns-in_ok-put_standings-in-Ok-clause-explains : goal.returns-in_ok-put_standings-in-Ok-clause-explains
returns-in_ok-put_standings-in-Ok-clause-explains g c =
    let first = shelf_call g.F.Source c.args.files.now c.load.new.files in
    let second = shelf_call g.F.Source c.load.new.files c.play.new.files in
    let out = sink_call g.O.Sink c.args.out.now c.put_standings.new.out in
    let b = the_book c.in_ok-loaded.loaded.book in
    let pair = c.play.new.loaded.pair in
    let on = after-loading first second c.args.book_name.now b c.in_ok-loaded.ensures.files refl c.in_ok-loaded.ensures.faults c.in_ok-loaded.ensures.readies.book in
    let count : OpenedBoth (joined first second) = c.in-Ok.ensures.opens ∙ ap raised c.in_ok-loaded.ensures.opens in
    let whole = subst (λ x. (h : List Event) → PairStands x h pair → Writes out (standing_lines x h)) (ap the_book c.in-Ok.ensures.book) c.in_ok-put_standings-in-Ok.ensures.all in
    explained first second c.args.book_name.now c.args.record_name.now b on out (OpenedBoth (joined first second)) count {D = Discard} (record { agrees = λ s w. ⊤; old = _; new = c.play.new.out; faults = 0; faults_now = 0 }) _ never-rose pair _ c.in-Ok.ensures.plays whole

pub returns-in_err-put_standings-in-Ok-clause-quiet : goal.returns-in_err-put_standings-in-Ok-clause-quiet
returns-in_err-put_standings-in-Ok-clause-quiet g c = λ other.
    c.in-Ok.ensures.quiet (λ same. let w : ⊥ = cc in w) ∙ c.in_ok-loaded.ensures.quiet (not-unready c.in_ok-loaded.loaded unready.Unread)

pub returns-in_ok-put_standings-in-Ok-clause-quiet : goal.returns-in_ok-put_standings-in-Ok-clause-quiet
returns-in_ok-put_standings-in-Ok-clause-quiet g c = λ other.
    c.in-Ok.ensures.quiet (λ same. let w : ⊥ = cc in w) ∙ c.in_ok-loaded.ensures.quiet (not-unready c.in_ok-loaded.loaded unready.Unread)
