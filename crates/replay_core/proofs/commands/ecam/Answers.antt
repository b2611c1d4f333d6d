use Rattle.std.proofs.Common.{map, string_bytes, sym, ◌∙◌, subst}
use Rattle.std.specs.declared.alloc.Global.{Global}
use Rattle.replay_core.specs.Calls.{shelf_call, sink_call}
use Rattle.replay_core.specs.Decides.{Decides, DecidesUsage}
use Rattle.replay_core.proofs.Decided.{decided, decided-usage}
use Rattle.replay_core.proofs.Headlines.{changes-written}
use Rattle.replay_core.proofs.commands.ecam.Goals as goal

pub returns-clause-headline : goal.returns-clause-headline
returns-clause-headline g c = λ b history done replays.
    changes-written (shelf_call g.F.Source c.args.files.now c.answer-outcome.new.files) (sink_call g.O.Sink c.args.out.now c.answer-outcome.new.out)
    (map (string_bytes {Z = Global}) c.args.words.now) b history replays c.answer-outcome.result c.answer-outcome.ensures.ends (sym c.status.ensures ∙ done)

pub returns-clause-ends : goal.returns-clause-ends
returns-clause-ends g c = (c.answer-outcome.result, c.status.ensures, c.answer-outcome.ensures.ends, c.tell.ensures.told)

pub returns-clause-usage : goal.returns-clause-usage
returns-clause-usage g c =
    let words = map (string_bytes {Z = Global}) c.args.words.now in
    subst (DecidesUsage words) (sym c.status.ensures)
    (decided-usage (shelf_call g.F.Source c.args.files.now c.answer-outcome.new.files) (sink_call g.O.Sink c.args.out.now c.answer-outcome.new.out) words c.answer-outcome.result c.answer-outcome.ensures.ends)

pub returns-clause-decides : goal.returns-clause-decides
returns-clause-decides g c = λ told is quiet out_quiet.
    let words = map (string_bytes {Z = Global}) c.args.words.now in
    subst (Decides words told) (sym c.status.ensures)
    (decided told (shelf_call g.F.Source c.args.files.now c.answer-outcome.new.files) is (sink_call g.O.Sink c.args.out.now c.answer-outcome.new.out) quiet out_quiet words
    c.answer-outcome.result c.answer-outcome.ensures.ends)
