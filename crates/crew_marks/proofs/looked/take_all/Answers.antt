use Rattle.std.proofs.Common.{arith}
use Rattle.std.proofs.lemmas.Bool.{or_left, or_right}
use Rattle.crew_marks.proofs.Stepping.{flag-within}
use Rattle.crew_marks.proofs.looked.take_all.Goals as goal

pub returns-clause-all : goal.returns-clause-all
returns-clause-all c =
    let kept = c.loop-alert.invariant in
    let end = c.loop-alert-test.false in
    let up = flag-within c.args.up.now in
    let waiting = flag-within c.args.waiting.now in
    record {
      up = λ a on. kept.taken a (let w = up a on in omega (arith, w, end, c.loop-alert.auto.alert-end)) (or_left _ _ on);
      waiting = λ a on. kept.taken a (let w = waiting a on in omega (arith, w, end, c.loop-alert.auto.alert-end, c.requires.up, c.requires.waiting)) (or_right _ _ on);
      marked = kept.marked;
    }
