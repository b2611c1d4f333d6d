use Rattle.std.proofs.Common.{◌+◌, ◌||◌, nat_le, sym, ◌∙◌, ap, arith}
use Rattle.attention.proofs.Ringing.{rings-later, rings-none, rings-more}
use Rattle.attention.proofs.callers.latest_onset.Goals as goal

pub returns-then-first-watches : goal.returns-then-first-watches
returns-then-first-watches c = λ j.
    sym (rings-none c.args.chimes.now c.args.watches.now j _ (λ i from h. c.next_or-first.ensures.none i from (omega (arith, h, c.if-first-watches.true))))

pub loop-i-init : goal.loop-i-init
loop-i-init c = record {
  most = c.next_or-i.ensures.end;
  here = c.next_or-i.ensures.marked;
  rings = λ j.
      sym
      (rings-more c.args.chimes.now c.args.watches.now j c.next_or-first.result c.next_or-i.result c.opened-latest.result _
      (c.next_or-first.ensures.marked (omega (arith, c.if-first-watches.false))) (omega (arith, c.if-first-watches.false)) c.opened-latest.ensures
      c.next_or-i.ensures.from c.next_or-i.ensures.none
      ∙ ap (λ b. b || nat_le j (c.opened-latest.result + 4)) (rings-none c.args.chimes.now c.args.watches.now j c.next_or-first.result c.next_or-first.ensures.none));
}

pub loop-i-preserved : goal.loop-i-preserved
loop-i-preserved c = record {
  most = c.next_or-i-in-loop-i.ensures.end;
  here = c.next_or-i-in-loop-i.ensures.marked;
  rings = λ j.
      ap (λ m. nat_le j (m + 4)) c.max-latest.ensures
      ∙ rings-later j c.loop-i.latest c.opened.result
      ∙ ap (λ b. b || nat_le j (c.opened.result + 4)) (c.loop-i.invariant.rings j)
      ∙ sym
      (rings-more c.args.chimes.now c.args.watches.now j c.loop-i.i c.next_or-i-in-loop-i.result c.opened.result _
      (c.loop-i.invariant.here c.loop-i-test.true) c.loop-i-test.true c.opened.ensures
      c.next_or-i-in-loop-i.ensures.from c.next_or-i-in-loop-i.ensures.none);
}
