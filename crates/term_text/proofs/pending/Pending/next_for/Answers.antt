use Rattle.std.proofs.Common.{sym, ap, ◌∙◌, subst, arith}
use Rattle.ecam_spec.proofs.TermReading.{next_move}
use Rattle.term_text.specs.Pending.{CountsWithin}
use Rattle.term_text.proofs.Stack.{taken, passed, none_expected}
use Rattle.term_text.proofs.pending.Pending.next_for.Goals as goal

pub returns-then-not-is_tail-clause-count : goal.returns-then-not-is_tail-clause-count
returns-then-not-is_tail-clause-count c = λ n h. (subst (CountsWithin n) (taken _ _ _ c.in-Some.ensures.items) (c.loop-expected.invariant.counts n h)).0

pub loop-expected-preserved : goal.loop-expected-preserved
loop-expected-preserved c =
    let next = taken _ _ _ c.in-Some.ensures.items in
    record {
      next =
          c.loop-expected.invariant.next
          ∙ ap (λ s. next_move s c.args.token) next
          ∙ passed c.in-Some.expected _ c.args.token (sym c.is_tail.ensures ∙ c.if-not-is_tail.false) (sym c.is_sign.ensures ∙ c.if-is_sign.false);
      counts = λ n h. (subst (CountsWithin n) next (c.loop-expected.invariant.counts n h)).1;
    }

pub returns-clause-next : goal.returns-clause-next
returns-clause-next c =
    c.loop-expected.invariant.next
    ∙ none_expected c.loop-expected.self.stack.items c.args.token (omega (arith, c.in_default.ensures.cases.0, c.loop-expected.self.stack.ok.0))
