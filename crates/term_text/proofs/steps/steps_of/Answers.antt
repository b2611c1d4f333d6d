use Rattle.std.proofs.Common.{◌≡◌, ◌≤◌, ◌+◌, suc, true, Some, Err, sym, ◌∙◌, refl, arith, subst}
use Rattle.std.proofs.lemmas.Bool.{ne_eqb}
use Rattle.std.proofs.lemmas.Result.{err_from_is_err_and}
use Rattle.std.specs.Prelude.{◌==◌, slice_index, option_to_list}
use Rattle.ecam_spec.proofs.TermReading.{next_move}
use Rattle.term_text.specs.Pending.{pending, Moves}
use Rattle.term_text.proofs.Stack.{counts_up, counts_next}
use Rattle.term_text.proofs.Tokens.{kept_blank, kept_token, told_refusal, told_whole, told_short, token_in, end_in}
use Rattle.term_text.proofs.steps.steps_of.Goals as goal

pub loop-at-preserved-then-text-at-eq32 : goal.loop-at-preserved-then-text-at-eq32
loop-at-preserved-then-text-at-eq32 c =
    let blank : (slice_index c.args.text.now c.loop-at.at == 32) ≡ true = rw c.if-text-at-eq32.true refl in
    record {
      within = omega arith;
      counts = counts_up c.loop-at.at (c.loop-at.at + 1) (pending c.loop-at.pending) (omega arith) c.loop-at.invariant.counts;
      reads = kept_blank c.args.text.now c.loop-at.at c.loop-at.steps.items (pending c.loop-at.pending) c.loop-at.invariant.reads c.loop-at-test.true blank;
    }

pub returns-in_err-step : goal.returns-in_err-step
returns-in_err-step c =
    let text = c.args.text.now in
    let at = c.loop-at.at in
    let s = pending c.loop-at.pending in
    let rest = pending c.accept.new.self in
    let e = c.in_err-step.field-0.0 in
    let p = err_from_is_err_and c.from_residual-in_err-step.result c.from_residual-in_err-step.ensures.1 in
    let no_blank = ne_eqb (slice_index text at) 32 c.if-text-at-eq32.false in
    let moves = subst (λ t. Moves (next_move s t) rest at (Err e)) c.token_at-found.ensures.token c.in_err-step.ensures in
    rw (p.1, p.2) (told_refusal text at c.loop-at.steps.items s c.loop-at.invariant.reads c.loop-at-test.true no_blank rest e moves)

pub loop-at-preserved : goal.loop-at-preserved
loop-at-preserved c =
    let text = c.args.text.now in
    let at = c.loop-at.at in
    let s = pending c.loop-at.pending in
    let rest = pending c.accept.new.self in
    let made = option_to_list c.in_ok-step.step in
    let no_blank = ne_eqb (slice_index text at) 32 c.if-text-at-eq32.false in
    let move : next_move s (token_in text at) ≡ Some (rest, made) = subst (λ t. next_move s t ≡ Some (rest, made)) c.token_at-found.ensures.token c.in_ok-step.ensures in
    let end : c.token_at-found.result.end ≡ end_in text at = c.token_at-found.ensures.end in
    let later : at + 1 ≤ c.token_at-found.result.end = omega (arith, end) in
    let reads = kept_token text at c.loop-at.steps.items s c.loop-at.invariant.reads c.loop-at-test.true no_blank rest made move in
    record {
      within = c.token_at-found.ensures.within;
      counts = counts_up (suc at) c.token_at-found.result.end rest (omega (arith, end)) (counts_next at s (token_in text at) rest made move c.loop-at.invariant.counts);
      reads = rw (c.in_ok-push.ensures, end) reads;
    }

pub returns-then-is_whole : goal.returns-then-is_whole
returns-then-is_whole c = told_whole c.args.text.now c.loop-at.at c.loop-at.steps.items (pending c.loop-at.pending) c.loop-at.invariant.reads c.loop-at-test.false (sym c.is_whole.ensures ∙ c.if-is_whole.true)

pub returns : goal.returns
returns c = told_short c.args.text.now c.loop-at.at c.loop-at.steps.items (pending c.loop-at.pending) c.loop-at.invariant.reads c.loop-at-test.false (sym c.is_whole.ensures ∙ c.if-is_whole.false)
