use Rattle.std.proofs.Common.{rules, ◌≡◌, suc, ◌-◌, ◌+◌, max, Some, sym, subst, arith}
use Rattle.ecam_spec.specs.Grammar.{no_more, and_then}
use Rattle.term_text.specs.Parts.{parts}
use Rattle.term_text.proofs.Taken.{gather, gather_all, next_taken, all_taken}
use Rattle.term_text.proofs.parts.Parts.take.Goals as goal

pub loop-init : goal.loop-init
loop-init c = λ names text forms all stand gathers. let whole : c.max-end.result ≡ c.max-end.result - 0 = omega arith in record {
  taken = no_more;
  read = forms;
  members = c.new-members.ensures names text;
  stand = stand;
  goes_on = subst (λ n. gather n no_more forms ≡ Some all) whole gathers;
}

pub loop-preserved : goal.loop-preserved
loop-preserved c = λ names text forms all stand gathers.
    let left : c.max-end.result - c.loop.counter ≡ suc (c.max-end.result - (c.loop.counter + 1)) = omega (arith, c.loop-test.true) in
    next_taken names text c.loop.members c.add.new.self (parts c.loop.self) (parts c.pop.new.self) c.pop.result _ _ all left c.pop.ensures
    (λ f fs h k. c.in_ok-add.ensures names text f fs h k)
    (c.loop.invariant names text forms all stand gathers)

pub returns : goal.returns
returns c = λ names text forms older f fs stand gathers.
    let end : c.max-end.result ≡ max c.args.count 1 = search rules in
    let one : c.max-end.result ≡ suc (c.args.count - 1) = omega (arith, end) in
    let all = subst (λ n. gather n no_more forms ≡ Some (and_then f fs, older)) (sym one) (gather_all (c.args.count - 1) no_more forms older f fs gathers) in
    let none : c.max-end.result - c.loop.counter ≡ 0 = omega (arith, c.loop-test.false) in
    all_taken names text c.loop.members (parts c.loop.self) _ (and_then f fs, older) none (c.loop.invariant names text forms (and_then f fs, older) stand all)
