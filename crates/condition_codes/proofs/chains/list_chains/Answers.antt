use Rattle.std.proofs.Common.{◌≡◌, [], ◌∷◌, ◌++◌, length, ap, subst, ◌∙◌, arith, add-one}
use Rattle.condition_codes.specs.Chains.{AreAskers}
use Rattle.condition_codes.proofs.Walked.{askers-none, askers-next}
use Rattle.condition_codes.proofs.chains.list_chains.Goals as goal

pub loop-first-init : goal.loop-first-init
loop-first-init c = λ ws long chains. rw (c.in_ok-push.ensures.items, c.in_ok-starts.ensures.items, c.in_ok-askers.ensures.items) (askers-none ws c.args.nodes.now)

pub loop-first-preserved : goal.loop-first-preserved
loop-first-preserved c = λ ws long chains.
    let i = c.loop-first.first-index in
    let nodes = c.args.nodes.now in
    let starts = c.loop-first.starts.items in
    let askers = c.loop-first.askers.items in
    let grown = c.in_ok-add_chain.ensures in
    let own = grown.0 in
    let items : c.add_chain.new.askers.items ≡ askers ++ own = grown.1 in
    let end : c.len.result ≡ length (askers ++ own) = c.len.ensures ∙ c.add_chain.new.askers.ok.0 ∙ ap length items in
    let ends : c.push-in-loop-first.new.self.items ≡ starts ++ length (askers ++ own) ∷ [] = c.in_ok-push-2.ensures.items ∙ ap (λ n. starts ++ n ∷ []) end in
    rw (ends, items, add-one i)
    (askers-next ws nodes i starts askers own (c.loop-first.invariant ws long chains) (grown.2 ws i long (chains.first i c.loop-first-test.true) (λ m o wants. chains.next m o (omega arith) wants)))

pub returns : goal.returns
returns c = λ ws long chains.
    let all : c.loop-first.first-index ≡ length c.args.firsts.now = omega arith in
    rw (c.into_boxed_slice.ensures.items, c.into_boxed_slice-2.ensures.items)
    (subst (λ n. AreAskers ws c.args.nodes.now n c.loop-first.starts.items c.loop-first.askers.items) all (c.loop-first.invariant ws long chains))
