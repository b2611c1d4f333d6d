use Rattle.std.proofs.Common.{rules, ◌≡◌, suc, ◌-◌, ◌<◌, map, length, replicate, slice_get, slice_index, Some, None, refl, sym, ap, subst, ◌∙◌, arith}
use Rattle.std.proofs.lemmas.List.{length-map, length-replicate, get_or-replicate, get_or_default}
use Rattle.std.proofs.Math.ListN.{length-set}
use Rattle.watch_lists.specs.Naming.{operand_count}
use Rattle.condition_codes.specs.Chains.{wanted, AreChains}
use Rattle.condition_codes.proofs.Chaining.{chains-none, chains-skip, chains-next, forward-next, wants-at}
use Rattle.condition_codes.proofs.chains.chains_of.Goals as goal

pub loop-node-init : goal.loop-node-init
loop-node-init c =
    let n = length c.args.steps.now in
    let ws = map (wanted c.args.sizes) c.args.steps.now in
    let many : length ws ≡ n = length-map c.args.steps.now (wanted c.args.sizes) in
    let firsts : c.in_ok-firsts.firsts.items ≡ replicate (operand_count c.args.sizes) n = c.in_ok-firsts.ensures.items_if_clones_equal (λ y same. search rules) in
    let nexts : c.in_ok-nexts.nexts.items ≡ replicate n n = c.in_ok-nexts.ensures.items_if_clones_equal (λ y same. search rules) in
    record {
      within = omega arith;
      operands = ap length firsts ∙ length-replicate (operand_count c.args.sizes) n;
      nodes = ap length nexts ∙ length-replicate n n;
      chains = subst (λ k. AreChains ws k c.in_ok-firsts.firsts.items c.in_ok-nexts.nexts.items) many
          (chains-none ws c.in_ok-firsts.firsts.items c.in_ok-nexts.nexts.items (operand_count c.args.sizes) (firsts ∙ ap (replicate (operand_count c.args.sizes)) (sym many)));
      forward = λ m lt.
          let inside : m < n = omega (arith, ap length nexts, length-replicate n n) in
          let own : slice_index c.in_ok-nexts.nexts.items m ≡ n = ap (λ l. slice_index l m) nexts ∙ get_or-replicate n m n 0 inside in
          omega arith;
    }

pub loop-node-preserved-in-Some : goal.loop-node-preserved-in-Some
loop-node-preserved-in-Some c =
    let steps = c.args.steps.now in
    let ws = map (wanted c.args.sizes) steps in
    let inv = c.loop-node.invariant in
    let i = c.loop-node.node - 1 in
    let o = c.in-Some.operand in
    let firsts = c.loop-node.firsts.items in
    let nexts = c.loop-node.nexts.items in
    let lt : i < length steps = omega arith in
    let more : c.loop-node.node ≡ suc i = omega arith in
    let old : AreChains ws (suc i) firsts nexts = subst (λ k. AreChains ws k firsts nexts) more inv.chains in
    let here : slice_get ws i ≡ Some (Some o) = wants-at c.args.sizes steps i _ (Some o) lt c.in-Some.ensures.number in
    let within : o < length firsts = omega (arith, inv.operands, c.in-Some.ensures.bound o refl) in
    let inside : i < length nexts = omega (arith, inv.nodes) in
    let f = c.index.result.now in
    let is : f ≡ slice_index firsts o = c.index.ensures ∙ get_or_default firsts o f 0 within in
    record {
      within = omega arith;
      operands = length-set firsts o i ∙ inv.operands;
      nodes = length-set nexts i f ∙ inv.nodes;
      chains = chains-next ws i firsts nexts old o here within inside f is;
      forward = forward-next ws i firsts nexts old o here within inside f is inv.forward;
    }

pub loop-node-preserved : goal.loop-node-preserved
loop-node-preserved c =
    let steps = c.args.steps.now in
    let ws = map (wanted c.args.sizes) steps in
    let inv = c.loop-node.invariant in
    let i = c.loop-node.node - 1 in
    let firsts = c.loop-node.firsts.items in
    let nexts = c.loop-node.nexts.items in
    let lt : i < length steps = omega arith in
    let more : c.loop-node.node ≡ suc i = omega arith in
    record {
      within = omega arith;
      operands = inv.operands;
      nodes = inv.nodes;
      chains = chains-skip ws i firsts nexts (subst (λ k. AreChains ws k firsts nexts) more inv.chains) (wants-at c.args.sizes steps i _ None lt c.in_default.ensures.number);
      forward = inv.forward;
    }

pub returns-clause-chains : goal.returns-clause-chains
returns-clause-chains c =
    subst (λ k. AreChains (map (wanted c.args.sizes) c.args.steps.now) k c.loop-node.firsts.items c.loop-node.nexts.items)
    (let e : c.loop-node.node ≡ 0 = omega arith in e) c.loop-node.invariant.chains
