use Rattle.std.proofs.Common.{◌<◌, length, arith}
use Rattle.std.proofs.lemmas.Option.{slice_get-get_or}
use Rattle.condition_codes.proofs.Walked.{walked-none, walked-next, walked-all}
use Rattle.condition_codes.proofs.chains.add_chain.Goals as goal

pub loop-node-init : goal.loop-node-init
loop-node-init c = walked-none c.args.first c.args.nexts.now c.args.nodes.now c.args.askers.now.items

pub loop-node-preserved : goal.loop-node-preserved
loop-node-preserved c =
    let nodes = c.args.nodes.now in
    let node = c.loop-node.node in
    let within : node < length nodes = omega (arith, c.requires.nodes, c.loop-node-test.true) in
    rw c.in_ok-push.ensures.items
    (walked-next c.args.first node c.args.nexts.now nodes c.args.askers.now.items c.loop-node.askers.items c.loop-node.invariant c.loop-node-test.true _ (slice_get-get_or nodes node _ within))

pub returns : goal.returns
returns c =
    walked-all c.args.first c.loop-node.node c.args.nexts.now c.args.nodes.now c.args.askers.now.items c.loop-node.askers.items c.loop-node.invariant c.loop-node-test.false
