use Rattle.std.proofs.Common.{refl, length, ap, ◌∙◌, arith}
use Rattle.term_eval.specs.Links.{links_from}
use Rattle.term_eval.proofs.Codes.{length-code}
use Rattle.term_eval.proofs.Linking.{length-links, link-at}
use Rattle.term_eval.proofs.tests.hear.Goals as goal

pub bounds-links-node : goal.bounds-links-node
bounds-links-node c =
    let (tree, held) = c.requires.held in
    let len = ap length held.code.is ∙ length-code tree 0 0 in
    let long = length-links tree 0 c.args.links.now (c.requires.links ∙ ap links_from held.code.is) in
    omega (arith, len, long, c.loop-node-test.true)

pub turn-requires : goal.turn-requires
turn-requires c =
    let (tree, held) = c.requires.held in
    let len = ap length held.code.is ∙ length-code tree 0 0 in
    let links = c.requires.links ∙ ap links_from held.code.is in (
      tree,
      0,
      record {
        links = links;
        held = record {
          code = record { is = refl; short = held.code.short; small = held.code.small };
          nodes = omega (arith, held.nodes, c.loop-node.invariant.states);
          slots = omega (arith, held.slots, c.loop-node.invariant.wakes);
        };
      },
      (omega (arith, len, c.loop-node-test.true)),
      link-at tree 0 c.args.links.now links c.loop-node.node (omega (arith, len, c.loop-node-test.true)),
    )
