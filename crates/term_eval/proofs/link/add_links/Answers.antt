use Rattle.std.proofs.Common.{◌≡◌, ◌++◌, ◌∷◌, [], map, sym, ◌∙◌, ap, arith, append_assoc}
use Rattle.std.specs.List.{range_with_len}
use Rattle.std.proofs.lemmas.List.FromFn.{map-range_with_len_more}
use Rattle.term_eval.specs.Links.{link_from}
use Rattle.term_eval.proofs.Linkable.{linkable}
use Rattle.term_eval.proofs.link.add_links.Goals as goal

pub link_at-requires : goal.link_at-requires
link_at-requires c =
    let (tree, at, is, low) = c.requires in
    linkable tree at c.args.steps.now is low c.loop-node.node c.loop-node-test.true

pub loop-node-preserved : goal.loop-node-preserved
loop-node-preserved c =
    let steps = c.args.steps.now in
    let i = c.loop-node.node in
    let added : c.push.new.self.items ≡ c.loop-node.links.items ++ c.link_at.result ∷ [] = c.in_ok-push.ensures.items in
    added
    ∙ ap (λ l. c.loop-node.links.items ++ l ∷ []) c.link_at.ensures
    ∙ ap (λ l. l ++ link_from steps i ∷ []) c.loop-node.invariant
    ∙ append_assoc c.args.links.now.items (map (link_from steps) (range_with_len 0 i)) (link_from steps i ∷ [])
    ∙ ap (λ l. c.args.links.now.items ++ l) (sym (map-range_with_len_more (link_from steps) 0 i i (omega arith)))
