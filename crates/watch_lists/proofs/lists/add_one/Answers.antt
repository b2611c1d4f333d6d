use Rattle.std.proofs.Common.{◌≡◌, ◌<◌, [], ◌∷◌, ◌++◌, length, get_or, set, ap, sym, ◌∙◌, arith}
use Rattle.std.proofs.lemmas.List.{map-set, length-map, get_or-map}
use Rattle.watch_lists.specs.Listed.{items_of}
use Rattle.watch_lists.proofs.Adding.{adds-one}
use Rattle.watch_lists.proofs.lists.add_one.Goals as goal

pub returns-clause-listed : goal.returns-clause-listed
returns-clause-listed c =
    let lists = c.args.lists.now.items in
    let within : c.args.operand < length (items_of lists) = omega (arith, c.requires, length-map lists (λ v. v.items)) in
    let own : c.index_mut.result.now.items ≡ get_or (items_of lists) c.args.operand [] =
    ap (λ v. v.items) c.index_mut.ensures.value ∙ sym (get_or-map (λ v. v.items) lists c.args.operand c.index_mut.result.now [] c.requires) in
    adds-one (items_of lists) _ c.args.operand c.args.term within
    (map-set _ lists c.args.operand c.push.new.self ∙ ap (set (items_of lists) c.args.operand) (c.in_ok-push.ensures.items ∙ ap (λ l. l ++ c.args.term ∷ []) own))
