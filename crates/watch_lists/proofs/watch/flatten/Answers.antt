use Rattle.std.proofs.Common.{◌≡◌, suc, ◌+◌, ◌<◌, [], ◌∷◌, ◌++◌, length, take, get_or, slice_index, sym, ap, subst, ◌∙◌, arith, add-one}
use Rattle.std.proofs.lemmas.List.{length-map, get_or-map}
use Rattle.watch_lists.specs.Listed.{items_of}
use Rattle.watch_lists.specs.Flat.{IsFlat}
use Rattle.watch_lists.proofs.Flattening.{flat-next, start-new}
use Rattle.watch_lists.proofs.watch.flatten.Goals as goal

pub loop-list-preserved : goal.loop-list-preserved
loop-list-preserved c =
    let lists = items_of c.args.lists.now in
    let i = c.loop-list.list-index in
    let within : i < length lists = omega (arith, c.loop-list-test.true, length-map c.args.lists.now (λ v. v.items)) in
    let own : c.deref.result.now ≡ get_or lists i [] =
    c.deref.ensures.value ∙ ap (λ v. v.items) c.list-item.is ∙ sym (get_or-map (λ v. v.items) c.args.lists.now i c.list-item.result [] c.loop-list-test.true) in
    let items : c.loop-list.terms.items ++ c.deref.result.now ≡ c.extend_from_slice.new.self.items = sym c.in_ok-extend_from_slice.ensures.items in
    let end : c.len.result ≡ length (c.loop-list.terms.items ++ c.deref.result.now) = c.len.ensures ∙ c.extend_from_slice.new.self.ok.0 ∙ ap length (sym items) in
    let starts : c.loop-list.starts.items ++ length (c.loop-list.terms.items ++ c.deref.result.now) ∷ [] ≡ c.push-in-loop-list.new.self.items =
    ap (λ n. c.loop-list.starts.items ++ n ∷ []) (sym end) ∙ sym c.in_ok-push-2.ensures.items in
    record {
      flat = subst (λ ss. IsFlat (take (i + 1) lists) ss c.extend_from_slice.new.self.items) starts
          (subst (IsFlat (take (i + 1) lists) (c.loop-list.starts.items ++ length (c.loop-list.terms.items ++ c.deref.result.now) ∷ [])) items
          (flat-next lists i within c.loop-list.starts.items c.loop-list.terms.items c.deref.result.now c.loop-list.invariant.flat c.loop-list.invariant.ends own));
      ends = ap (slice_index c.push-in-loop-list.new.self.items) (add-one i)
          ∙ ap (λ ss. slice_index ss (suc i)) (sym starts)
          ∙ start-new lists i within c.loop-list.starts.items c.loop-list.terms.items c.deref.result.now c.loop-list.invariant.flat c.loop-list.invariant.ends own
          ∙ ap length items;
    }
