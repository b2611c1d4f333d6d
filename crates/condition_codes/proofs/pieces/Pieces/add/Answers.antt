use Rattle.std.proofs.Common.{◌≡◌, ◌-◌, [], ◌∷◌, ◌++◌, length, take, drop, refl, sym, ap, ◌∙◌, arith}
use Rattle.book_model.specs.View.{tree_in, placed_of}
use Rattle.term_eval.specs.Code.{code, owners, IsCode}
use Rattle.term_eval.specs.Links.{links_from}
use Rattle.term_eval.proofs.Codes.{length-code}
use Rattle.condition_codes.specs.Pieces.{links_of, owners_of}
use Rattle.condition_codes.proofs.Appending.{codes-next, ends-same}
use Rattle.condition_codes.proofs.Behind.{longer}
use Rattle.condition_codes.proofs.Flat.{rest-is}
use Rattle.condition_codes.proofs.Owning.{each-next, slots-next}
use Rattle.condition_codes.proofs.pieces.Pieces.add.Goals as goal

pub add_links-requires : goal.add_links-requires
add_links-requires c =
    let term = c.args.term.now in
    let old = c.args.self.now in
    let own = code term.at 0 (tree_in term) in
    let steps : c.add_code.new.steps.items ≡ old.steps.items ++ own = c.in_ok-add_code.ensures.code in
    let first : c.len-first.result ≡ length old.steps.items = c.len-first.ensures ∙ old.steps.ok.0 in
    let rest : take (length c.deref.result.now - c.len-first.result) (drop c.len-first.result c.deref.result.now) ≡ own = rw (c.deref.ensures.value, steps, first) (rest-is old.steps.items own) in
    (tree_in term, term.at, record { is = rest; short = c.in_ok-add_code.ensures.short; small = c.requires.small }, c.requires.few)

pub add_owners-requires : goal.add_owners-requires
add_owners-requires c =
    let term = c.args.term.now in
    let old = c.args.self.now in
    let own = code term.at 0 (tree_in term) in
    let steps : c.add_code.new.steps.items ≡ old.steps.items ++ own = c.in_ok-add_code.ensures.code in
    let first : c.len-first.result ≡ length old.steps.items = c.len-first.ensures ∙ old.steps.ok.0 in
    let rest : take (length c.deref-2.result.now - c.len-first.result) (drop c.len-first.result c.deref-2.result.now) ≡ own = rw (c.deref-2.ensures.value, steps, first) (rest-is old.steps.items own) in
    omega (arith, ap length rest, length-code (tree_in term) term.at 0, c.requires.small)

pub returns : goal.returns
returns c ps has =
    let term = c.args.term.now in
    let old = c.args.self.now in
    let own = code term.at 0 (tree_in term) in
    let steps : c.add_code.new.steps.items ≡ old.steps.items ++ own = c.in_ok-add_code.ensures.code in
    let end : c.len.result ≡ length (old.steps.items ++ own) = c.len.ensures ∙ c.add_code.new.steps.ok.0 ∙ ap length steps in
    let starts : c.push.new.self.items ≡ old.starts.items ++ length (old.steps.items ++ own) ∷ [] = c.in_ok-push.ensures.items ∙ ap (λ n. old.starts.items ++ n ∷ []) end in
    let first : c.len-first.result ≡ length old.steps.items = c.len-first.ensures ∙ old.steps.ok.0 in
    let rest : take (length c.deref.result.now - c.len-first.result) (drop c.len-first.result c.deref.result.now) ≡ own = rw (c.deref.ensures.value, steps, first) (rest-is old.steps.items own) in
    let rest-2 : take (length c.deref-2.result.now - c.len-first.result) (drop c.len-first.result c.deref-2.result.now) ≡ own = rw (c.deref-2.ensures.value, steps, first) (rest-is old.steps.items own) in
    let links : c.add_links.new.links.items ≡ old.links.items ++ links_of (placed_of term) = c.in_ok-add_links.ensures ∙ ap (λ l. old.links.items ++ links_from l) rest in
    let temporal : c.add_owners.new.list.items ≡ old.owners.items ++ owners_of (placed_of term) = c.in_ok-add_owners.ensures ∙ ap (λ l. old.owners.items ++ owners 0 l) rest-2 in
    let end-2 : c.len-2.result ≡ length (old.owners.items ++ owners_of (placed_of term)) = c.len-2.ensures ∙ c.add_owners.new.list.ok.0 ∙ ap length temporal in
    let owner_starts : c.push-2.new.self.items ≡ old.owner_starts.items ++ length (old.owners.items ++ owners_of (placed_of term)) ∷ [] =
    c.in_ok-push-2.ensures.items ∙ ap (λ n. old.owner_starts.items ++ n ∷ []) end-2 in
    let coded : IsCode (tree_in term) term.at own = record { is = refl; short = c.in_ok-add_code.ensures.short; small = c.requires.small } in
    let ends : length (old.links.items ++ links_of (placed_of term)) ≡ length (old.steps.items ++ own) =
    ends-same ps old.starts.items old.steps.items old.links.items has.codes has.links (placed_of term) in
    let linked : c.push.new.self.items ≡ old.starts.items ++ length (old.links.items ++ links_of (placed_of term)) ∷ [] = starts ∙ ap (λ n. old.starts.items ++ n ∷ []) (sym ends) in
    record {
      codes = rw (starts, steps) (codes-next ps old.starts.items old.steps.items own has.codes (placed_of term) coded);
      links = rw (linked, links) (each-next links_of ps old.starts.items old.links.items (links_of (placed_of term)) has.links (placed_of term) refl);
      owners = rw (owner_starts, temporal) (each-next owners_of ps old.owner_starts.items old.owners.items (owners_of (placed_of term)) has.owners (placed_of term) refl);
      count = ap length c.in_ok-push-3.ensures.items ∙ longer old.slot_starts.items term.at ∙ omega (arith, has.count, longer ps (placed_of term));
      slots = rw c.in_ok-push-3.ensures.items (slots-next ps old.slot_starts.items (placed_of term) has.count has.slots);
    }
