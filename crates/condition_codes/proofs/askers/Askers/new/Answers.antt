use Rattle.std.proofs.Common.{◌≡◌, ◌-◌, All, map, length, slice_index, sym, ap, subst, ◌∙◌, arith}
use Rattle.std.proofs.lemmas.List.{length-map}
use Rattle.ecam_spec.specs.TermSize.{Placed}
use Rattle.ecam_spec.specs.TermNames.{IsWithin}
use Rattle.book_model.specs.Sealed.{the_book}
use Rattle.book_model.specs.Conditions.{places}
use Rattle.term_eval.specs.Asked.{node_asks}
use Rattle.term_eval.specs.declared.code.Step.{Step}
use Rattle.watch_lists.specs.declared.number.Sizes.{Sizes}
use Rattle.watch_lists.specs.Naming.{sizes_of, operand_count}
use Rattle.watch_lists.proofs.Naming.{few-operands}
use Rattle.watch_lists.proofs.Lines.{sizes-are}
use Rattle.condition_codes.specs.Chains.{AsksWithin, wanted, AreChains, AreAskers, AreNodes}
use Rattle.condition_codes.specs.IsCodes.{node_starts}
use Rattle.condition_codes.specs.IsAskers.{IsAskers, sizes_in}
use Rattle.condition_codes.specs.declared.askers.AskerTable.{AskerTable}
use Rattle.condition_codes.proofs.Limits.{all-sound, few-places}
use Rattle.condition_codes.proofs.Asked.{steps-within}
use Rattle.condition_codes.proofs.Linking.{few-nodes, many-starts, many-links}
use Rattle.condition_codes.proofs.Asking.{sizes-read, askers-of}
use Rattle.condition_codes.proofs.askers.Askers.new.Goals as goal

pub chains_of-requires-clause-few : goal.chains_of-requires-clause-few
chains_of-requires-clause-few c =
    few-operands c.args.book.now c.sealed.ensures _ (sizes-are c.args.book.now _ _ (ap length c.params.ensures.value) (ap length c.alerts.ensures.value))

pub chains_of-requires-clause-own : goal.chains_of-requires-clause-own
chains_of-requires-clause-own c =
    let d = c.args.book.now in
    let n : Sizes = record { params = length c.params.result.now; alerts = length c.alerts.result.now } in
    let same : n ≡ sizes_of d = sizes-are d _ _ (ap length c.params.ensures.value) (ap length c.alerts.ensures.value) in
    let ps = places (the_book d) in
    let names : All (λ (p : Placed). IsWithin n.params n.alerts p.tree) ps =
    subst (λ (m : Sizes). All (λ (p : Placed). IsWithin m.params m.alerts p.tree) ps) (sym same) (λ i p lt. (all-sound d c.sealed.ensures i p lt).within) in
    subst (All (λ (s : Step). AsksWithin n (node_asks s.node))) (sym (c.steps.ensures ∙ c.requires.codes.whole))
    (steps-within n c.code_asks_for_what_the_condition_asks_for.ensures ps names)

pub nodes_of-requires-clause-first : goal.nodes_of-requires-clause-first
nodes_of-requires-clause-first c = rw c.starts.ensures c.requires.codes.pieces.first

pub nodes_of-requires-clause-some : goal.nodes_of-requires-clause-some
nodes_of-requires-clause-some c = omega (arith, ap length c.starts.ensures, many-starts (the_book c.args.book.now) c.args.codes.now c.requires)

pub nodes_of-requires-clause-ordered : goal.nodes_of-requires-clause-ordered
nodes_of-requires-clause-ordered c =
    rw c.starts.ensures (λ j less. c.requires.codes.pieces.ordered j (omega (arith, less, many-starts (the_book c.args.book.now) c.args.codes.now c.requires)))

pub nodes_of-requires-clause-small : goal.nodes_of-requires-clause-small
nodes_of-requires-clause-small c =
    let codes = c.args.codes.now in
    rw c.starts.ensures (λ j less.
    few-nodes (places (the_book c.args.book.now)) (node_starts codes.starts.items.items) codes.steps.items.items c.requires.codes j
    (omega (arith, less, many-starts (the_book c.args.book.now) codes c.requires, c.requires.codes.pieces.count)))

pub nodes_of-requires-clause-few : goal.nodes_of-requires-clause-few
nodes_of-requires-clause-few c =
    omega (arith, ap length c.starts.ensures, many-starts (the_book c.args.book.now) c.args.codes.now c.requires, few-places c.args.book.now c.sealed.ensures)

pub nodes_of-requires-clause-steps : goal.nodes_of-requires-clause-steps
nodes_of-requires-clause-steps c =
    let b = the_book c.args.book.now in
    let codes = c.args.codes.now in
    let last : length codes.starts.items.items - 1 ≡ length (places b) = omega (arith, many-starts b codes c.requires) in
    rw (c.starts.ensures, c.steps-2.ensures) (ap (slice_index (node_starts codes.starts.items.items)) last ∙ c.requires.codes.pieces.ends)

pub nodes_of-requires-clause-links : goal.nodes_of-requires-clause-links
nodes_of-requires-clause-links c = rw (c.links.ensures, c.steps-2.ensures) (many-links (the_book c.args.book.now) c.args.codes.now c.requires)

pub returns : goal.returns
returns c =
    let d = c.args.book.now in
    let b = the_book d in
    let n : Sizes = record { params = length c.params.result.now; alerts = length c.alerts.result.now } in
    let same : n ≡ sizes_in b = sizes-read d _ _ (ap length c.params.ensures.value) (ap length c.alerts.ensures.value) in
    let starts = c.in_ok-starts.starts.items.items in
    let askers = c.in_ok-starts.askers.items.items in
    let steps = c.args.codes.now.steps.items.items in
    let ws = map (wanted n) steps in
    let read : map (wanted n) c.steps.result.now ≡ ws = ap (map (wanted n)) c.steps.ensures in
    let firsts = c.in_ok-firsts.firsts.items in
    let nexts = c.in_ok-firsts.nexts.items in
    let nodes = c.in_ok-nodes.nodes.items in
    let long : length ws ≡ length c.deref-2.result.now =
    ap length (sym read) ∙ length-map c.steps.result.now (wanted n) ∙ sym c.in_ok-firsts.ensures.nodes ∙ ap length (sym c.deref-2.ensures.value) in
    let chains : AreChains ws 0 c.deref.result.now c.deref-2.result.now =
    rw (c.deref.ensures.value, c.deref-2.ensures.value) (subst (λ l. AreChains l 0 firsts nexts) read c.in_ok-firsts.ensures.chains) in
    let all : AreAskers ws c.deref-3.result.now (length c.deref.result.now) starts askers = c.in_ok-starts.ensures ws long chains in
    let own : AreAskers ws nodes (length c.deref.result.now) starts askers = subst (λ l. AreAskers ws l (length c.deref.result.now) starts askers) c.deref-3.ensures.value all in
    let counted : AreAskers ws nodes (operand_count n) starts askers = subst (λ m. AreAskers ws nodes m starts askers) (ap length c.deref.ensures.value ∙ c.in_ok-firsts.ensures.operands) own in
    let numbered : AreNodes (node_starts c.args.codes.now.starts.items.items) steps c.args.codes.now.links.items.items nodes =
    rw (c.starts.ensures, c.steps-2.ensures, c.links.ensures) at c.in_ok-nodes.ensures.nodes in
    let table : AskerTable = record { starts = c.in_ok-starts.starts; askers = c.in_ok-starts.askers } in
    subst (IsAskers b) (sym c.in_ok-new.ensures.ok)
    (askers-of b c.args.codes.now c.requires c.code_asks_for_what_the_condition_asks_for.ensures nodes numbered table
    (subst (λ (m : Sizes). AreAskers (map (wanted m) steps) nodes (operand_count m) starts askers) same counted))
