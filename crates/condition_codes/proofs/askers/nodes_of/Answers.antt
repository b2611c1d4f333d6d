use Rattle.std.proofs.Common.{◌≡◌, ℕ, suc, ◌+◌, ◌-◌, ◌<◌, [], ◌∷◌, ◌++◌, length, slice_index, slice_index_or, sym, ap, subst, ◌∙◌, arith, add-one}
use Rattle.std.proofs.lemmas.List.{get_or_default}
use Rattle.term_eval.specs.Climb.{step_at, link_at}
use Rattle.term_eval.specs.Reading.{test_of}
use Rattle.term_eval.specs.declared.link.Gate.TheVariants.{AtLeast}
use Rattle.term_eval.specs.declared.link.Link.{Link}
use Rattle.term_eval.specs.declared.reading.Test.{Test}
use Rattle.condition_codes.specs.IsCodes.{node_starts}
use Rattle.condition_codes.specs.declared.askers.Asker.{Asker}
use Rattle.condition_codes.specs.declared.starts.Starts.{Starts}
use Rattle.condition_codes.proofs.Behind.{longer}
use Rattle.condition_codes.proofs.Numbering.{AreNumbered, node_of, starts-grow, numbered-next, numbered-all}
use Rattle.condition_codes.proofs.Starting.{node-of, many-nodes}
use Rattle.condition_codes.proofs.askers.nodes_of.Goals as goal

-- what stands behind the last record
abbrev no_starts : Starts
no_starts = record { node = 0; slot = 0; owner = 0 }

-- and what does where a link is read
abbrev first_link : Link
first_link = record { number = 0; up = 0; gate = AtLeast }

pub overflow_sub-size : goal.overflow_sub-size
overflow_sub-size c =
    let starts = c.args.starts.now in
    let term = c.loop-term.term in
    omega (
      arith,
      node-of starts term,
      node-of starts (term + 1),
      ap (slice_index (node_starts starts)) (add-one term),
      c.requires.ordered term (omega (arith, c.loop-term-test.true, c.requires.some)),
    )

pub loop-node-init : goal.loop-node-init
loop-node-init c =
    let starts = c.args.starts.now in
    let nodes = node_starts starts in
    let term = c.loop-term.term in
    let inside : suc term < length starts = omega (arith, c.loop-term-test.true, c.requires.some) in
    let next : slice_index nodes (term + 1) ≡ slice_index nodes (suc term) = ap (slice_index nodes) (add-one term) in
    let from = node-of starts term in
    let to = node-of starts (term + 1) in
    let ordered = c.requires.ordered term inside in
    record {
      many = omega (arith, c.loop-term.invariant.many);
      numbered = c.loop-term.invariant.numbered;
      from = from;
      end = omega (arith, from, to, next, ordered);
      few = omega (arith, from, to, next, ordered, c.loop-term-test.element_fits2.fits);
      small = omega (arith, from, to, next, c.requires.small term inside);
      inside = omega (
        arith,
        from,
        to,
        next,
        ordered,
        c.requires.steps,
        many-nodes starts,
        starts-grow nodes (λ j less. c.requires.ordered j (omega (arith, less, many-nodes starts))) (suc term) (length starts - 1) (omega arith) (omega (arith, many-nodes starts)),
      );
    }

pub loop-node-preserved : goal.loop-node-preserved
loop-node-preserved c =
    let starts = c.args.starts.now in
    let ns = node_starts starts in
    let steps = c.args.steps.now in
    let links = c.args.links.now in
    let nodes = c.loop-node.nodes.items in
    let term = c.loop-term.term in
    let node = c.loop-node.node in
    let inv = c.loop-node.invariant in
    let next : slice_index ns (term + 1) ≡ slice_index ns (suc term) = ap (slice_index ns) (add-one term) in
    let own = node_of steps links ns term node in
    let from = slice_index_or starts term no_starts in
    let to = slice_index_or starts (term + 1) no_starts in
    let place : from.node + node < length links = omega (arith, inv.inside, c.loop-node-test.true, c.requires.links) in
    let linked : slice_index_or links (from.node + node) first_link ≡ link_at links (from.node + node) = get_or_default links (from.node + node) first_link _ place in
    let made : ℕ → ℕ → Link → Test → Asker = λ f s l t. record { term = term; first = f; link = l; node = node; size = s; test = t } in
    let same : made from.node (to.node - from.node) (slice_index_or links (from.node + node) first_link) c.test_of.result ≡ own =
    ap (made from.node (to.node - from.node) (slice_index_or links (from.node + node) first_link)) c.test_of.ensures
    ∙ ap (λ l. made from.node (to.node - from.node) l (test_of (step_at steps (from.node + node)).node)) linked
    ∙ ap (λ f. made f (to.node - f) (link_at links (f + node)) (test_of (step_at steps (f + node)).node)) (node-of starts term)
    ∙ ap (λ e. made (slice_index ns term) (e - slice_index ns term) (link_at links (slice_index ns term + node)) (test_of (step_at steps (slice_index ns term + node)).node))
    (node-of starts (term + 1) ∙ next) in
    let items : c.push.new.self.items ≡ nodes ++ own ∷ [] = c.in_ok-push.ensures.items ∙ ap (λ x. nodes ++ x ∷ []) same in
    record {
      many = ap length items ∙ longer nodes own ∙ omega (arith, inv.many);
      numbered = subst (AreNumbered ns steps links) (sym items)
          (numbered-next ns (λ j less. c.requires.ordered j (omega (arith, less, many-nodes starts))) steps links nodes term node inv.numbered inv.many
          (omega (arith, c.loop-term-test.true, many-nodes starts)) (omega (arith, c.loop-node-test.true, next, inv.end, inv.from)));
      from = inv.from;
      end = inv.end;
      few = inv.few;
      small = inv.small;
      inside = inv.inside;
    }

pub returns-clause-nodes : goal.returns-clause-nodes
returns-clause-nodes c =
    let starts = c.args.starts.now in
    numbered-all (node_starts starts) (λ j less. c.requires.ordered j (omega (arith, less, many-nodes starts))) c.args.steps.now c.args.links.now c.loop-term.nodes.items c.loop-term.term
    (omega (arith, c.requires.some, c.loop-term-test.false, many-nodes starts)) c.loop-term.invariant.many c.loop-term.invariant.numbered
