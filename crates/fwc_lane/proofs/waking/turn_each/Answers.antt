use Rattle.std.proofs.Common.{◌≡◌, ◌+◌, ◌-◌, ◌*◌, ◌^◌, min, ◌&&◌, ◌||◌, false, ◌==◌, ℕ, take, get_or, subst, sym, ap, ◌∙◌, arith}
use Rattle.std.proofs.lemmas.Bool.Decides.{nat_tests}
use Rattle.std.proofs.lemmas.List.{take_all}
use Rattle.std.proofs.lemmas.List.Folds.{list_any_more}
use Rattle.std.proofs.lemmas.Option.{slice_get-get_or, slice_get_within}
use Rattle.ecam_spec.specs.TermSize.{nodes, slots}
use Rattle.book_model.specs.Conditions.{places}
use Rattle.term_eval.specs.NodeState.{state_at, NodesWait, Within, also}
use Rattle.term_eval.specs.declared.link.Gate.TheVariants.{AtLeast}
use Rattle.term_eval.specs.declared.reading.Test.TheVariants.{IsSet}
use Rattle.wakes.specs.Marks.{is_marked, room}
use Rattle.condition_codes.specs.declared.askers.Asker.{Asker}
use Rattle.fwc_lane.specs.Waking.{TurnsEach}
use Rattle.fwc_lane.proofs.Turning.{turns-none, turns-more, AddsEach, adds-asker, adds-few, marks-all, listed-asks, are-linked, asks-within, marks-then, marks-else, woken-more}
use Rattle.fwc_lane.proofs.waking.turn_each.Goals.{then-turn, else-turn}
use Rattle.fwc_lane.proofs.waking.turn_each.Goals as goal

-- what stands behind the last
abbrev none : Asker
none = record { term = 0; first = 0; link = record { number = 0; up = 0; gate = AtLeast }; node = 0; size = 0; test = IsSet }

pub overflow_add-fresh : goal.overflow_add-fresh
overflow_add-fresh c =
    let (b, can) = c.requires.can in
    let asking = c.args.asking.now in
    let i = c.loop-asker.asker-index in
    let steps = c.args.codes.now.steps.items in
    let (o, own) = can.asks i (get_or asking i none) (slice_get-get_or asking i none c.loop-asker-test.true) in
    let adds = adds-asker b asking i o none c.args.woken.now c.loop-asker.woken c.put.new.self c.loop-asker.fresh c.from-in-loop-asker.result c.from-in-loop-asker-2.result c.put.result c.loop-asker-test.true own
    c.from-in-loop-asker.ensures c.from-in-loop-asker-2.ensures c.put.ensures.new c.put.ensures.room c.put.ensures.marks (c.loop-asker.invariant.adds b can) in
    let few = adds-few b c.args.codes.now (take (i + 1) asking) c.args.woken.now c.put.new.self (c.loop-asker.fresh + c.from-in-loop-asker.result * c.from-in-loop-asker-2.result) can.are adds in
    omega (arith, few, steps.ok, steps.small)

pub says-holds-requires-clause-asks : goal.says-holds-requires-clause-asks
says-holds-requires-clause-asks c =
    let (b, can) = c.requires.can in
    let (o, own) = can.asks c.loop-asker.asker-index _ (slice_get-get_or c.args.asking.now c.loop-asker.asker-index none c.loop-asker-test.true) in
    (b, o, can.are, own)

pub links_by-links-requires : goal.links_by-links-requires
links_by-links-requires c =
    let (b, can) = c.requires.can in
    let (o, own) = can.asks c.loop-asker.asker-index _ (slice_get-get_or c.args.asking.now c.loop-asker.asker-index none c.loop-asker-test.true) in
    (b, o, can.are, own)

pub turn-requires : goal.turn-requires
turn-requires c =
    let (b, can) = c.requires.can in
    let a = get_or c.args.asking.now c.loop-asker.asker-index none in
    let (o, own) = can.asks c.loop-asker.asker-index a (slice_get-get_or c.args.asking.now c.loop-asker.asker-index none c.loop-asker-test.true) in
    let before = c.loop-asker.invariant.turns b can in (
      own.place.tree,
      own.place.at,
      are-linked b c.args.asking.now c.args.codes.now c.args.cells.now.nodes c.loop-asker.cells.nodes c.args.woken.now c.args.stirred.now can before.states before.wakes a.term own.place
          c.links_by-links.result.now a.first own.there (c.links_by-links.ensures b o can.are own own.place own.there) own.first,
      omega (arith, c.from.ensures, asks-within own.place.tree a.node own.operand own.asks),
      rw c.from.ensures own.link,
    )

pub mark-requires : goal.mark-requires
mark-requires c =
    let (b, can) = c.requires.can in
    let a = get_or c.args.asking.now c.loop-asker.asker-index none in
    let (o, own) = can.asks c.loop-asker.asker-index a (slice_get-get_or c.args.asking.now c.loop-asker.asker-index none c.loop-asker-test.true) in
    omega (arith, can.enough, (c.loop-asker.invariant.turns b can).same, slice_get_within (places b) a.term own.place own.there)

pub put-requires : goal.put-requires
put-requires c =
    let (b, can) = c.requires.can in
    let a = get_or c.args.asking.now c.loop-asker.asker-index none in
    let (o, own) = can.asks c.loop-asker.asker-index a (slice_get-get_or c.args.asking.now c.loop-asker.asker-index none c.loop-asker-test.true) in
    omega (arith, can.also, (c.loop-asker.invariant.adds b can).same, slice_get_within (places b) a.term own.place own.there)

pub loop-asker-preserved : goal.loop-asker-preserved
loop-asker-preserved c = record {
  turns = λ b can.
      let asking = c.args.asking.now in
      let i = c.loop-asker.asker-index in
      let a = get_or asking i none in
      let lt = c.loop-asker-test.true in
      let (o, own) = can.asks i a (slice_get-get_or asking i none lt) in
      let q = own.place in
      let before = c.loop-asker.invariant.turns b can in
      let mid = c.loop-asker.cells.nodes in
      let new = c.turn.new.self.nodes in
      let linked = are-linked b asking c.args.codes.now c.args.cells.now.nodes mid c.args.woken.now c.args.stirred.now can before.states before.wakes a.term q c.links_by-links.result.now a.first own.there
      (c.links_by-links.ensures b o can.are own q own.there) own.first in
      let turned = rw c.from.ensures at c.turn.ensures.waits in
      let rooms : room c.if-turn.stirred ≡ room c.loop-asker.stirred = elim c.if-turn.branch [
        | then-turn w ↦ ap room w.stirred-is ∙ w.mark.ensures.room
        | else-turn w ↦ ap room w.stirred-is
      ] in
      let marked : (j : ℕ) → is_marked c.if-turn.stirred j ≡ (is_marked c.loop-asker.stirred j || (c.turn.result && a.term == j)) = λ j. elim c.if-turn.branch [
        | then-turn w ↦ marks-then c.turn.result (is_marked c.if-turn.stirred j) (is_marked c.loop-asker.stirred j) j a.term w.if-turn.true (ap (λ m. is_marked m j) w.stirred-is ∙ w.mark.ensures.marks j)
        | else-turn w ↦ ap (λ m. is_marked m j) w.stirred-is ∙ marks-else c.turn.result (is_marked c.loop-asker.stirred j) j a.term w.if-turn.false
      ] in
      turns-more b c.args.reading (take i asking) (take (i + 1) asking) a c.args.cells.now.nodes mid new c.args.stirred.now c.loop-asker.stirred c.if-turn.stirred c.turn.result
      (λ j n. list_any_more (λ (x : Asker). x.term == j && x.node == n) asking i none lt)
      (listed-asks b i asking can.asks)
      q own.operand own.there own.asks
      (λ w h asked y atoms asks reads waits.
      subst (λ n. NodesWait w h (also a.node asked) q.tree q.at n new) own.first
      (turned q.tree q.at linked w h asked y c.args.reading atoms asks reads (c.says-holds.ensures b o can.are own q own.there)
      (subst (λ n. NodesWait w h asked q.tree q.at n mid) (sym own.first) waits)))
      (subst (λ n. Within n (n + nodes q.tree) q.at (q.at + slots q.tree) mid new) own.first (c.turn.ensures.within q.tree q.at linked))
      c.turn.ensures.wakes
      (subst (λ n. c.turn.result ≡ false → (state_at new.states n).told ≡ (state_at mid.states n).told) own.first c.turn.ensures.told)
      rooms marked before;
  slots = c.turn.ensures.slots ∙ c.loop-asker.invariant.slots;
  owners = c.turn.ensures.owners ∙ c.loop-asker.invariant.owners;
  visits = c.turn.ensures.visits ∙ c.loop-asker.invariant.visits;
  adds = λ b can.
      let asking = c.args.asking.now in
      let i = c.loop-asker.asker-index in
      let (o, own) = can.asks i (get_or asking i none) (slice_get-get_or asking i none c.loop-asker-test.true) in
      adds-asker b asking i o none c.args.woken.now c.loop-asker.woken c.put.new.self c.loop-asker.fresh c.from-in-loop-asker.result c.from-in-loop-asker-2.result c.put.result c.loop-asker-test.true own
      c.from-in-loop-asker.ensures c.from-in-loop-asker-2.ensures c.put.ensures.new c.put.ensures.room c.put.ensures.marks (c.loop-asker.invariant.adds b can);
  stirs = λ woken.
      let a = get_or c.args.asking.now c.loop-asker.asker-index none in
      let marked : (j : ℕ) → is_marked c.if-turn.stirred j ≡ (is_marked c.loop-asker.stirred j || (c.turn.result && a.term == j)) = λ j. elim c.if-turn.branch [
        | then-turn w ↦ marks-then c.turn.result (is_marked c.if-turn.stirred j) (is_marked c.loop-asker.stirred j) j a.term w.if-turn.true (ap (λ m. is_marked m j) w.stirred-is ∙ w.mark.ensures.marks j)
        | else-turn w ↦ ap (λ m. is_marked m j) w.stirred-is ∙ marks-else c.turn.result (is_marked c.loop-asker.stirred j) j a.term w.if-turn.false
      ] in
      woken-more a.term c.turn.result c.loop-asker.woken c.put.new.self c.loop-asker.stirred c.if-turn.stirred c.put.ensures.marks marked (c.loop-asker.invariant.stirs woken);
}

pub returns-then-is_empty-clause-turns : goal.returns-then-is_empty-clause-turns
returns-then-is_empty-clause-turns c b can =
    subst (λ l. TurnsEach b l c.args.reading c.args.cells.now.nodes c.args.stirred.now c.args.cells.now.nodes c.args.stirred.now)
    (take_all 0 c.args.asking.now (grind (arith, nat_tests))) (turns-none b c.args.reading c.args.cells.now.nodes c.args.stirred.now)

pub returns-clause-turns : goal.returns-clause-turns
returns-clause-turns c b can =
    let asking = c.args.asking.now in
    subst (λ n. TurnsEach b asking c.args.reading c.args.cells.now.nodes c.args.stirred.now n c.loop-asker.stirred) (sym c.count.ensures.nodes)
    (subst (λ l. TurnsEach b l c.args.reading c.args.cells.now.nodes c.args.stirred.now c.loop-asker.cells.nodes c.loop-asker.stirred)
    (take_all c.loop-asker.asker-index asking (omega (arith, c.loop-asker-test.false))) (c.loop-asker.invariant.turns b can))

pub returns-clause-marks : goal.returns-clause-marks
returns-clause-marks c b can =
    let asking = c.args.asking.now in
    marks-all b asking c.args.woken.now c.loop-asker.woken c.loop-asker.fresh c.args.cells.now c.count.new.self
    (subst (λ l. AddsEach b l c.args.woken.now c.loop-asker.woken c.loop-asker.fresh) (take_all c.loop-asker.asker-index asking (omega (arith, c.loop-asker-test.false))) (c.loop-asker.invariant.adds b can))
    (c.count.ensures.slots ∙ c.loop-asker.invariant.slots) (c.count.ensures.owners ∙ c.loop-asker.invariant.owners)
    (c.count.ensures.visits ∙ ap (λ n. min (n + c.loop-asker.fresh) (2 ^ 64 - 1)) c.loop-asker.invariant.visits)
