use Rattle.std.proofs.Common.{◌≡◌, true, length, get_or, ap, subst, ◌∙◌, arith}
use Rattle.std.proofs.lemmas.Option.{slice_get-get_or}
use Rattle.ecam_spec.specs.Book.{constant}
use Rattle.ecam_spec.specs.TermSize.{Placed}
use Rattle.book_model.specs.Conditions.{places}
use Rattle.book_model.proofs.ConditionRanges.{range}
use Rattle.term_eval.specs.Linked.{AreOwned}
use Rattle.condition_codes.specs.Pieces.{owners_of}
use Rattle.fwc_lane.proofs.Owning.{many-owners, owns-next}
use Rattle.fwc_lane.proofs.terms.own_slots.Goals as goal

-- what stands behind the last
abbrev none : Placed
none = record { tree = constant true; at = 0 }

pub parts-parts-requires : goal.parts-parts-requires
parts-parts-requires c =
    let (b, coded, many, room) = c.requires.codes in
    (b, coded, omega (arith, many, c.loop-number-test.true))

pub own-requires : goal.own-requires
own-requires c =
    let (b, coded, many, room) = c.requires.codes in
    let p = get_or (places b) c.loop-number.number none in
    let there = slice_get-get_or (places b) c.loop-number.number none (omega (arith, many, c.loop-number-test.true)) in
    let are = c.parts-parts.ensures in
    omega (
      arith,
      are.slot b coded p there,
      ap length (are.owners b coded p there),
      many-owners p.tree p.at,
      range b c.loop-number.number p there,
      ap length c.loop-number.invariant.slots,
      room,
    )

pub loop-number-preserved : goal.loop-number-preserved
loop-number-preserved c = record {
  owners = λ b coded many.
      let n = c.loop-number.number in
      let p = get_or (places b) n none in
      let there = slice_get-get_or (places b) n none (omega (arith, many, c.loop-number-test.true)) in
      let are = c.parts-parts.ensures in
      let slot : c.parts-parts.result.slot ≡ p.at = are.slot b coded p there in
      owns-next b n p c.loop-number.cells.owners c.own.new.self.owners there
      (subst (λ at. AreOwned c.own.new.self.owners at (owners_of p)) slot (subst (AreOwned c.own.new.self.owners c.parts-parts.result.slot) (are.owners b coded p there) c.own.ensures.owned))
      (λ s lt. c.own.ensures.before s (omega (arith, lt, slot)))
      (c.loop-number.invariant.owners b coded many);
  many = c.own.ensures.len ∙ c.loop-number.invariant.many;
  slots = c.own.ensures.slots ∙ c.loop-number.invariant.slots;
  nodes = c.own.ensures.nodes ∙ c.loop-number.invariant.nodes;
  visits = c.own.ensures.visits ∙ c.loop-number.invariant.visits;
}
