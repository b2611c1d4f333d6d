use Rattle.std.proofs.Common.{◌≡◌, ◌+◌, ◌*◌, ◌/◌, ◌%◌, slice_index, inl, inr, sym, ap, ◌∙◌, arith}
use Rattle.std.proofs.lemmas.Bool.{cases_lt}
use Rattle.std.proofs.lemmas.List.{get_or_default}
use Rattle.std.specs.Box.{boxed_slice_items}
use Rattle.wakes.proofs.Places.{place-inside}
use Rattle.wakes.proofs.Groups.{rest-none, rest-end, rest-first}
use Rattle.wakes.proofs.rows.Rows.next.Goals as goal

pub index-requires : goal.index-requires
index-requires c =
    let inside = place-inside c.args.self.now c.requires.rows c.args.moment c.args.from c.place.result c.requires.from c.place.ensures in
    omega (arith, inside)

pub returns-then-rest-ne0-clause-end : goal.returns-then-rest-ne0-clause-end
returns-then-rest-ne0-clause-end c =
    let rows = c.args.self.now in
    let words = boxed_slice_items rows.words in
    let inside = place-inside rows c.requires.rows c.args.moment c.args.from c.place.result c.requires.from c.place.ensures in
    let here : slice_index words (c.args.from / 64 * 64 + c.args.moment % 64) ≡ c.index.result.now =
    ap (slice_index words) (sym c.place.ensures) ∙ get_or_default words c.place.result 0 c.index.result.now inside ∙ sym c.index.ensures in
    let end = rest-end rows c.requires.rows (c.args.moment % 64) (omega arith) c.args.from c.index.result.now c.bits_from-rest.result c.requires.from here c.bits_from-rest.ensures.bits
    c.lowest.result c.bits_from-rest.ensures.fits c.lowest.ensures.set c.lowest.ensures.lowest in
    omega (arith, end)

pub returns-then-rest-ne0-clause-none : goal.returns-then-rest-ne0-clause-none
returns-then-rest-ne0-clause-none c =
    let rows = c.args.self.now in
    let words = boxed_slice_items rows.words in
    let inside = place-inside rows c.requires.rows c.args.moment c.args.from c.place.result c.requires.from c.place.ensures in
    let here : slice_index words (c.args.from / 64 * 64 + c.args.moment % 64) ≡ c.index.result.now =
    ap (slice_index words) (sym c.place.ensures) ∙ get_or_default words c.place.result 0 c.index.result.now inside ∙ sym c.index.ensures in
    rest-first rows c.requires.rows (c.args.moment % 64) (omega arith) c.args.from c.index.result.now c.bits_from-rest.result c.requires.from here c.bits_from-rest.ensures.bits
    c.lowest.result c.bits_from-rest.ensures.fits c.lowest.ensures.set c.lowest.ensures.lowest

pub returns-clause-none : goal.returns-clause-none
returns-clause-none c = λ i le lt.
    let rows = c.args.self.now in
    let words = boxed_slice_items rows.words in
    let inside = place-inside rows c.requires.rows c.args.moment c.args.from c.place.result c.requires.from c.place.ensures in
    let here : slice_index words (c.args.from / 64 * 64 + c.args.moment % 64) ≡ c.index.result.now =
    ap (slice_index words) (sym c.place.ensures) ∙ get_or_default words c.place.result 0 c.index.result.now inside ∙ sym c.index.ensures in
    elim (cases_lt i (c.args.from / 64 * 64 + 64)) [
      | inl near ↦
          rest-none rows c.requires.rows (c.args.moment % 64) (omega arith) c.args.from c.index.result.now c.bits_from-rest.result c.requires.from here c.bits_from-rest.ensures.bits
          c.if-rest-ne0.false i le near
      | inr far ↦ c.next_later.ensures.none i far lt
    ]
