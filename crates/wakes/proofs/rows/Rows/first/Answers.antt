use Rattle.std.proofs.Common.{◌≡◌, ◌+◌, ◌%◌, slice_index, refl, sym, ap, ◌∙◌, arith}
use Rattle.std.proofs.lemmas.List.{get_or_default}
use Rattle.std.specs.Box.{boxed_slice_items}
use Rattle.std.specs.Int.{bit_at}
use Rattle.wakes.proofs.Places.{fits, place-inside, place-within}
use Rattle.wakes.proofs.Groups.{found-waits}
use Rattle.wakes.proofs.rows.Rows.first.Goals as goal

pub index-word-requires : goal.index-word-requires
index-word-requires c =
    let inside = place-inside c.args.self.now c.requires c.args.moment 0 c.place.result (omega arith) c.place.ensures in
    omega (arith, inside)

pub returns-then-word-ne0-clause-end : goal.returns-then-word-ne0-clause-end
returns-then-word-ne0-clause-end c =
    let rows = c.args.self.now in
    let is = c.requires in
    let r = c.args.moment % 64 in
    let bit = c.lowest.result in
    let inside = place-inside rows is c.args.moment 0 c.place.result (omega arith) c.place.ensures in
    let word : slice_index (boxed_slice_items rows.words) (0 + r) ≡ c.index-word.result.now =
    ap (slice_index (boxed_slice_items rows.words)) (sym c.place.ensures) ∙ get_or_default (boxed_slice_items rows.words) c.place.result 0 c.index-word.result.now inside ∙ sym c.index-word.ensures in
    let on = found-waits rows is r (omega arith) 0 bit refl c.lowest.ensures.within (ap (λ w. bit_at w bit) word ∙ c.lowest.ensures.set) in
    let room = place-within rows is 63 0 (omega arith) (omega (arith, fits rows is)) in
    omega (arith, is.within r (0 + bit) (omega arith) (omega (arith, room, c.lowest.ensures.within)) on)
