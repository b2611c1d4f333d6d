use Rattle.std.proofs.Common.{◌≡◌, ℕ, ◌+◌, ◌-◌, ◌*◌, ◌/◌, ◌%◌, ◌^◌, ◌<◌, true, not, ◌==◌, ◌&&◌, refl, slice_index, slice_set, bit_and, sym, ap, ◌∙◌, arith}
use Rattle.std.proofs.lemmas.Bool.{and_parts}
use Rattle.std.proofs.lemmas.List.{get_or-set_same, length-set}
use Rattle.std.proofs.lemmas.Nat.{and_le_r}
use Rattle.std.specs.Box.{boxed_slice_items}
use Rattle.wakes.specs.Turning.{waits_at, waits_in}
use Rattle.wakes.proofs.Places.{place-inside, take-waits}
use Rattle.wakes.proofs.Groups.{empty-word}
use Rattle.wakes.proofs.rows.Rows.take_out.Goals as goal

pub index-requires : goal.index-requires
index-requires c =
    let inside = place-inside c.args.self.now c.requires.rows c.args.moment c.args.item c.place-at.result (omega (arith, c.requires.item)) c.place-at.ensures in
    omega (arith, inside)

pub index_mut-requires : goal.index_mut-requires
index_mut-requires c =
    let inside = place-inside c.args.self.now c.requires.rows c.args.moment c.args.item c.place-at.result (omega (arith, c.requires.item)) c.place-at.ensures in
    omega (arith, inside)

pub rest_word-requires-clause-rows : goal.rest_word-requires-clause-rows
rest_word-requires-clause-rows c =
    let old = c.args.self.now in
    let is = c.requires.rows in
    let words = boxed_slice_items old.words in
    let x = bit_and c.index.result.now (18446744073709551615 - 1 * 2 ^ (c.args.item % 64) % 2 ^ 64) in
    let waits = take-waits old is (slice_set words c.place-at.result x) c.args.moment c.args.item c.place-at.result c.index.result.now c.requires.item c.place-at.ensures c.index.ensures refl in
    let before : (r i : ℕ) → r < 64 → waits_at (slice_set words c.place-at.result x) r i ≡ true → waits_in old r i ≡ true =
    λ r i low on. (and_parts (not (r == c.args.moment % 64 && i == c.args.item)) (waits_in old r i) (sym (waits r i low) ∙ on)).1 in
    record {
      few = is.few;
      grouped = is.grouped;
      room = length-set words c.place-at.result x ∙ is.room;
      within = λ r i low lt on. is.within r i low (omega (arith, lt, length-set words c.place-at.result x)) (before r i low on);
      busy = λ r i low lt on. is.busy r i low lt (before r i low on);
      groups = is.groups;
    }

pub rest_word-requires-clause-word : goal.rest_word-requires-clause-word
rest_word-requires-clause-word c =
    let old = c.args.self.now in
    let words = boxed_slice_items old.words in
    let x = bit_and c.index.result.now (18446744073709551615 - 1 * 2 ^ (c.args.item % 64) % 2 ^ 64) in
    let inside = place-inside old c.requires.rows c.args.moment c.args.item c.place-at.result (omega (arith, c.requires.item)) c.place-at.ensures in
    ap (slice_index (slice_set words c.place-at.result x)) (sym c.place-at.ensures) ∙ get_or-set_same words c.place-at.result x 0 inside

pub returns-clause-waits : goal.returns-clause-waits
returns-clause-waits c = λ r i low lt.
    let old = c.args.self.now in
    ap (λ ws. waits_at (boxed_slice_items ws) r i) c.rest_word.ensures.words
    ∙ take-waits old c.requires.rows (slice_set (boxed_slice_items old.words) c.place-at.result (bit_and c.index.result.now (18446744073709551615 - 1 * 2 ^ (c.args.item % 64) % 2 ^ 64)))
    c.args.moment c.args.item c.place-at.result c.index.result.now c.requires.item c.place-at.ensures c.index.ensures refl r i low

pub returns-clause-rests : goal.returns-clause-rests
returns-clause-rests c = λ six none.
    let old = c.args.self.now in
    let new = c.rest_word.new.self in
    let r = c.args.moment % 64 in
    let item = c.args.item in
    let words = boxed_slice_items old.words in
    let mask = 18446744073709551615 - 1 * 2 ^ (item % 64) % 2 ^ 64 in
    let x = bit_and c.index.result.now mask in
    let inside = place-inside old c.requires.rows c.args.moment item c.place-at.result (omega (arith, c.requires.item)) c.place-at.ensures in
    let here : slice_index (boxed_slice_items new.words) (item / 64 * 64 + r) ≡ x =
    ap (λ ws. slice_index (boxed_slice_items ws) (item / 64 * 64 + r)) c.rest_word.ensures.words ∙ ap (slice_index (slice_set words c.place-at.result x)) (sym c.place-at.ensures)
    ∙ get_or-set_same words c.place-at.result x 0 inside in
    let count = c.rest_word.ensures.count in
    c.rest_word.ensures.rests six
    (empty-word new c.rest_word.ensures.rows r (omega arith) item x (omega (arith, count, c.requires.item)) here (omega (arith, and_le_r c.index.result.now mask))
    (λ i lt same. none i (omega (arith, lt, count)) same))
