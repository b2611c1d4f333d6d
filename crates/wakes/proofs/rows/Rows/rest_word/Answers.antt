use Rattle.std.proofs.Common.{◌≡◌, ◌+◌, ◌-◌, ◌*◌, ◌/◌, ◌^◌, ◌<◌, ◌==◌, true, length, slice_index, slice_set, bit_and, refl, sym, ap, ◌∙◌, arith}
use Rattle.std.proofs.lemmas.Bool.{and_parts, and_from, eq-eqb, eqb-true, false_from_ne_true, true≢false}
use Rattle.std.proofs.lemmas.List.{get_or_default}
use Rattle.std.proofs.lemmas.Nat.Bits.{bit_at_ones}
use Rattle.std.specs.Box.{boxed_slice_items}
use Rattle.std.specs.Int.{bit_at}
use Rattle.wakes.proofs.Places.{few-groups, in-group, rest-busy, was-busy, still-busy, other-busy}
use Rattle.wakes.proofs.Groups.{none-empty}
use Rattle.wakes.proofs.rows.Rows.rest_word.Goals.{then-is_last, else-is_last}
use Rattle.wakes.proofs.rows.Rows.rest_word.Goals as goal

pub returns-clause-rows : goal.returns-clause-rows
returns-clause-rows c =
    let old = c.args.self.now in
    let is = c.requires.rows in
    let row = c.args.row in
    let item = c.args.item in
    let group = item / 2 ^ old.shift in
    let b = slice_index old.busy row in
    let within : row < length old.busy = omega (arith, c.requires.row) in
    let here = get_or_default old.busy row 0 b within in
    let mask = 18446744073709551615 - c.if-is_last.group in
    let busy' = slice_set old.busy row (bit_and b mask) in
    let few : group < 64 = omega (arith, in-group old is item (omega (arith, c.requires.item)), few-groups old is) in
    record {
      few = is.few;
      grouped = is.grouped;
      room = is.room;
      within = is.within;
      busy = elim c.if-is_last.branch [
        | then-is_last w ↦
            let last = and_parts (c.args.word == 0) (old.shift == 6) w.if-is_last.true in
            let six : old.shift ≡ 6 = eqb-true old.shift 6 last.1 in
            let empty : slice_index (boxed_slice_items old.words) (item / 64 * 64 + row) ≡ 0 = c.requires.word ∙ eqb-true c.args.word 0 last.0 in
            rest-busy old is busy' row group b within few here (ap (λ k. slice_set old.busy row (bit_and b (18446744073709551615 - k))) w.group-is)
            (λ i lt same.
            let word : i / 64 ≡ item / 64 = ap (λ k. i / 2 ^ k) (sym six) ∙ same ∙ ap (λ k. item / 2 ^ k) six in
            none-empty old is row c.requires.row i (ap (λ n. slice_index (boxed_slice_items old.words) (n * 64 + row)) word ∙ empty))
        | else-is_last w ↦ still-busy old is busy' row b mask within here refl (λ g lt. ap (λ k. bit_at (18446744073709551615 - k) g) w.group-is ∙ bit_at_ones 64 g lt)
      ];
      groups = λ r g low on. is.groups r g low (was-busy old is busy' row b mask within here refl r g on);
    }

pub returns-clause-rests : goal.returns-clause-rests
returns-clause-rests c = λ six zero.
    let old = c.args.self.now in
    let is = c.requires.rows in
    let row = c.args.row in
    let item = c.args.item in
    let group = item / 2 ^ old.shift in
    let b = slice_index old.busy row in
    let within : row < length old.busy = omega (arith, c.requires.row) in
    let here = get_or_default old.busy row 0 b within in
    let busy' = slice_set old.busy row (bit_and b (18446744073709551615 - c.if-is_last.group)) in
    let few : group < 64 = omega (arith, in-group old is item (omega (arith, c.requires.item)), few-groups old is) in
    elim c.if-is_last.branch [
      | then-is_last w ↦
          false_from_ne_true _ (λ on.
          other-busy old is busy' row group b within few here (ap (λ k. slice_set old.busy row (bit_and b (18446744073709551615 - k))) w.group-is) (item / 64) on
          (ap (λ k. item / 2 ^ k) (sym six)))
      | else-is_last w ↦
          absurd (true≢false (sym (and_from (c.args.word == 0) (old.shift == 6) (eq-eqb c.args.word 0 zero) (eq-eqb old.shift 6 six)) ∙ w.if-is_last.false))
    ]
