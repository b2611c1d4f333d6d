use Rattle.std.proofs.Common.{◌≡◌, ◌+◌, ◌*◌, ◌/◌, ◌%◌, ◌^◌, ◌≤◌, ◌==◌, length, slice_index, inl, inr, sym, ap, ◌∙◌, arith}
use Rattle.std.proofs.lemmas.Bool.{cases_lt}
use Rattle.std.proofs.Math.Nat.{mul-le-mul_right}
use Rattle.std.proofs.lemmas.List.{get_or_default}
use Rattle.std.specs.Box.{boxed_slice_items}
use Rattle.std.specs.Int.{bit_at}
use Rattle.wakes.proofs.Places.{fits, in-group, few-groups, small-shift, whole-groups}
use Rattle.wakes.proofs.Groups.{group-end, group-start, word-within, room-for, none-scanned, none-behind, found-waits, found-first}
use Rattle.wakes.proofs.rows.Rows.next_later.Goals as goal

pub overflow_shr-group : goal.overflow_shr-group
overflow_shr-group c = small-shift c.args.self.now c.requires.rows

pub overflow_shl-end : goal.overflow_shl-end
overflow_shl-end c = small-shift c.args.self.now c.requires.rows

pub overflow_shl-start : goal.overflow_shl-start
overflow_shl-start c = small-shift c.args.self.now c.requires.rows

pub loop-start-init : goal.loop-start-init
loop-start-init c = record {
  group = in-group c.args.self.now c.requires.rows c.args.from c.requires.from;
  behind = omega arith;
  begins = omega arith;
  within = word-within c.args.self.now c.requires.rows c.args.from;
  none = λ i le lt. absurd (let w : ⊥ = omega (arith, le, lt) in w);
}

pub next_word-start-requires-clause-end : goal.next_word-start-requires-clause-end
next_word-start-requires-clause-end c =
    let rows = c.args.self.now in
    ap (λ n. n % 64) (group-end rows c.requires.rows c.loop-start.group c.loop-start.invariant.group) ∙ whole-groups rows.shift (c.loop-start.group + 1) c.requires.rows.grouped.whole

pub next_group-requires : goal.next_group-requires
next_group-requires c = omega (arith, c.loop-start.invariant.group, few-groups c.args.self.now c.requires.rows)

pub returns-then-start-end-clause-end : goal.returns-then-start-end-clause-end
returns-then-start-end-clause-end c =
    let rows = c.args.self.now in
    let is = c.requires.rows in
    let r = c.args.moment % 64 in
    let start = c.next_word-start.result in
    let bit = c.lowest.result in
    let inv = c.loop-start.invariant in
    let end = group-end rows is c.loop-start.group inv.group in
    let room = room-for rows is r (omega arith) c.loop-start.group inv.group in
    let whole = whole-groups rows.shift (c.loop-start.group + 1) is.grouped.whole in
    let within : start + 64 ≤ length (boxed_slice_items rows.words) = omega (arith, c.if-start-end.true, c.next_word-start.ensures.begins, end, room, whole) in
    let word : slice_index (boxed_slice_items rows.words) (start + r) ≡ c.index.result.now =
    get_or_default (boxed_slice_items rows.words) (start + r) 0 c.index.result.now (omega (arith, within)) ∙ sym c.index.ensures in
    let on = found-waits rows is r (omega arith) start bit c.next_word-start.ensures.begins c.lowest.ensures.within (ap (λ w. bit_at w bit) word ∙ c.lowest.ensures.set) in
    omega (arith, is.within r (start + bit) (omega arith) (omega (arith, within, c.lowest.ensures.within)) on)

pub returns-then-start-end-clause-none : goal.returns-then-start-end-clause-none
returns-then-start-end-clause-none c =
    let rows = c.args.self.now in
    let is = c.requires.rows in
    let r = c.args.moment % 64 in
    let start = c.next_word-start.result in
    let inv = c.loop-start.invariant in
    let end = group-end rows is c.loop-start.group inv.group in
    let room = room-for rows is r (omega arith) c.loop-start.group inv.group in
    let whole = whole-groups rows.shift (c.loop-start.group + 1) is.grouped.whole in
    let within : start + 64 ≤ length (boxed_slice_items rows.words) = omega (arith, c.if-start-end.true, c.next_word-start.ensures.begins, end, room, whole) in
    let word : slice_index (boxed_slice_items rows.words) (start + r) ≡ c.index.result.now =
    get_or_default (boxed_slice_items rows.words) (start + r) 0 c.index.result.now (omega (arith, within)) ∙ sym c.index.ensures in
    λ i le lt. elim (cases_lt i start) [
      | inl early ↦
          none-scanned rows is r (omega arith) (c.args.from / 64 * 64 + 64) c.loop-start.start start inv.none
          (λ j le' lt'. ap (λ ws. slice_index ws (j / 64 * 64 + r)) (sym c.deref.ensures.value) ∙ c.next_word-start.ensures.none j le' lt') i le early
      | inr late ↦
          found-first rows is r (omega arith) start c.lowest.result c.next_word-start.ensures.begins c.lowest.ensures.within
          (λ b less. ap (λ w. bit_at w b) word ∙ c.lowest.ensures.lowest b less) i late lt
    ]

pub returns-in_default-clause-none : goal.returns-in_default-clause-none
returns-in_default-clause-none c =
    let rows = c.args.self.now in
    let is = c.requires.rows in
    let r = c.args.moment % 64 in
    let inv = c.loop-start.invariant in
    let end = group-end rows is c.loop-start.group inv.group in
    λ i le lt. none-behind rows is r (omega arith) (c.args.from / 64 * 64 + 64) c.loop-start.group 64
    (λ j le' lt'. none-scanned rows is r (omega arith) (c.args.from / 64 * 64 + 64) c.loop-start.start c.next_word-start.result inv.none
    (λ k le'' lt''. ap (λ ws. slice_index ws (k / 64 * 64 + r)) (sym c.deref.ensures.value) ∙ c.next_word-start.ensures.none k le'' lt'') j le' (omega (arith, lt', c.if-start-end.false, end)))
    (λ h more less. c.in_default.ensures h more) i le (omega (arith, lt, is.grouped.few)) (omega (arith, lt, fits rows is))

pub loop-start-smaller : goal.loop-start-smaller
loop-start-smaller c = omega (arith, c.in-Some.ensures.0, c.loop-start.invariant.group, few-groups c.args.self.now c.requires.rows)

pub loop-start-preserved : goal.loop-start-preserved
loop-start-preserved c =
    let rows = c.args.self.now in
    let is = c.requires.rows in
    let r = c.args.moment % 64 in
    let inv = c.loop-start.invariant in
    let next = c.in-Some.next in
    let end = group-end rows is c.loop-start.group inv.group in
    let known : next ≤ rows.count / 2 ^ rows.shift = is.groups r next (omega arith) (ap (λ n. n == 1) c.in-Some.ensures.1) in
    let start = group-start rows is next known in
    record {
      group = known;
      behind =
          (let later : (c.loop-start.group + 1) * 2 ^ rows.shift ≤ next * 2 ^ rows.shift = mul-le-mul_right (2 ^ rows.shift) (omega (arith, c.in-Some.ensures.0)) in
          omega (arith, later, start, inv.behind, inv.within));
      begins = ap (λ n. n % 64) start ∙ whole-groups rows.shift next is.grouped.whole;
      within = omega (arith, start);
      none = λ i le lt. none-behind rows is r (omega arith) (c.args.from / 64 * 64 + 64) c.loop-start.group next
          (λ j le' lt'. none-scanned rows is r (omega arith) (c.args.from / 64 * 64 + 64) c.loop-start.start c.next_word-start.result inv.none
          (λ k le'' lt''. ap (λ ws. slice_index ws (k / 64 * 64 + r)) (sym c.deref.ensures.value) ∙ c.next_word-start.ensures.none k le'' lt'') j le' (omega (arith, lt', c.if-start-end.false, end)))
          c.in-Some.ensures.2 i le (omega (arith, lt, start)) (omega (arith, lt, start, room-for rows is r (omega arith) next known));
    }
