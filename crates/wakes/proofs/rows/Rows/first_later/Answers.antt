use Rattle.std.proofs.Common.{◌≡◌, ◌+◌, ◌*◌, ◌/◌, ◌%◌, ◌^◌, ◌≤◌, ◌==◌, length, slice_index, inl, inr, refl, sym, ap, ◌∙◌, arith}
use Rattle.std.proofs.lemmas.Bool.{cases_lt, true≢false}
use Rattle.std.proofs.lemmas.List.{get_or_default}
use Rattle.std.proofs.lemmas.Nat.Bits.{bit_at-zero}
use Rattle.std.specs.Box.{boxed_slice_items}
use Rattle.std.specs.Int.{bit_at}
use Rattle.wakes.proofs.Places.{fits, few-groups, small-shift, whole-groups}
use Rattle.wakes.proofs.Groups.{group-end, group-start, word-within, room-for, none-scanned, none-quiet, found-waits, found-first}
use Rattle.wakes.proofs.rows.Rows.first_later.Goals as goal

pub overflow_cast-end : goal.overflow_cast-end
overflow_cast-end c = omega (arith, small-shift c.loop-start.self c.loop-start.invariant.rows)

pub overflow_shl-end : goal.overflow_shl-end
overflow_shl-end c = small-shift c.loop-start.self c.loop-start.invariant.rows

pub overflow_shl-start : goal.overflow_shl-start
overflow_shl-start c = small-shift c.rest_group.new.self c.rest_group.ensures.rows

pub loop-start-init : goal.loop-start-init
loop-start-init c = record {
  rows = c.requires.rows;
  count = refl;
  waits = λ r i. refl;
  group = omega arith;
  begins = refl;
  within = omega (arith, word-within c.args.self.now c.requires.rows 0);
  none = c.requires.none;
  quiet = λ g lt. absurd (let w : ⊥ = omega (arith, lt) in w);
}

pub next_word-start-requires-clause-end : goal.next_word-start-requires-clause-end
next_word-start-requires-clause-end c =
    let rows = c.loop-start.self in
    let inv = c.loop-start.invariant in
    ap (λ n. n % 64) (group-end rows inv.rows c.loop-start.group inv.group) ∙ whole-groups rows.shift (c.loop-start.group + 1) inv.rows.grouped.whole

pub next_word-start-requires-clause-order : goal.next_word-start-requires-clause-order
next_word-start-requires-clause-order c =
    let inv = c.loop-start.invariant in
    omega (arith, inv.within, group-end c.loop-start.self inv.rows c.loop-start.group inv.group)

pub returns-then-start-end-clause-end : goal.returns-then-start-end-clause-end
returns-then-start-end-clause-end c =
    let rows = c.loop-start.self in
    let inv = c.loop-start.invariant in
    let is = inv.rows in
    let r = c.args.moment % 64 in
    let start = c.next_word-start.result in
    let bit = c.lowest.result in
    let end = group-end rows is c.loop-start.group inv.group in
    let room = room-for rows is r (omega arith) c.loop-start.group inv.group in
    let whole = whole-groups rows.shift (c.loop-start.group + 1) is.grouped.whole in
    let within : start + 64 ≤ length (boxed_slice_items rows.words) = omega (arith, c.if-start-end.true, c.next_word-start.ensures.begins, end, room, whole) in
    let word : slice_index (boxed_slice_items rows.words) (start + r) ≡ c.index.result.now =
    get_or_default (boxed_slice_items rows.words) (start + r) 0 c.index.result.now (omega (arith, within)) ∙ sym c.index.ensures in
    let on = found-waits rows is r (omega arith) start bit c.next_word-start.ensures.begins c.lowest.ensures.within (ap (λ w. bit_at w bit) word ∙ c.lowest.ensures.set) in
    omega (arith, inv.count, is.within r (start + bit) (omega arith) (omega (arith, within, c.lowest.ensures.within)) on)

pub returns-then-start-end-clause-none : goal.returns-then-start-end-clause-none
returns-then-start-end-clause-none c =
    let rows = c.loop-start.self in
    let inv = c.loop-start.invariant in
    let is = inv.rows in
    let r = c.args.moment % 64 in
    let start = c.next_word-start.result in
    let end = group-end rows is c.loop-start.group inv.group in
    let room = room-for rows is r (omega arith) c.loop-start.group inv.group in
    let whole = whole-groups rows.shift (c.loop-start.group + 1) is.grouped.whole in
    let within : start + 64 ≤ length (boxed_slice_items rows.words) = omega (arith, c.if-start-end.true, c.next_word-start.ensures.begins, end, room, whole) in
    let word : slice_index (boxed_slice_items rows.words) (start + r) ≡ c.index.result.now =
    get_or_default (boxed_slice_items rows.words) (start + r) 0 c.index.result.now (omega (arith, within)) ∙ sym c.index.ensures in
    λ i lt. sym (inv.waits r i) ∙ elim (cases_lt i start) [
      | inl early ↦
          none-scanned rows is r (omega arith) 0 c.loop-start.start start (λ j le' lt'. inv.none j lt')
          (λ j le' lt'. ap (λ ws. slice_index ws (j / 64 * 64 + r)) (sym c.deref.ensures.value) ∙ c.next_word-start.ensures.none j le' lt') i (omega arith) early
      | inr late ↦
          found-first rows is r (omega arith) start c.lowest.result c.next_word-start.ensures.begins c.lowest.ensures.within
          (λ b less. ap (λ w. bit_at w b) word ∙ c.lowest.ensures.lowest b less) i late lt
    ]

pub rest_group-requires-clause-group : goal.rest_group-requires-clause-group
rest_group-requires-clause-group c = omega (arith, c.loop-start.invariant.group, few-groups c.loop-start.self c.loop-start.invariant.rows)

pub rest_group-requires-clause-none : goal.rest_group-requires-clause-none
rest_group-requires-clause-none c = λ i lt of.
    let rows = c.loop-start.self in
    let inv = c.loop-start.invariant in
    let is = inv.rows in
    let r = c.args.moment % 64 in
    let end = group-end rows is c.loop-start.group inv.group in
    let within = word-within rows is i in
    let below : i + 1 ≤ (c.loop-start.group + 1) * 2 ^ rows.shift = omega (arith, within, ap (λ g. (g + 1) * 2 ^ rows.shift) of) in
    none-scanned rows is r (omega arith) 0 c.loop-start.start c.next_word-start.result (λ j le' lt'. inv.none j lt')
    (λ j le' lt'. ap (λ ws. slice_index ws (j / 64 * 64 + r)) (sym c.deref.ensures.value) ∙ c.next_word-start.ensures.none j le' lt') i (omega arith) (omega (arith, below, end, c.if-start-end.false))

pub returns-then-self-row-eq0-clause-waits : goal.returns-then-self-row-eq0-clause-waits
returns-then-self-row-eq0-clause-waits c = λ r i. c.rest_group.ensures.waits r i ∙ c.loop-start.invariant.waits r i

pub returns-then-self-row-eq0-clause-none : goal.returns-then-self-row-eq0-clause-none
returns-then-self-row-eq0-clause-none c = λ i lt.
    let rows = c.rest_group.new.self in
    let is = c.rest_group.ensures.rows in
    let r = c.args.moment % 64 in
    sym (c.rest_group.ensures.waits r i ∙ c.loop-start.invariant.waits r i)
    ∙ none-quiet rows is r (omega arith) 0 64 (λ g le less. ap (λ n. bit_at n g) c.if-self-row-eq0.true ∙ bit_at-zero g) i (omega arith) (omega (arith, lt, is.grouped.few)) (omega (arith, lt, fits rows is))

pub loop-start-smaller : goal.loop-start-smaller
loop-start-smaller c =
    let inv = c.loop-start.invariant in
    let next = c.lowest-group.result in
    let was = c.rest_group.ensures.busy next (ap (λ n. n == 1) c.lowest-group.ensures.set) in
    elim (cases_lt next c.loop-start.group) [
      | inl lt ↦ absurd (true≢false (sym was.1 ∙ inv.quiet next lt))
      | inr le ↦ omega (arith, le, was.0, c.lowest-group.ensures.within)
    ]

pub loop-start-preserved : goal.loop-start-preserved
loop-start-preserved c =
    let rows = c.rest_group.new.self in
    let is = c.rest_group.ensures.rows in
    let r = c.args.moment % 64 in
    let inv = c.loop-start.invariant in
    let next = c.lowest-group.result in
    let known : next ≤ rows.count / 2 ^ rows.shift = is.groups r next (omega arith) (ap (λ n. n == 1) c.lowest-group.ensures.set) in
    let start = group-start rows is next known in
    record {
      rows = is;
      count = c.rest_group.ensures.count ∙ inv.count;
      waits = λ r i. c.rest_group.ensures.waits r i ∙ inv.waits r i;
      group = known;
      begins = ap (λ n. n % 64) start ∙ whole-groups rows.shift next is.grouped.whole;
      within = omega (arith, start);
      none = λ i lt.
          none-quiet rows is r (omega arith) 0 next (λ g le less. c.lowest-group.ensures.lowest g less) i (omega arith) (omega (arith, lt, start)) (omega (arith, lt, start, room-for rows is r (omega arith) next known));
      quiet = λ g lt. ap (λ n. n == 1) (c.lowest-group.ensures.lowest g lt);
    }
