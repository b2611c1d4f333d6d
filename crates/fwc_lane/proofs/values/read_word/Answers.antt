use Rattle.std.proofs.Common.{◌≡◌, ℕ, ◌+◌, ◌-◌, ◌*◌, ◌/◌, ◌^◌, ◌<◌, ℤ, List, Option, length, sym, ap, ◌∙◌, arith}
use Rattle.std.specs.Int.{bit_at}
use Rattle.std.proofs.lemmas.Nat.Bits.{bit_at-zero}
use Rattle.book_model.specs.Sealed.{the_book}
use Rattle.book_model.proofs.BookLists.{many-parameters}
use Rattle.fwc_lane.specs.declared.terms.Terms.{Terms}
use Rattle.fwc_lane.specs.ReadTo.{AreReadTo}
use Rattle.fwc_lane.proofs.FlagSteps.{left-false, right-false}
use Rattle.fwc_lane.proofs.ValueWords.{set-bit, set-within, set-rest, over-unset}
use Rattle.fwc_lane.proofs.values.read_word.Goals as goal
use Rattle.fwc_lane.proofs.values.read_word.Goals.{After-lowest-low, After-bits_from-rest}

-- the lowest bit's number
module _ (c : After-lowest-low) where
  abbrev from : ℕ
  from = c.loop-rest.from

  abbrev low : ℕ
  low = c.lowest-low.result

  pub here : from + low < 64 * c.args.place + 64
  here = set-within c.changed_word-rest.result c.args.place from c.loop-rest.rest c.loop-rest.invariant.low c.loop-rest.invariant.rest low c.lowest-low.ensures.set c.changed_word-rest.type_inv

  pub there : from + low < length c.args.book.now.params.items
  there =
      let bit = set-bit c.changed_word-rest.result c.args.place from c.loop-rest.rest c.loop-rest.invariant.low c.loop-rest.invariant.rest low c.lowest-low.ensures.set in
      let is : 64 * c.args.place + (from + low - 64 * c.args.place) ≡ from + low = omega (arith, c.loop-rest.invariant.low) in
      omega (arith, is, c.changed_word-rest.ensures.within (from + low - 64 * c.args.place) (omega (arith, here)) bit)

  -- those before it have no other value
  pub over : (was : List (Option ℤ)) (first : Terms) → AreReadTo (the_book c.args.book.now) c.args.params.now was first (64 * c.args.place) c.args.values.now.items c.args.terms.now
      → AreReadTo (the_book c.args.book.now) c.args.params.now was first (from + low) c.loop-rest.values.items c.loop-rest.terms
  over was first read =
      over-unset c.changed_word-rest.result c.args.place from c.loop-rest.rest c.loop-rest.invariant.low c.loop-rest.invariant.rest (the_book c.args.book.now) c.args.params.now
      (λ words k stands i small unset within on. c.changed_word-rest.ensures.same words k stands i small unset (omega (arith, within, many-parameters c.args.book.now)) on)
      was first c.loop-rest.values.items c.loop-rest.terms (c.loop-rest.invariant.read was first read)
      (from + low) (omega arith) (omega (arith, here)) (λ i lt. c.lowest-low.ensures.lowest i (omega (arith, lt)))

pub read_value-other-requires-clause-param : goal.read_value-other-requires-clause-param
read_value-other-requires-clause-param c = there c.before.before

pub read_value-other-requires-clause-read : goal.read_value-other-requires-clause-read
read_value-other-requires-clause-read c =
    let read = c.requires.read in
    (read.0, read.1, over c.before.before read.0 read.1 read.2)

abbrev found : After-bits_from-rest → After-lowest-low
found c = c.before.before.before.before.before.before

pub loop-rest-smaller : goal.loop-rest-smaller
loop-rest-smaller c = omega (arith, here (found c))

pub loop-rest-preserved : goal.loop-rest-preserved
loop-rest-preserved c =
    let is = c.loop-rest.invariant in
    record {
      low = omega (arith, is.low);
      high = omega (arith, here (found c));
      rest = c.bits_from-rest.ensures.bits ∙ ap (λ r. r / 2 ^ 1) c.bits_from.ensures.bits
          ∙ set-rest c.changed_word-rest.result c.args.place c.loop-rest.from c.loop-rest.rest is.low is.rest c.lowest-low.result c.lowest-low.ensures.set;
      read = λ was first read. c.read_value-other.ensures.read was first (over (found c) was first read);
      kept = λ off.
          let none = sym c.is_either-any.ensures ∙ off in
          c.read_value-other.ensures.kept (right-false _ _ none) ∙ is.kept (left-false _ _ none);
    }

pub returns-clause-read : goal.returns-clause-read
returns-clause-read c = λ was first read.
    over-unset c.changed_word-rest.result c.args.place c.loop-rest.from c.loop-rest.rest c.loop-rest.invariant.low c.loop-rest.invariant.rest (the_book c.args.book.now) c.args.params.now
    (λ words k stands i small unset within on. c.changed_word-rest.ensures.same words k stands i small unset (omega (arith, within, many-parameters c.args.book.now)) on)
    was first c.loop-rest.values.items c.loop-rest.terms (c.loop-rest.invariant.read was first read)
    (64 * c.args.place + 64) c.loop-rest.invariant.high (omega arith) (λ i lt. ap (λ r. bit_at r i) c.loop-rest-test.false ∙ bit_at-zero i)
