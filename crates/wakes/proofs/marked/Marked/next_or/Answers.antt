use Rattle.std.proofs.Common.{◌/◌, ◌*◌, ◌+◌, ◌<◌, length, inl, inr, ap, sym, subst, ◌∙◌, arith}
use Rattle.std.proofs.lemmas.Bool.{cases_lt}
use Rattle.std.specs.Box.{boxed_slice_items}
use Rattle.wakes.specs.Marks.{is_marked, IsNext}
use Rattle.wakes.proofs.Bits.{next-here, next-later}
use Rattle.wakes.proofs.marked.Marked.next_or.Goals as goal

pub returns-then-rest-ne0-clause-marked : goal.returns-then-rest-ne0-clause-marked
returns-then-rest-ne0-clause-marked c = λ lt.
    let within : c.args.from / 64 < length (boxed_slice_items c.self.inside.words) = omega (arith, c.min.ensures, c.if-from-min.false, c.self.invariant.within) in
    let next = next-here _ c.args.from _ within c.index.ensures _ c.lowest.result c.bits_from-rest.ensures.bits c.bits_from-rest.ensures.fits c.lowest.ensures.set c.lowest.ensures.lowest in
    let found = subst (λ ws. IsNext ws c.args.from (c.args.from + c.lowest.result)) c.self.view_is next in
    ap (is_marked c.args.self.now) (omega (arith, c.min-then-rest-ne0.ensures, lt)) ∙ found.is

pub returns-then-rest-ne0-clause-none : goal.returns-then-rest-ne0-clause-none
returns-then-rest-ne0-clause-none c = λ j le lt.
    let within : c.args.from / 64 < length (boxed_slice_items c.self.inside.words) = omega (arith, c.min.ensures, c.if-from-min.false, c.self.invariant.within) in
    let next = next-here _ c.args.from _ within c.index.ensures _ c.lowest.result c.bits_from-rest.ensures.bits c.bits_from-rest.ensures.fits c.lowest.ensures.set c.lowest.ensures.lowest in
    let found = subst (λ ws. IsNext ws c.args.from (c.args.from + c.lowest.result)) c.self.view_is next in
    found.first j le (omega (arith, c.min-then-rest-ne0.ensures, lt))

pub returns-clause-none : goal.returns-clause-none
returns-clause-none c = λ j le lt.
    let within : c.args.from / 64 < length (boxed_slice_items c.self.inside.words) = omega (arith, c.min.ensures, c.if-from-min.false, c.self.invariant.within) in
    ap (λ ws. is_marked ws j) (sym c.self.view_is) ∙ elim (cases_lt j (64 * (c.args.from / 64 + 1))) [
      | inl near ↦ next-later _ c.args.from _ within c.index.ensures _ c.bits_from-rest.ensures.bits c.if-rest-ne0.false j le near
      | inr far ↦ ap (λ ws. is_marked ws j) (sym c.deref.ensures.value) ∙ c.next_in.ensures.none j far lt
    ]
