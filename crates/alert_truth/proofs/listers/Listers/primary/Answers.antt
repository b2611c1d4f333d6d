use Rattle.std.proofs.Common.{◌≡◌, ℕ, ◌<◌, ◌-◌, suc, Bool, true, false, List, length, get_or, Option, Some, None, cond, sym, ap, ◌∙◌, arith}
use Rattle.std.specs.Prelude.{find}
use Rattle.std.proofs.lemmas.List.{get_or_default}
use Rattle.ecam_spec.specs.Book.{Book}
use Rattle.ecam_spec.specs.Situation.{primaries}
use Rattle.alert_truth.specs.Listed.{no_link, first_linked, primary_of}
use Rattle.alert_truth.specs.declared.listers.Link.{Link}
use Rattle.alert_truth.proofs.Linking.{at-end, first-passes, first-fails}
use Rattle.alert_truth.proofs.listers.Listers.primary.Goals as goal

-- an active alert's primary is the first that is linked for it
is-first : (b : Book) (flags : List Bool) (a : ℕ) (first : Option ℕ) → get_or flags a false ≡ true → first ≡ find (λ p. get_or flags p false) (primaries b a) → first ≡ primary_of b flags a
is-first b flags a first on is = is ∙ sym (ap (λ t. cond t (find (λ p. get_or flags p false) (primaries b a)) None) on)

pub returns-then-active-link : goal.returns-then-active-link
returns-then-active-link c = λ b fits within.
    let flags = c.args.active.now in
    let links = c.args.self.now.links.items in
    let i = c.loop-place.place - 1 in
    let at : c.loop-place.place ≡ suc i = omega (arith, c.loop-place-test.true) in
    let link : c.index-link.result.now ≡ get_or links i no_link = c.index-link.ensures ∙ get_or_default links i c.index-link.result.now no_link (omega (arith, at, c.loop-place.invariant.within)) in
    is-first b flags c.args.alert (Some c.index-link.result.now.lister) c.if-not-active-alert.false (
    ap (λ (l : Link). Some l.lister) link
    ∙ sym (first-passes (λ p. get_or flags p false) links c.loop-place.place i at (sym (ap (λ (l : Link). get_or flags l.lister false) link) ∙ c.if-active-link.true))
    ∙ c.loop-place.invariant.first ∙ fits.first (λ p. get_or flags p false) c.args.alert within)

pub loop-place-preserved : goal.loop-place-preserved
loop-place-preserved c =
    let flags = c.args.active.now in
    let links = c.args.self.now.links.items in
    let i = c.loop-place.place - 1 in
    let linked = c.requires.1.linked in
    let at : c.loop-place.place ≡ suc i = omega (arith, c.loop-place-test.true) in
    let inside : i < length links = omega (arith, at, c.loop-place.invariant.within) in
    let link : c.index-link.result.now ≡ get_or links i no_link = c.index-link.ensures ∙ get_or_default links i c.index-link.result.now no_link inside in
    let rest = ap (λ (l : Link). l.rest) link in
    record {
      within = omega (arith, rest, linked.earlier i inside, inside);
      first =
          ap (λ r. first_linked (λ p. get_or flags p false) links r r) rest
          ∙ sym (first-fails (λ p. get_or flags p false) links linked.earlier c.loop-place.place i at inside (sym (ap (λ (l : Link). get_or flags l.lister false) link) ∙ c.if-active-link.false))
          ∙ c.loop-place.invariant.first;
    }

pub returns : goal.returns
returns c = λ b fits within.
    let flags = c.args.active.now in
    let end : c.loop-place.place ≡ 0 = omega (arith, c.loop-place-test.false) in
    is-first b flags c.args.alert None c.if-not-active-alert.false (
    sym (at-end (λ p. get_or flags p false) c.args.self.now.links.items c.loop-place.place end)
    ∙ c.loop-place.invariant.first ∙ fits.first (λ p. get_or flags p false) c.args.alert within)
