use Rattle.std.proofs.Common.{◌≡◌, ◌<◌, ◌≤◌, ◌++◌, ◌∙◌, ℕ, List, [], map, take, drop, append-nil, sym, ap, subst, slice_set, length, arith}
use Rattle.std.proofs.Math.ListN.{drop_of_length-le}
use Rattle.std.proofs.lemmas.List.{length-map, take-append-drop}
use Rattle.std.proofs.Math.Seq.{map-set_same}
use Rattle.std.proofs.lemmas.List.Edits.{map_over_more}
use Rattle.std.proofs.lemmas.List.Elements.{All-set}
use Rattle.ecam_spec.specs.Situation.{value_in}
use Rattle.view_spec.specs.Advisories as plain
use Rattle.book_model.specs.Sealed.{the_book}
use Rattle.advisories.specs.Watches.{watched, stepped}
use Rattle.advisories.specs.declared.watches.Watch.{Watch}
use Rattle.advisories.proofs.watches.step.Goals as goal

pub step_one-requires-clause-within : goal.step_one-requires-clause-within
step_one-requires-clause-within c =
    let many : length c.loop-i.watches ≡ length c.args.watches.now =
    sym (length-map c.loop-i.watches watched) ∙ ap length c.loop-i.invariant.watched ∙ length-map c.args.watches.now watched in
    c.loop-i.invariant.within c.loop-i.i c.index-watches-i.result (omega (arith, c.loop-i-test.true, many))

pub loop-i-preserved : goal.loop-i-preserved
loop-i-preserved c =
    let is = c.loop-i.invariant in
    let same = c.index-watches-i.is in
    record {
      watched = map-set_same watched c.loop-i.watches c.loop-i.i c.step_one.new.watch c.index-watches-i.result c.step_one.ensures.watched ∙ is.watched;
      within = All-set (λ (w : Watch). w.advisory.param < length c.args.book.now.params.items) c.loop-i.watches c.loop-i.i c.step_one.new.watch
          (subst (λ p. p < length c.args.book.now.params.items) (sym (ap (λ (a : plain.Advisory). a.param) c.step_one.ensures.watched)) (step_one-requires-clause-within c.before)) is.within;
      stepped = λ m k ended.
          let f = stepped (λ p. value_in (the_book c.args.book.now) m p k) in
          ap (slice_set c.loop-i.watches c.loop-i.i) (c.step_one.ensures.stepped m k ended ∙ ap f (sym same))
          ∙ map_over_more f c.args.watches.now c.loop-i.watches c.loop-i.i c.index-watches-i.result c.loop-i-test.true (is.stepped m k ended) same;
    }

-- all were stepped
over : {X : Type 0} (f : X → X) (xs ys : List X) (i : ℕ) → length xs ≤ i → ys ≡ map f (take i xs) ++ drop i xs → ys ≡ map f xs
over f xs ys i past is =
    let none : drop i xs ≡ [] = drop_of_length-le xs past in
    let all : take i xs ≡ xs = sym (append-nil (take i xs)) ∙ ap (λ d. take i xs ++ d) (sym none) ∙ take-append-drop i xs in
    is ∙ ap (λ d. map f (take i xs) ++ d) none ∙ append-nil (map f (take i xs)) ∙ ap (map f) all

pub returns-clause-stepped : goal.returns-clause-stepped
returns-clause-stepped c = λ m k ended.
    over (stepped (λ p. value_in (the_book c.args.book.now) m p k)) c.args.watches.now c.loop-i.watches c.loop-i.i c.loop-i-test.false (c.loop-i.invariant.stepped m k ended)
