use Rattle.std.proofs.Common.{◌≡◌, ℕ, Bool, true, false, get_or, ◌∙◌, sym, ap}
use Rattle.toml.specs.Data.{Data}
use Rattle.toml.specs.View.{view}
use Rattle.book_faults.specs.Asked.{leaf_fails}
use Rattle.book_tables.specs.Catalogue.{names_in}
use Rattle.book_faults.proofs.FirstItems.{first_here, first_later, first_nowhere}
use Rattle.book_faults.proofs.searches.first_leaf.Goals as goal

pub returns-then-branch : goal.returns-then-branch
returns-then-branch c =
    let is_so : ℕ → Data → Bool = λ i d. leaf_fails (names_in c.args.names.now) c.args.asked c.args.leaf d in
    let v = c.index-values-i.result in
    let here : is_so c.loop-i.i (view (get_or c.args.values.now c.loop-i.i v)) ≡ true =
    ap (λ w. is_so c.loop-i.i (view w)) (sym c.index-values-i.is) ∙ sym c.in_ok-leaf_breaks.ensures ∙ c.if-branch.true in
    sym (c.loop-i.invariant ∙ first_here view is_so c.args.values.now c.loop-i.i v c.loop-i-test.true here)

pub returns : goal.returns
returns c =
    sym (c.loop-i.invariant ∙ first_nowhere view (λ (i : ℕ) d. leaf_fails (names_in c.args.names.now) c.args.asked c.args.leaf d) c.args.values.now c.loop-i.i c.loop-i-test.false)

pub loop-i-preserved : goal.loop-i-preserved
loop-i-preserved c =
    let is_so : ℕ → Data → Bool = λ i d. leaf_fails (names_in c.args.names.now) c.args.asked c.args.leaf d in
    let v = c.index-values-i.result in
    let other : is_so c.loop-i.i (view (get_or c.args.values.now c.loop-i.i v)) ≡ false =
    ap (λ w. is_so c.loop-i.i (view w)) (sym c.index-values-i.is) ∙ sym c.in_ok-leaf_breaks.ensures ∙ c.if-branch.false in
    c.loop-i.invariant ∙ first_later view is_so c.args.values.now c.loop-i.i v c.loop-i-test.true other
