use Rattle.std.proofs.Common.{◌≡◌, ℕ, Bool, true, false, get_or, ◌∙◌, sym, ap}
use Rattle.toml.specs.Data.{Data}
use Rattle.toml.specs.View.{view}
use Rattle.book_spec.specs.Document.{names_at}
use Rattle.book_faults.specs.Asked.{item_fails}
use Rattle.book_tables.specs.Catalogue.{table_in}
use Rattle.book_faults.proofs.FirstItems.{first_here, first_later, first_nowhere}
use Rattle.book_faults.proofs.searches.first_table.Goals as goal

pub returns-then-branch : goal.returns-then-branch
returns-then-branch c =
    let is_so : ℕ → Data → Bool = λ i d. item_fails (names_at (table_in c.args.names.now) c.args.item i) c.args.asked c.args.item d in
    let i = c.loop-i.i in
    let v = c.index-values-i.result in
    let told = sym c.in_ok-item_breaks.ensures ∙ c.if-branch.true in
    let known = ap (λ names. item_fails names c.args.asked c.args.item (view v)) (sym c.scope-known.ensures) ∙ told in
    let here : is_so i (view (get_or c.args.values.now i v)) ≡ true = ap (λ w. is_so i (view w)) (sym c.index-values-i.is) ∙ known in
    sym (c.loop-i.invariant ∙ first_here view is_so c.args.values.now i v c.loop-i-test.true here)

pub returns : goal.returns
returns c =
    let is_so : ℕ → Data → Bool = λ i d. item_fails (names_at (table_in c.args.names.now) c.args.item i) c.args.asked c.args.item d in
    sym (c.loop-i.invariant ∙ first_nowhere view is_so c.args.values.now c.loop-i.i c.loop-i-test.false)

pub loop-i-preserved : goal.loop-i-preserved
loop-i-preserved c =
    let is_so : ℕ → Data → Bool = λ i d. item_fails (names_at (table_in c.args.names.now) c.args.item i) c.args.asked c.args.item d in
    let i = c.loop-i.i in
    let v = c.index-values-i.result in
    let told = sym c.in_ok-item_breaks.ensures ∙ c.if-branch.false in
    let known = ap (λ names. item_fails names c.args.asked c.args.item (view v)) (sym c.scope-known.ensures) ∙ told in
    let other : is_so i (view (get_or c.args.values.now i v)) ≡ false = ap (λ w. is_so i (view w)) (sym c.index-values-i.is) ∙ known in
    c.loop-i.invariant ∙ first_later view is_so c.args.values.now i v c.loop-i-test.true other
