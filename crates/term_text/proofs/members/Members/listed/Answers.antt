use Rattle.std.proofs.Common.{◌≡◌, ◌<◌, suc, length, sym, refl, ap, ◌∙◌, arith, subst}
use Rattle.ecam_spec.specs.Book.{all, any, at_least}
use Rattle.std.proofs.lemmas.Result.{Ok-from_Ok_iff}
use Rattle.std.specs.Result.{result_unwrap_or}
use Rattle.std.specs.Prelude.{pos}
use Rattle.ecam_spec.specs.Grammar.{how_many}
use Rattle.ecam_spec.specs.TermText.{earliest, number_flaw, amount}
use Rattle.ecam_spec.proofs.TermReading.{list_form}
use Rattle.term_tree.specs.View.{trees_of}
use Rattle.term_tree.proofs.Views.{tree_of-All, tree_of-Any, tree_of-AtLeast}
use Rattle.term_text.specs.Flaws.{flaw_in, earlier_of}
use Rattle.term_text.specs.Parts.{JudgesForm}
use Rattle.term_text.proofs.ListsJudged.{all_over, any_over, at_least_over}
use Rattle.term_text.proofs.members.Members.listed.Goals as goal

pub returns-in-All : goal.returns-in-All
returns-in-All c = λ names f fs h.
    subst (λ l. JudgesForm names c.args.text.now c.above.result (list_form l f fs)) (sym c.in-All.is)
    (all_over names c.args.text.now c.args.self f fs c.above.result _ _ refl c.above.ensures (λ ts same. tree_of-All _ ∙ ap all (ap trees_of c.reverse.ensures.items ∙ same)) h)

pub returns-in-Any : goal.returns-in-Any
returns-in-Any c = λ names f fs h.
    subst (λ l. JudgesForm names c.args.text.now c.above-in-Any.result (list_form l f fs)) (sym c.in-Any.is)
    (any_over names c.args.text.now c.args.self f fs c.above-in-Any.result _ _ refl c.above-in-Any.ensures (λ ts same. tree_of-Any _ ∙ ap any (ap trees_of c.reverse.ensures.items ∙ same)) h)

pub returns-in-AtLeast : goal.returns-in-AtLeast
returns-in-AtLeast c = λ names f fs h.
    let text = c.args.text.now in
    let n = c.in-AtLeast.number in
    let v = c.amount_at-least.result.value in
    let counted : length c.args.self.conds.items ≡ suc (how_many fs) = h.count_is in
    let count : c.len.result ≡ suc (how_many fs) = omega (arith, c.len.ensures, c.reverse.ensures.len, c.args.self.conds.ok.0, counted) in
    let same_flaw = c.amount_at-least.ensures.flaw names ∙ ap (λ k. earliest (number_flaw names text (pos 1) (pos k) n)) count in
    let wrong = c.earlier_of.ensures ∙ ap (earlier_of (flaw_in c.args.self.flaw)) same_flaw in
    subst (λ l. JudgesForm names text c.above-in-AtLeast.result (list_form l f fs)) (sym c.in-AtLeast.is)
    (at_least_over names text c.args.self n f fs c.above-in-AtLeast.result _ _ wrong c.above-in-AtLeast.ensures
    (λ none few ts same.
    let value = c.amount_at-least.ensures.value names (same_flaw ∙ none) in
    let range = c.amount_at-least.ensures.range (omega (arith, count)) in
    let small : v < 4294967296 = omega (arith, range.1, count, few) in
    let fits = Ok-from_Ok_iff c.try_from.result (v < 4294967296) v c.try_from.ensures small in
    let kept = c.unwrap_or-count.ensures ∙ ap (λ r. result_unwrap_or r 4294967295) fits in
    tree_of-AtLeast c.unwrap_or-count.result c.reverse.new.self
    ∙ ap (λ k. at_least k (trees_of c.reverse.new.self.items)) (kept ∙ value)
    ∙ ap (at_least (amount names text n)) (ap trees_of c.reverse.ensures.items ∙ same))
    h)
