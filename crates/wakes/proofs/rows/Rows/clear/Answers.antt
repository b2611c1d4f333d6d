use Rattle.std.proofs.Common.{length, replicate, refl, ap, ◌∙◌, rules}
use Rattle.std.specs.Box.{boxed_slice_items, boxed_slice_with_items}
use Rattle.wakes.proofs.Places.{empty-rows, written-over}
use Rattle.wakes.proofs.rows.Rows.clear.Goals as goal

pub returns-clause-rows : goal.returns-clause-rows
returns-clause-rows c =
    let old = c.args.self.now in
    let long = c.fill.ensures.len ∙ ap length c.as_mut_slice.ensures.value in
    let words = written-over old.words c.fill.new.self long in
    empty-rows (boxed_slice_items (boxed_slice_with_items old.words c.fill.new.self)) (replicate 64 0) old.count old.shift c.requires.few c.requires.grouped (ap length words ∙ long ∙ c.requires.room)
    (length c.as_mut_slice.result.now) (words ∙ c.fill.ensures.after (λ y same. search rules)) 64 refl
