use Rattle.std.proofs.Common.{◌<◌, false, true, length, get_or, ap, ◌∙◌, arith}
use Rattle.std.proofs.lemmas.List.{length-set}
use Rattle.book_model.specs.View.{row_of}
use Rattle.param_table.specs.Asked.{is_shown_in}
use Rattle.param_table.proofs.AskedFor.{one_more, row_written, row_left, shown_few}
use Rattle.param_table.proofs.asked.add_shown.Goals as goal
use Rattle.param_table.proofs.asked.add_shown.Goals.{in-Some, in_default}

pub bounds-asked-param : goal.bounds-asked-param
bounds-asked-param c =
    let rows = c.deref-row-items.result.now in
    let own = shown_few (length c.args.asked.now) rows c.loop-row.row-index c.row-item.result c.in-Some.param (rw c.deref-row-items.ensures.value c.requires) (omega arith) c.row-item.is c.in-Some.is in
    omega (arith, own, c.loop-row.invariant.count)

pub loop-row-preserved : goal.loop-row-preserved
loop-row-preserved c =
    let rows = c.deref-row-items.result.now in
    let i = c.loop-row.row-index in
    let x = c.row-item.result in
    let less : i < length rows = omega arith in
    elim c.match-row.branch [
      | in-Some w ↦
          let q = w.in-Some.param in
          let own = shown_few (length c.args.asked.now) rows i x q (rw c.deref-row-items.ensures.value c.requires) less c.row-item.is w.in-Some.is in
          record {
            count = ap length w.asked-is ∙ length-set c.loop-row.asked q true ∙ c.loop-row.invariant.count;
            asked = λ p.
                one_more (is_shown_in p) row_of rows i x (get_or c.args.asked.now p false) (get_or c.loop-row.asked p false) (get_or c.match-row.asked p false) less c.row-item.is (c.loop-row.invariant.asked p)
                (ap (λ v. get_or v p false) w.asked-is ∙ row_written c.loop-row.asked (row_of x) q w.in-Some.is (omega (arith, own, c.loop-row.invariant.count)) p);
          }
      | in_default w ↦ record {
        count = ap length w.asked-is ∙ c.loop-row.invariant.count;
        asked = λ p.
            one_more (is_shown_in p) row_of rows i x (get_or c.args.asked.now p false) (get_or c.loop-row.asked p false) (get_or c.match-row.asked p false) less c.row-item.is (c.loop-row.invariant.asked p)
            (ap (λ v. get_or v p false) w.asked-is ∙ row_left (get_or c.loop-row.asked p false) (row_of x) p w.in_default.is);
      }
    ]
