use Rattle.std.proofs.Common.{◌++◌, length, codes, decimal, sym, ap, ◌∙◌}
use Rattle.book_model.proofs.BookLists.{many-alerts, many-parameters}
use Rattle.replay_core.proofs.Counts.{many_pages, many_memos, summed}
use Rattle.replay_core.proofs.summary.summary.Goals as goal

pub returns : goal.returns
returns c =
    let b = c.args.book.now in
    summed b (length c.alerts.result.now) (length c.params.result.now) (length c.memos.result.now) (length c.pages.result.now) c.slots.result
    c.put_count.new.line.items c.put_count-2.new.line.items c.put_count-3.new.line.items c.put_count-4.new.line.items c.put_count-5.new.line.items c.put.new.out.items
    (ap length c.alerts.ensures.value ∙ sym (many-alerts b)) (ap length c.params.ensures.value ∙ sym (many-parameters b))
    (ap length c.memos.ensures.value ∙ sym (many_memos b)) (ap length c.pages.ensures.value ∙ sym (many_pages b)) c.slots.ensures.value
    (c.put_count.ensures.text ∙ ap (λ line. line ++ codes "OK alerts " ++ decimal (length c.alerts.result.now)) c.new-line.ensures)
    c.put_count-2.ensures.text c.put_count-3.ensures.text c.put_count-4.ensures.text c.put_count-5.ensures.text c.put.ensures
