use Rattle.condition_codes.proofs.Walking.{on-ok, adds-all}
use Rattle.condition_codes.proofs.book.add_all.Goals as goal

pub returns : goal.returns
returns c =
    on-ok c.add_memos.result _ _
    (λ last.
    adds-all c.args.book.now c.sealed.ensures c.args.pieces.now c.add_phase.new.pieces c.add_alerts.new.pieces c.add_procedures.new.pieces c.add_memos.new.pieces
    c.in_ok-add_phase.ensures c.in_ok-add_alerts.ensures c.in_ok-add_procedures.ensures last)
    c.add_memos.ensures
