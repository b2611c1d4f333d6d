use Rattle.book_checker.proofs.Order.{told}
use Rattle.book_checker.proofs.sealing.fault_by.Goals as goal

pub returns : goal.returns
returns c =
    rw (
      c.or-9.ensures,
      c.or-8.ensures,
      c.or-7.ensures,
      c.or-6.ensures,
      c.or-5.ensures,
      c.or-4.ensures,
      c.or-3.ensures,
      c.or-2.ensures,
      c.or.ensures,
      c.phase_fault.ensures,
      c.alert_fault.ensures,
      c.named_fault.ensures,
      c.phase_fault-2.ensures,
      c.alert_fault-2.ensures,
      c.memo_fault.ensures,
      c.alert_fault-3.ensures,
      c.alert_fault-4.ensures,
      c.alert_fault-5.ensures,
      c.alert_fault-6.ensures,
      c.as_slice-alerts.ensures.value,
      c.as_slice.ensures.value,
      c.as_slice-2.ensures.value,
    )
    (told c.args.draft.now c.as_slice-params.result c.args.places c.as_slice-params.ensures.value)
