use Rattle.std.proofs.Common.{◌+◌, ◌++◌, sym, ◌∙◌, append_assoc, append-nil, string_bytes, decimal, false, arith}
use Rattle.term_text.specs.Written.{numbers_after, separator}
use Rattle.term_text.proofs.PhaseSteps.{phases_from, phase_here, phase_past, phases_end}
use Rattle.term_text.proofs.write_atoms.push_phases.Goals as goal
use Rattle.term_text.proofs.write_atoms.push_phases.Goals.{then-has+in_ok-push_str+in_ok-push_number, else-has}

pub loop-number-preserved : goal.loop-number-preserved
loop-number-preserved c =
    elim c.if-has.branch [
      | then-has+in_ok-push_str+in_ok-push_number w ↦ let here = phase_here c.args.phases.0 c.loop-number.number c.loop-number.is_first (omega arith) cc in
          let parts = append_assoc (string_bytes c.loop-number.text) (separator c.loop-number.is_first) (decimal c.loop-number.number) in
          let more = append_assoc (string_bytes c.loop-number.text) (separator c.loop-number.is_first ++ decimal c.loop-number.number) (numbers_after false (phases_from c.args.phases.0 (c.loop-number.number + 1))) in
          cc (w.in_ok-push_str.ensures.bytes, w.in_ok-push_number.ensures)
      | else-has w ↦ let past = phase_past c.args.phases.0 c.loop-number.number c.loop-number.is_first (omega arith) cc in cc
    ]

pub returns : goal.returns
returns c = let none = phases_end c.args.phases.0 c.loop-number.number c.loop-number.is_first (omega arith) in
    sym (append-nil (string_bytes c.loop-number.text)) ∙ cc
