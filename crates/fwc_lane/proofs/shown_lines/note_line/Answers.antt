use Rattle.std.proofs.Common.{slice_index, arith}
use Rattle.fwc_lane.proofs.LineOwners.{keeps-hidden}
use Rattle.fwc_lane.proofs.shown_lines.note_line.Goals as goal

pub returns-clause-kept : goal.returns-clause-kept
returns-clause-kept c = λ b alerts off.
    keeps-hidden b c.args.shown.now c.args.flags.now.items c.set_flag.new.flags.items (slice_index c.args.line_alerts.now c.args.line) c.args.line c.args.stands
    (alerts.has c.args.line (omega (arith, c.requires.line, c.requires.alerts))) off c.set_flag.ensures.items
