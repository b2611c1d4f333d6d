use Rattle.std.proofs.Common.{◌≡◌, ◌≤◌, ◌+◌, ◌-◌, ◌*◌, ◌++◌, length}
use Rattle.replay_core.specs.Flagged.{lines_from}
use Rattle.replay_core.proofs.block.put_changes_in.Given as goal

-- the lines so far and those of the rows from here on are those of all
abbrev pub invariant-loop-i : goal.invariant-loop-i
invariant-loop-i l = record {
  lines : l.out.items ++ lines_from l.i l.changed l.rows ≡ l.fn.out.items ++ lines_from l.from l.changed l.rows;
  short : length l.out.items ≤ length l.fn.out.items + 47 * (l.i - l.from);
}
