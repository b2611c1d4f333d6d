use Rattle.std.proofs.Common.{◌≡◌, ◌<◌, ◌^◌, take}
use Rattle.view_spec.specs.OutputWords.{number_of}
use Rattle.word_out.proofs.data.group_data.Given as goal

abbrev pub invariant-loop-i : goal.invariant-loop-i
invariant-loop-i l = record {
  number : l.data ≡ number_of (take l.i l.alerts);
  small : l.data < 2 ^ l.i;
}
