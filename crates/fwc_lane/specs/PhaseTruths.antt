-- The inputs of the phase as the truths of conditions.
use Rattle.std.specs.Prelude.{Bool, false, List, slice_index_or}
use Rattle.flight_phases.specs.declared.inputs.PhaseInputs.{PhaseInputs}

-- these truths tell of each condition; the inputs are the first six, in stepping order
abbrev pub inputs_by : List Bool → PhaseInputs
inputs_by truths = record {
  gnd = slice_index_or truths 0 false;
  run = slice_index_or truths 1 false;
  tp = slice_index_or truths 2 false;
  fast = slice_index_or truths 3 false;
  high = slice_index_or truths 4 false;
  low = slice_index_or truths 5 false;
}
