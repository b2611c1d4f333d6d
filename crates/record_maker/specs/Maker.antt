-- What is left of the record that a maker makes.
use Rattle.std.specs.Prelude.{ℕ, ◌-◌, List, [], ◌++◌, drop, codes, if◌then◌else◌}
use Rattle.ecam_spec.specs.Output.{line}
use Rattle.record_maker.specs.declared.maker.Maker.{Maker}
use Rattle.record_maker.specs.Record.{moments}

-- what it hasn't made yet: the moments to come, and the end
abbrev pub unmade : Maker → List ℕ
unmade m =
    moments m.moment m.draw (m.moments - m.moment) ++ (if m.ended then [] else line (codes "E"))

-- and before it what it made and hasn't given
abbrev pub left_of : Maker → List ℕ
left_of m = drop m.given m.lines.items ++ unmade m
