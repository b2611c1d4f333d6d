use Rattle.std.proofs.Common.{◌≡◌}
use Rattle.ecam_spec.specs.Bytes.{place_of}
use Rattle.term_text.specs.Known.{texts_of}
use Rattle.term_text.proofs.NamePlaces.{place_from}
use Rattle.term_text.proofs.names.position_of.Given as goal

abbrev pub invariant-loop-i : goal.invariant-loop-i
invariant-loop-i l = place_of (texts_of l.names) l.name ≡ place_from l.names l.i l.name
