use Rattle.std.proofs.Common.{true, arith}
use Rattle.book_checker.proofs.PhasesAlone.{constant_sound, phases_sound}
use Rattle.book_checker.proofs.tests.a_draft_is_sealed_or_refused.Goals as goal

pub phases_alone-requires : goal.phases_alone-requires
phases_alone-requires g c = constant_sound true

pub phases_alone-requires-2 : goal.phases_alone-requires-2
phases_alone-requires-2 g c = phases_sound (record { 0 = 2 }) (omega arith)
