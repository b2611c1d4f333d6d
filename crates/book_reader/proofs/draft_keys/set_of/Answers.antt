use Rattle.std.proofs.Common.{◌≡◌, ◌<◌, bit_or, length, option_map, Some, None, ap, sym, ◌∙◌}
use Rattle.toml.specs.View.{view}
use Rattle.ecam_spec.specs.TermNumber.{one_phase}
use Rattle.book_spec.specs.Defaults.{phase_from}
use Rattle.book_reader.proofs.PhaseSets.{phase_more, phase_same}
use Rattle.book_reader.proofs.draft_keys.set_of.Goals as goal
use Rattle.book_reader.proofs.draft_keys.set_of.Goals.{in-Some, in_default}

pub loop-value-preserved : goal.loop-value-preserved
loop-value-preserved c =
    let l = c.loop-value in
    let v = c.value-item.result in
    let within : l.value-index < length c.args.values.now = c.loop-value-test.true in
    elim c.match-phase_from.branch [
      | in-Some w ↦
          let is : phase_from (view v) ≡ Some w.in-Some.phase.number = sym c.phase_from.ensures.value ∙ ap (option_map (λ p. p.number)) w.in-Some.is in
          ap (λ s. s.0) w.set-is ∙ w.with_phase-set.ensures ∙ ap (λ s. bit_or s (one_phase w.in-Some.phase.number)) l.invariant
          ∙ sym (phase_more c.args.values.now l.value-index v within c.value-item.is w.in-Some.phase.number is)
      | in_default w ↦
          let is : phase_from (view v) ≡ None = sym c.phase_from.ensures.value ∙ ap (option_map (λ p. p.number)) w.in_default.is in
          ap (λ s. s.0) w.set-is ∙ l.invariant ∙ sym (phase_same c.args.values.now l.value-index v within c.value-item.is is)
    ]
