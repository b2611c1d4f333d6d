-- Where the sound stays as long as the calls do: one moment on.
use Rattle.std.proofs.Common.{◌≡◌, ℕ, ◌+◌, ◌≤◌, true, false, sym, ◌∙◌, ap, arith}
use Rattle.std.specs.Prelude.{is_some}
use Rattle.ecam_spec.specs.declared.kinds.Sound.{Sound}
use Rattle.attention.specs.declared.calls.Calls.{Calls}
use Rattle.attention.specs.declared.state.Lights.{Lights}
use Rattle.attention.specs.declared.state.Attention.{Attention}
use Rattle.attention.specs.Calling.{sounding}
use Rattle.attention.specs.State.{IsSteady, TellsChange}

-- what stays the same from some moment on does so from the next on
pub steady-on : (c : Calls) (n : ℕ) → ((j : ℕ) → n ≤ j → sounding c j ≡ sounding c n) → (j : ℕ) → n + 1 ≤ j → sounding c j ≡ sounding c (n + 1)
steady-on c n steady j later = steady j (omega (arith, later)) ∙ sym (steady (n + 1) (omega arith))

abbrev lights-from : Calls → Sound → Lights
lights-from c s = record { warn = is_some c.warning; caut = c.caution; sound = s }

-- and the lights and the sound don't change
pub steady-tells : (old new : Attention) → new.calls ≡ old.calls → new.moments ≡ old.moments + 1 → IsSteady old → new.changed ≡ false → TellsChange old new
steady-tells old new calls moments steady unchanged =
    let sound : sounding new.calls new.moments ≡ sounding old.calls old.moments =
    ap (λ c. sounding c new.moments) calls ∙ ap (sounding old.calls) moments ∙ steady (old.moments + 1) (omega arith) in
    record {
      same = λ e. ap (λ c. lights-from c (sounding new.calls new.moments)) calls ∙ ap (lights-from old.calls) sound;
      other = λ e. absurd (let clash : true ≡ false = sym e ∙ unchanged in cc);
    }
