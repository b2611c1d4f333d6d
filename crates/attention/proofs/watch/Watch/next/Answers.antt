use Rattle.std.proofs.Common.{◌≡◌, Bool, refl}
use Rattle.ecam_spec.specs.Past.{previous}
use Rattle.attention.specs.declared.watch.Watch.{Watch}
use Rattle.attention.specs.declared.watch.Onset.{Onset}
use Rattle.attention.proofs.watch.Watch.next.Goals as goal

watch-of : (up p : Bool) (o q : Onset) → up ≡ p → o ≡ q → (let w : Watch = record { up = up; onset = o } in w) ≡ record { up = p; onset = q }
watch-of up p o q h g = rw (h, g) refl

pub returns : goal.returns
unfolding previous
returns c = λ a i k up pressed now was. watch-of _ _ _ _ up (c.next_onset.ensures a i k up pressed now was)
