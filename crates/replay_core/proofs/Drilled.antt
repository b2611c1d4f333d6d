-- What the replay of a made record leaves in a tally.
use Rattle.std.proofs.Common.{◌≡◌, ℕ, ◌≤◌, ◌++◌, List, [], Option, Some, Result, Ok, Err, refl, arith}
use Rattle.std.specs.Prelude.{codes, decimal}
use Rattle.ecam_io.specs.Outside.{Rose}
use Rattle.ecam_io.specs.Tally.{IsTallyOf}
use Rattle.ecam_io.specs.declared.tally.Tally.{Tally}
use Rattle.ecam_spec.specs.Book.{Text, Book}
use Rattle.ecam_spec.specs.Command.{no_limit}
use Rattle.ecam_spec.specs.Replay.{reply}
use Rattle.fwc_pair.specs.declared.pair.Pair.{Pair}
use Rattle.record_maker.specs.Record.{made}
use Rattle.record_maker.proofs.Whole.{made_sound}
use Rattle.replay_core.specs.Drill.{counts_line}
use Rattle.record_views.specs.Runs.{Runs}
use Rattle.record_views.specs.declared.show.RunError.{RunError}
use Rattle.record_views.specs.declared.show.RunError.TheVariants.{Read, Write, Record}

-- a count that stays 0 doesn't rise
pub never-rose : Rose 0 0 → ⊥
never-rose rose = let less = rose (λ e. let w : ⊥ = omega (arith, e) in w) in let w : ⊥ = omega (arith, less) in w

module _ (b : Book) (pair : Pair) (seed moments : ℕ) (few : moments ≤ 1000000) (old new : Tally) (none : IsTallyOf old []) (left rest : Option (List ℕ)) (is : left ≡ Some (made seed moments)) where
  pub tallied : (result : Result ℕ RunError) → Runs b IsTallyOf old new pair no_limit left rest result → (result ≡ Err Read → Rose 0 0) → (result ≡ Err Write → Rose 0 0)
      → IsTallyOf new (reply b (made seed moments) no_limit)
  unfolding reply
  tallied (Ok n) runs read write = (runs (made seed moments) is).written [] none
  tallied (Err Read) runs read write = absurd (never-rose (read refl))
  tallied (Err Write) runs read write = absurd (never-rose (write refl))
  tallied (Err (Record f)) runs read write =
      let faulty = (runs (made seed moments) is).fault_is in
      let sound = made_sound seed moments no_limit (omega (arith, few)) in
      absurd (let w : ⊥ = cc in w)

-- the line that was put together from these numbers
pub counted : (tally : Tally) (w : Text) (moments : ℕ) (first second third fourth whole : Text) → IsTallyOf tally w
    → first ≡ [] ++ codes "moments " ++ decimal moments → second ≡ first ++ codes " blocks " ++ decimal tally.blocks
    → third ≡ second ++ codes " lines " ++ decimal tally.lines → fourth ≡ third ++ codes " bytes " ++ decimal tally.bytes
    → whole ≡ fourth ++ codes "\n" → whole ≡ counts_line moments w
unfolding counts_line
counted tally w moments first second third fourth whole is one two three four five =
    rw (five, four, three, two, one, is.blocks, is.lines, is.bytes) refl
