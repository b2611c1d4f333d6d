-- What a replay writes of a history, as that of a view: of no event nothing, and what was written stays.
use Rattle.std.proofs.Common.{◌≡◌, List, [], ◌∷◌, ◌++◌, refl}
use Rattle.ecam_spec.specs.declared.kinds.Event.{Event}
use Rattle.ecam_spec.specs.Book.{Book}
use Rattle.ecam_spec.specs.Output.{blocks}
use Rattle.ecam_spec.specs.Replay.{history_blocks, tick_count}
use Rattle.ecam_spec.proofs.ReplaySteps.{history_blocks_begun}
use Rattle.fwc_pair.specs.Views.{GoesOn}

-- of no event there is no block
pub blocks_begin : (b : Book) → history_blocks b [] ≡ []
unfolding history_blocks blocks tick_count
blocks_begin b = refl

-- and the blocks that were written stay
pub blocks_go_on : (b : Book) (h : List Event) (e : Event) → GoesOn (history_blocks b h) (history_blocks b (h ++ e ∷ []))
blocks_go_on b h e = let begun = history_blocks_begun b h (e ∷ []) in record { more = begun.0; joined = begun.1 }
