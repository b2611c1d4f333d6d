-- When a temporal node turns by itself, while what it stands over stays as it is.
use Rattle.std.specs.Prelude.{ℕ, ◌+◌, min, Bool, nat_le, nat_lt, if◌then◌else◌}
use Rattle.ecam_spec.specs.Past.{last, start_of, rise}
use Rattle.ecam_spec.specs.Book.{Tree, confirmed, held, risen}
use Rattle.ecam_spec.specs.Term.{World, holds}
use Rattle.term_eval.specs.CellWords.{never, end_of}

-- by whether its condition holds in moment k, and when the window is full, or ends; or by whether it rises
abbrev pub confirmed_due : Bool → ℕ → ℕ → ℕ
confirmed_due now full k = if now then (if nat_le full k then never else full) else never

abbrev pub held_due : Bool → ℕ → ℕ → ℕ
held_due now end k = if now then never else (if nat_lt k end then end else never)

abbrev pub risen_due : Bool → ℕ → ℕ
risen_due rises k = if rises then min (k + 1) never else never

-- the first moment after k in which the node turns by itself. An atom, a gate and a latch never do
unfoldable pub own_due : World → Tree → ℕ → ℕ
own_due w (confirmed c n) k = confirmed_due (holds w c k) (min (start_of (holds w c) k + n) never) k
own_due w (held c n) k = held_due (holds w c k) (end_of (last (holds w c) k) n) k
own_due w (risen c) k = risen_due (rise (holds w c) k) k
own_due w _ k = never
