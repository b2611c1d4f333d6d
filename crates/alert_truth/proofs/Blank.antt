-- A list in which nothing is told yet.
use Rattle.std.proofs.Common.{◌≡◌, ℕ, get_or, replicate, inl, inr, arith}
use Rattle.std.proofs.lemmas.Bool.{cases_lt}
use Rattle.std.proofs.lemmas.List.{get_or_past, get_or-replicate, length-replicate}

pub blank-at : {X : Type 0} (n a : ℕ) (d : X) → get_or (replicate n d) a d ≡ d
blank-at n a d = elim (cases_lt a n) [
  | inl within ↦ get_or-replicate n a d d within
  | inr past ↦ get_or_past (replicate n d) a d (omega (arith, past, length-replicate n d))
]
