-- What is still expected of a condition's text, as the reader keeps it.
use Rattle.std.specs.Prelude.{◌≡◌, ⊤, ℕ, ◌≤◌, Bool, true, false, List, [], ◌∷◌, reverse, Option, Some, None, option_to_list, Result, Ok, Err}
use Rattle.ecam_spec.specs.declared.term_steps.Expected.{Expected}
use Rattle.ecam_spec.specs.declared.term_steps.Expected.TheVariants.{Tail, Others}
use Rattle.ecam_spec.specs.declared.terms.Token.{Token}
use Rattle.ecam_spec.specs.declared.terms.Token.TheVariants.{Sign}
use Rattle.ecam_spec.specs.declared.term_steps.Step.{Step}
use Rattle.ecam_spec.proofs.TermReading.{Move, next_move}
use Rattle.term_text.specs.declared.pending.Pending.{Pending}
use Rattle.term_text.specs.declared.error.TermError.{TermError}
use Rattle.term_text.specs.declared.error.TermError.TheVariants.{Syntax, Memory}

-- the list of what is expected, the next first
abbrev pub pending : Pending → List Expected
pending p = reverse p.stack.items

abbrev pub is_tail : Expected → Bool
is_tail Tail = true
is_tail _ = false

-- how many conditions a list has so far
abbrev pub count_of : Expected → ℕ
count_of (Others list count) = count
count_of _ = 0

-- no list has more than so many
abbrev pub CountsWithin : ℕ → List Expected → Type 0
CountsWithin n [] = ⊤
CountsWithin n (e ∷ es) = (count_of e ≤ n) × CountsWithin n es

abbrev pub is_sign : Token → Bool
is_sign (Sign op) = true
is_sign _ = false

-- the move that a token makes from what was taken and what is expected after it
abbrev pub move_from : Option Expected → List Expected → Token → Option Move
move_from None rest t = None
move_from (Some e) rest t = next_move (e ∷ rest) t

-- the move, and the answer that tells it: what is expected then, and the step that was made; or the place of a
-- token that doesn't fit; or that memory ran out
abbrev pub Moves : Option Move → List Expected → ℕ → Result (Option Step) TermError → Type 0
Moves move rest at (Ok step) = move ≡ Some (rest, option_to_list step)
Moves move rest at (Err (Syntax place)) = (move ≡ None) × (place ≡ at)
Moves move rest at (Err Memory) = ⊤
Moves move rest at (Err _) = ⊥
