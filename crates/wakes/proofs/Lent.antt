-- The words of a set that were lent, after they are back.
use Rattle.std.proofs.Common.{◌≡◌, ℕ, ◌*◌, length, List, arith}
use Rattle.std.specs.List.{refill}
use Rattle.std.proofs.lemmas.Grind.{common_steps}
use Rattle.wakes.specs.Marks.{room}

-- they are as they were left, where there is room for the same numbers
pub come_back : (words left : List ℕ) → room left ≡ room words → refill (length words) words left ≡ left
come_back words left same =
    let long : length left ≡ length words = omega (arith, same) in
    grind (arith, common_steps)
