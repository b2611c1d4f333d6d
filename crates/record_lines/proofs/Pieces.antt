-- What is left of a piece, and of a source.
use Rattle.std.proofs.Common.{◌≡◌, ℕ, ◌+◌, ◌-◌, ◌≤◌, List, [], length, take, drop, Option, Some, None, sym, ◌∙◌, ap, arith, length-take, length-drop}
use Rattle.std.proofs.lemmas.List.{drop-take, drop-drop}
use Rattle.std.specs.Prelude.{slice_range}
use Rattle.std.specs.Io.KnownBytes.{IsAtEnd}
use Rattle.record_lines.specs.Reads.{IsSpent}

-- past the first bytes of a part of a list
pub slice_range-past : (xs : List ℕ) (i j n : ℕ) → j ≤ length xs → n ≤ length (slice_range xs i j) → slice_range xs (i + n) j ≡ drop n (slice_range xs i j)
slice_range-past xs i j n fits within =
    let len = length-take (j - i) (drop i xs) in
    let split : j - i ≡ n + (j - (i + n)) = omega arith in
    sym (ap (λ m. drop n (take m (drop i xs))) split ∙ drop-take n (j - (i + n)) (drop i xs) ∙ ap (take (j - (i + n))) (drop-drop n i xs))

-- no bytes were read
pub slice_range-empty : (xs : List ℕ) (n : ℕ) → n ≤ length xs → slice_range xs 0 n ≡ [] → n ≡ 0
slice_range-empty xs n fits empty =
    let len = length-take (n - 0) (drop 0 xs) in
    let none = ap length empty in
    omega (arith, length-drop 0 xs)

-- a source that is at its end
pub IsSpent-end : (old new : Option (List ℕ)) → IsAtEnd new → IsSpent old new
IsSpent-end None new end = tt
IsSpent-end (Some xs) new end = end
