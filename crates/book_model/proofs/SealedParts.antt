-- Where the lines of each alert start in the list of all lines.
use Rattle.std.proofs.Common.{◌≡◌, ℕ, zero, suc, ◌+◌, ◌<◌, List, [], ◌∷◌, map, length, take, get_or, refl, ap, arith, length-append}
use Rattle.ecam_spec.specs.Book.{Alert}
use Rattle.ecam_spec.specs.BookTerms.{lines_of}
use Rattle.book_model.specs.Parts.{starts}

pub length-starts : (n : ℕ) (counts : List ℕ) → length (starts n counts) ≡ length counts
length-starts n [] = refl
length-starts n (k ∷ ks) = ap suc (length-starts (n + k) ks)

pub starts-at : (n : ℕ) (alerts : List Alert) (i d : ℕ) → i < length alerts → get_or (starts n (map (λ a. length a.lines) alerts)) i d ≡ n + length (lines_of (take i alerts))
starts-at n [] i d h = absurd (omega arith)
starts-at n (a ∷ alerts) zero d h = omega arith
starts-at n (a ∷ alerts) (suc i) d h = omega (arith, starts-at (n + length a.lines) alerts i d (omega arith), length-append a.lines (lines_of (take i alerts)))
