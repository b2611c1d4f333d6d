-- A signal that stays as it is: where its stretch started, and when it held last.
use Rattle.std.proofs.Common.{◌≡◌, ℕ, ◌≤◌, true, false, ◌∙◌, arith}
use Rattle.ecam_spec.specs.Past.{Signal, last, start_of}
use Rattle.ecam_spec.proofs.PastMoments.{start_of-kept, last-kept}

-- p is in each moment up to m as in moment k
abbrev pub Stays : Signal → ℕ → ℕ → Type 0
Stays p k m = (i : ℕ) → k ≤ i → i ≤ m → p i ≡ p k

-- while p stays its stretch started when it did
pub start-stays : (p : Signal) (k m : ℕ) → k ≤ m → Stays p k m → p k ≡ true → start_of p m ≡ start_of p k
start-stays p k m within stays on = start_of-kept p k m within (λ i low high. stays i (omega arith) high ∙ on)

-- and while it stays away it held last when it did
pub last-stays : (p : Signal) (k m : ℕ) → k ≤ m → Stays p k m → p k ≡ false → last p m ≡ last p k
last-stays p k m within stays off = last-kept p k m within (λ i low high. stays i (omega arith) high ∙ off)
