-- The first eight bits of a word tell its label, and are told by it.
use Rattle.std.proofs.Common.{◌≡◌, ℕ, ◌%◌, ◌<◌, arith}
use Rattle.std.specs.Int.{reverse_bits_onto}
use Rattle.ecam_spec.specs.Word.{label}
use Rattle.book_model.specs.Listening.{turned}

pub label-low : (word : ℕ) → label (word % 256) ≡ label word
unfolding label
label-low word = omega arith

-- eight bits turned round, and back
pub label-turned : (l : ℕ) → l < 256 → label (turned l) ≡ l
unfolding label reverse_bits_onto
label-turned l small = omega arith

pub turned-label : (eight : ℕ) → eight < 256 → turned (label eight) ≡ eight
unfolding label reverse_bits_onto
turned-label eight small = omega arith

pub turned-small : (l : ℕ) → turned l < 256
unfolding reverse_bits_onto
turned-small l = omega arith
