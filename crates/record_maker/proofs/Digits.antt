-- A word's digits, as `hex` writes them.
use Rattle.std.proofs.Common.{◌≡◌, ℕ, ◌/◌, ◌%◌, ◌<◌, ◌^◌, refl, arith, w32}
use Rattle.std.specs.Int.{to_be_bytes}
use Rattle.hex.specs.Hex.{encode_with, encode_lower}
use Rattle.ecam_spec.specs.Places.{below}
use Rattle.record_maker.specs.Lines.{word_digits}

pub word_digits-encoded : (w : ℕ) → w < 2 ^ 32 → encode_lower (to_be_bytes w32 w) ≡ word_digits w
unfolding encode_with word_digits below
word_digits-encoded w small =
    let a : w / 16777216 % 256 / 16 ≡ w / 268435456 % 16 = omega arith in
    let b : w / 16777216 % 256 % 16 ≡ w / 16777216 % 16 = omega arith in
    let c : w / 65536 % 256 / 16 ≡ w / 1048576 % 16 = omega arith in
    let d : w / 65536 % 256 % 16 ≡ w / 65536 % 16 = omega arith in
    let e : w / 256 % 256 / 16 ≡ w / 4096 % 16 = omega arith in
    let f : w / 256 % 256 % 16 ≡ w / 256 % 16 = omega arith in
    let g : w % 256 / 16 ≡ w / 16 % 16 = omega arith in
    let h : w % 256 % 16 ≡ w / 1 % 16 = omega arith in
    rw (a, b, c, d, e, f, g, h) refl
