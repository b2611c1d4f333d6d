-- The draws: numbers of 64 bits, each made from the one before by three shifts (Marsaglia's
-- xorshift generator with the shifts 13, 7 and 17).
use Rattle.std.specs.Prelude.{ℕ, zero, suc, ◌*◌, ◌/◌, ◌%◌, ◌^◌, ◌==◌, bit_xor, if◌then◌else◌}

-- the bits moved left by so many places, of which the lowest 64 are kept, and moved right
abbrev pub moved_left : ℕ → ℕ → ℕ
moved_left n places = n * 2 ^ places % 2 ^ 64

abbrev pub moved_right : ℕ → ℕ → ℕ
moved_right n places = n / 2 ^ places

-- the draw that follows a draw
unfoldable pub draw_after : ℕ → ℕ
draw_after s =
    let a = bit_xor s (moved_left s 13) in
    let b = bit_xor a (moved_right a 7) in
    bit_xor b (moved_left b 17)

-- the draw number n after a draw, which itself is number 0
unfoldable pub draw : ℕ → ℕ → ℕ
draw s zero = s
draw s (suc n) = draw_after (draw s n)

-- what stands before the first draw: the seed, or 1 where the seed is 0
unfoldable pub start_of : ℕ → ℕ
start_of seed = if seed == 0 then 1 else seed
