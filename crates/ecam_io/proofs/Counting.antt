-- What one more byte adds to the counts of some bytes.
use Rattle.std.proofs.Common.{◌≡◌, ℕ, ◌+◌, ◌-◌, ◌^◌, min, Bool, true, false, ◌&&◌, ◌==◌, List, [], ◌∷◌, ◌++◌, length, get_or, cond, refl, sym, ◌∙◌, ap, arith, length-append}
use Rattle.std.proofs.Math.Seq.{get_or-append_seam}
use Rattle.std.proofs.lemmas.List.Sums.{sum_by-append, sum_by-cons}
use Rattle.std.proofs.lemmas.Bool.Decides.{nat_tests}
use Rattle.std.specs.List.{slice_split, onto_first, count_by}
use Rattle.ecam_io.specs.declared.tally.Tally.{Tally}
use Rattle.ecam_io.specs.Outside.{Appended}
use Rattle.ecam_io.specs.Tally.{as_count, is_line_feed, lines_of, begins_block, is_fresh, IsTallyOf}

count_by-cons : {X : Type 0} (p : X → Bool) (x : X) (xs : List X) → count_by p (x ∷ xs) ≡ cond (p x) 1 0 + count_by p xs
count_by-cons p x xs = sum_by-cons (λ y. cond (p y) 1 0) x xs

-- ---- bytes from the front on, where the first of them begins a line or doesn't

-- how many begin a block
begun : Bool → List ℕ → ℕ
begun fresh [] = 0
begun fresh (b ∷ bs) = cond (fresh && b == 64) 1 0 + begun (is_line_feed b) bs

-- whether the next one begins a line
fresh_after : Bool → List ℕ → Bool
fresh_after fresh [] = fresh
fresh_after fresh (b ∷ bs) = fresh_after (is_line_feed b) bs

begun-more : (fresh : Bool) (bs : List ℕ) (b : ℕ) → begun fresh (bs ++ b ∷ []) ≡ begun fresh bs + cond (fresh_after fresh bs && b == 64) 1 0
unfolding begun fresh_after
begun-more fresh [] b = omega arith
begun-more fresh (x ∷ bs) b = let rest = begun-more (is_line_feed x) bs b in omega arith

fresh_after-cons : (x : ℕ) (bs : List ℕ) → fresh_after (is_line_feed x) bs ≡ is_line_feed (get_or (x ∷ bs) (length bs) 10)
unfolding fresh_after
fresh_after-cons x [] = refl
fresh_after-cons x (y ∷ bs) = fresh_after-cons y bs

fresh_after-all : (bs : List ℕ) → fresh_after true bs ≡ is_fresh bs
unfolding fresh_after is_fresh
fresh_after-all [] = refl
fresh_after-all (x ∷ bs) = fresh_after-cons x bs ∙ ap (λ n. is_line_feed (get_or (x ∷ bs) n 10)) (omega arith)

-- ---- the lines

-- how many of the lines after the first begin a block
later_blocks : List (List ℕ) → ℕ
later_blocks [] = 0
later_blocks (line ∷ lines) = count_by begins_block lines

onto-blocks : (b : ℕ) (lines : List (List ℕ)) → count_by begins_block (onto_first b lines) ≡ cond (b == 64) 1 0 + later_blocks lines
unfolding later_blocks
onto-blocks b [] = count_by-cons begins_block (b ∷ []) []
onto-blocks b (line ∷ lines) = count_by-cons begins_block (b ∷ line) lines

onto-later : (b : ℕ) (lines : List (List ℕ)) → later_blocks (onto_first b lines) ≡ later_blocks lines
unfolding later_blocks
onto-later b [] = refl
onto-later b (line ∷ lines) = refl

-- a line feed begins no block
feed-no_block : (b : ℕ) → (b == 10) ≡ true → (b == 64) ≡ false
feed-no_block b feed = grind (arith, nat_tests)

module _ (b : ℕ) (lines : List (List ℕ)) (bs : List ℕ) (all : count_by begins_block lines ≡ begun true bs) (later : later_blocks lines ≡ begun false bs) where
  blocks-cons : (feed : Bool) → (feed ≡ true → (b == 64) ≡ false)
      → count_by begins_block (cond feed ([] ∷ lines) (onto_first b lines)) ≡ cond (b == 64) 1 0 + begun feed bs
  blocks-cons true apart =
      let none : cond {A = ℕ} (b == 64) 1 0 ≡ 0 = ap (λ c. cond {A = ℕ} c 1 0) (apart refl) in
      let one : count_by begins_block ([] ∷ lines) ≡ 0 + count_by begins_block lines = count_by-cons begins_block [] lines in
      omega arith
  blocks-cons false apart = onto-blocks b lines ∙ ap (λ n. cond (b == 64) 1 0 + n) later

  later-cons : (feed : Bool) → later_blocks (cond feed ([] ∷ lines) (onto_first b lines)) ≡ begun feed bs
  unfolding later_blocks
  later-cons true = all
  later-cons false = onto-later b lines ∙ later

blocks-both : (bs : List ℕ) → (count_by begins_block (slice_split is_line_feed bs) ≡ begun true bs) × (later_blocks (slice_split is_line_feed bs) ≡ begun false bs)
unfolding begun later_blocks
blocks-both [] = (refl, refl)
blocks-both (b ∷ bs) =
    let rest = blocks-both bs in
    let lines = slice_split is_line_feed bs in
    (blocks-cons b lines bs rest.0 rest.1 (b == 10) (feed-no_block b), later-cons b lines bs rest.0 rest.1 (b == 10) ∙ omega arith)

-- ---- one more byte at the end

-- a count goes on by one or by none, and what it counts as well
counted : (added : Bool) (was now seen more : ℕ) → now ≡ min (was + cond added 1 0) (2 ^ 64 - 1) → more ≡ seen + cond added 1 0 → was ≡ as_count seen → now ≡ as_count more
counted true was now seen more now-is more-is was-is = omega arith
counted false was now seen more now-is more-is was-is = omega arith

module _ (bytes : List ℕ) (b : ℕ) where
  length-more : length (bytes ++ b ∷ []) ≡ length bytes + 1
  length-more = length-append bytes (b ∷ [])

  feeds-more : count_by is_line_feed (bytes ++ b ∷ []) ≡ count_by is_line_feed bytes + cond (b == 10) 1 0
  feeds-more = sum_by-append (λ y. cond (is_line_feed y) 1 0) bytes (b ∷ []) ∙ ap (λ n. count_by is_line_feed bytes + n) (count_by-cons is_line_feed b [] ∙ omega arith)

  blocks-more : count_by begins_block (lines_of (bytes ++ b ∷ [])) ≡ count_by begins_block (lines_of bytes) + cond (is_fresh bytes && b == 64) 1 0
  unfolding lines_of
  blocks-more =
      (blocks-both (bytes ++ b ∷ [])).0 ∙ begun-more true bytes b
      ∙ ap (λ n. n + cond (fresh_after true bytes && b == 64) 1 0) (sym (blocks-both bytes).0)
      ∙ ap (λ f. count_by begins_block (slice_split is_line_feed bytes) + cond (f && b == 64) 1 0) (fresh_after-all bytes)

  fresh-more : is_fresh (bytes ++ b ∷ []) ≡ (b == 10)
  unfolding is_fresh
  fresh-more =
      ap (λ n. is_line_feed (get_or (bytes ++ b ∷ []) n 10)) (omega (arith, length-more))
      ∙ ap is_line_feed (get_or-append_seam bytes b [] 10)

-- a tally with one more byte
pub tally-byte : (old new : Tally) (b : ℕ) → new.bytes ≡ min (old.bytes + 1) (2 ^ 64 - 1) → new.lines ≡ min (old.lines + cond (b == 10) 1 0) (2 ^ 64 - 1)
    → new.blocks ≡ min (old.blocks + cond (old.fresh && b == 64) 1 0) (2 ^ 64 - 1) → new.fresh ≡ (b == 10) → Appended IsTallyOf old new (b ∷ [])
tally-byte old new b bytes lines blocks fresh w was =
    let fresh_was : min (old.blocks + cond (old.fresh && b == 64) 1 0) (2 ^ 64 - 1) ≡ min (old.blocks + cond (is_fresh w && b == 64) 1 0) (2 ^ 64 - 1) =
    ap (λ f. min (old.blocks + cond (f && b == 64) 1 0) (2 ^ 64 - 1)) was.fresh in
    record {
      bytes = counted true old.bytes new.bytes (length w) (length (w ++ b ∷ [])) bytes (length-more w b) was.bytes;
      lines = counted (b == 10) old.lines new.lines (count_by is_line_feed w) (count_by is_line_feed (w ++ b ∷ [])) lines (feeds-more w b) was.lines;
      blocks = counted (is_fresh w && b == 64) old.blocks new.blocks (count_by begins_block (lines_of w)) (count_by begins_block (lines_of (w ++ b ∷ []))) (blocks ∙ fresh_was) (blocks-more w b) was.blocks;
      fresh = fresh ∙ sym (fresh-more w b);
    }

-- that of none
pub tally-none : (t : Tally) → t.bytes ≡ 0 → t.lines ≡ 0 → t.blocks ≡ 0 → t.fresh ≡ true → IsTallyOf t []
unfolding lines_of is_fresh
tally-none t bytes lines blocks fresh = record { bytes = bytes; lines = lines; blocks = blocks; fresh = fresh }
