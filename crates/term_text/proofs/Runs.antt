-- How many bytes at the front pass a test, in the words of the library.
use Rattle.std.proofs.Common.{◌≡◌, ℕ, suc, ◌+◌, ◌<◌, ◌≤◌, Bool, true, false, List, [], ◌∷◌, length, drop, get_or, refl, cond, arith}
use Rattle.std.proofs.lemmas.List.Sums.{prefix_len-drop_no, prefix_len-drop_all}
use Rattle.std.specs.List.{prefix_len}
use Rattle.ecam_spec.specs.Token.{run_length}

one_more : (b : Bool) (m n : ℕ) → m ≡ n → elim b as (λ v. ℕ) [ true ↦ suc m | false ↦ 0 ] ≡ cond b (1 + n) 0
one_more true m n e = omega arith
one_more false m n e = refl

pub run_is : (p : ℕ → Bool) (xs : List ℕ) → run_length p xs ≡ prefix_len p xs
run_is p [] = refl
run_is p (x ∷ xs) = one_more (p x) (run_length p xs) (prefix_len p xs) (run_is p xs)

module _ (p : ℕ → Bool) (xs : List ℕ) (i : ℕ) where
  -- so far each byte passes
  abbrev pub Passes : Type 0
  Passes = prefix_len p xs ≡ i + prefix_len p (drop i xs)

module _ (p : ℕ → Bool) (xs : List ℕ) (i : ℕ) (so_far : Passes p xs i) where
  -- the byte at a place is the first that doesn't pass
  pub run_stops : i < length xs → p (get_or xs i 0) ≡ false → i ≡ run_length p xs
  run_stops within fails = omega (arith, so_far, run_is p xs, prefix_len-drop_no p xs i 0 within fails)

  -- all bytes pass
  pub run_ends : i ≤ length xs → length xs ≤ i → length xs ≡ run_length p xs
  run_ends within ends = omega (arith, so_far, run_is p xs, prefix_len-drop_all p xs i ends)
