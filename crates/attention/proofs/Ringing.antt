-- The latest onset of those alerts that are marked.
use Rattle.std.proofs.Common.{◌≡◌, ℕ, suc, ◌+◌, ◌<◌, ◌≤◌, max, Bool, true, false, ◌&&◌, ◌||◌, nat_le, List, length, get_or, refl, sym, ◌∙◌, ap, arith}
use Rattle.std.specs.Prelude.{is_some}
use Rattle.std.specs.List.{list_any}
use Rattle.std.proofs.lemmas.Option.{slice_get-get_or}
use Rattle.std.proofs.lemmas.Grind.{common_steps}
use Rattle.ecam_spec.specs.Places.{below}
use Rattle.wakes.specs.Marks.{is_marked}
use Rattle.attention.specs.declared.watch.Watch.{Watch}
use Rattle.attention.specs.Watches.{opened, rings_by}
use Rattle.attention.proofs.Passing.{is_some-find}
use Rattle.attention.proofs.Below.{none-below, any-more, any-skip}

-- what rings by the later of two onsets
pub rings-later : (j m n : ℕ) → nat_le j (max m n + 4) ≡ (nat_le j (m + 4) || nat_le j (n + 4))
rings-later j m n = grind (arith, common_steps)

module _ (marks : List ℕ) (watches : List Watch) (j : ℕ) where
  abbrev pub rings : ℕ → Bool
  rings i = is_marked marks i && rings_by j watches i

  pub rings-none : (n : ℕ) → ((i : ℕ) → 0 ≤ i → i < n → is_marked marks i ≡ false) → list_any rings (below n) ≡ false
  rings-none n none =
      sym (is_some-find rings (below n))
      ∙ ap is_some (none-below rings n (λ i h. ap (λ b. b && rings_by j watches i) (none i (omega arith) h)))

  -- one that is marked, and those up to the next
  pub rings-more : (i next m : ℕ) (d : Watch) → is_marked marks i ≡ true → i < length watches → m ≡ opened (get_or watches i d).onset
      → i + 1 ≤ next → ((n : ℕ) → i + 1 ≤ n → n < next → is_marked marks n ≡ false)
      → list_any rings (below next) ≡ (list_any rings (below i) || nat_le j (m + 4))
  rings-more i next m d here within is order none =
      any-skip rings (suc i) next (omega arith) (λ n from h. ap (λ b. b && rings_by j watches n) (none n (omega arith) h))
      ∙ any-more rings i
      ∙ ap (λ b. list_any rings (below i) || b) (rw (here, slice_get-get_or watches i d within, is) refl)
