-- The alerts that list an alert as secondary, as they are linked.
use Rattle.std.specs.Prelude.{◌≡◌, ℕ, zero, suc, ◌<◌, ◌≤◌, Bool, false, List, length, get_or, find, Option, Some, None, if◌then◌else◌}
use Rattle.ecam_spec.specs.Book.{Book}
use Rattle.ecam_spec.specs.Situation.{primaries}
use Rattle.alert_truth.specs.declared.listers.Link.{Link}
use Rattle.alert_truth.specs.declared.listers.Listers.{Listers}

-- past the end of the links stands one of alert 0 that leads nowhere
abbrev pub no_link : Link
no_link = record { lister = 0; rest = 0 }

-- the first linked alert that passes a test, from a place on: 0 is the end, and each link has the place behind its number. So
-- many links are gone through at most
unfoldable pub first_linked : (ℕ → Bool) → List Link → ℕ → ℕ → Option ℕ
first_linked test links zero place = None
first_linked test links (suc most) zero = None
first_linked test links (suc most) (suc i) =
    if test (get_or links i no_link).lister then Some (get_or links i no_link).lister else first_linked test links most (get_or links i no_link).rest

-- the first that lists alert a
abbrev pub first_lister : (ℕ → Bool) → Listers → ℕ → Option ℕ
first_lister test s a = first_linked test s.links.items (get_or s.heads.items a 0) (get_or s.heads.items a 0)

-- each of n alerts has its place among the links, and each link leads to an earlier one
pub record AreLinked (n : ℕ) (s : Listers) : Type 0 where
  pub heads : (a : ℕ) → a < n → get_or s.heads.items a 0 ≤ length s.links.items
  pub earlier : (i : ℕ) → i < length s.links.items → (get_or s.links.items i no_link).rest ≤ i
  pub listers : (i : ℕ) → i < length s.links.items → (get_or s.links.items i no_link).lister < n

-- they were linked for the book
pub record ListersFit (b : Book) (s : Listers) : Type 0 where
  pub places : length s.heads.items ≡ length b.alerts
  pub linked : AreLinked (length b.alerts) s
  pub first : (test : ℕ → Bool) (a : ℕ) → a < length b.alerts → first_lister test s a ≡ find test (primaries b a)

-- an alert's first active primary, where these flags tell which alerts are active
abbrev pub primary_of : Book → List Bool → ℕ → Option ℕ
primary_of b flags a = if get_or flags a false then find (λ p. get_or flags p false) (primaries b a) else None
