-- Which alert has which line.
use Rattle.std.proofs.Common.{◌≡◌, ◌≢◌, ℕ, zero, suc, ◌+◌, ◌<◌, ◌≤◌, Bool, true, false, List, [], ◌∷◌, length, take, get_or, set, slice_get, Some, inl, inr, refl, sym, ap, subst, ◌∙◌, arith, length-append}
use Rattle.std.proofs.lemmas.Bool.{cases_lt}
use Rattle.std.proofs.lemmas.List.{take_all, get_or-set_other}
use Rattle.std.proofs.lemmas.Option.{slice_get_within, slice_get-get_or}
use Rattle.ecam_spec.specs.Book.{Alert, Line, Book}
use Rattle.ecam_spec.specs.BookTerms.{lines_of}
use Rattle.ecam_spec.specs.Situation.{alert_at, no_alert}
use Rattle.book_model.proofs.Getting.{get-piece}
use Rattle.fwc_lane.specs.LineFlags.{lines_before, HasLine, KeepsShown}

-- the more alerts, the more lines
pub before-more : (xs : List Alert) (a c : ℕ) → a ≤ c → length (lines_of (take a xs)) ≤ length (lines_of (take c xs))
before-more [] zero c le = omega arith
before-more [] (suc a) zero le = absurd (omega arith)
before-more [] (suc a) (suc c) le = omega arith
before-more (x ∷ xs) zero c le = omega arith
before-more (x ∷ xs) (suc a) zero le = absurd (omega arith)
before-more (x ∷ xs) (suc a) (suc c) le =
    omega (arith, length-append x.lines (lines_of (take a xs)), length-append x.lines (lines_of (take c xs)), before-more xs a c (omega arith))

-- one alert more
pub before-next : (xs : List Alert) (a : ℕ) (d : Alert) → a < length xs → length (lines_of (take a xs)) + length (get_or xs a d).lines ≡ length (lines_of (take (suc a) xs))
before-next [] a d lt = absurd (omega arith)
before-next (x ∷ xs) zero d lt = omega (arith, length-append x.lines [])
before-next (x ∷ xs) (suc a) d lt =
    omega (arith, length-append x.lines (lines_of (take a xs)), length-append x.lines (lines_of (take (suc a) xs)), before-next xs a d (omega arith))

module _ (b : Book) where
  -- the alerts have all lines
  pub before-all : lines_before b (length b.alerts) ≡ length (lines_of b.alerts)
  before-all = ap (λ (as' : List Alert). length (lines_of as')) (take_all (length b.alerts) b.alerts (let le : length b.alerts ≤ length b.alerts = omega arith in le))

  -- no line is two alerts'
  pub one-owner : (a c n : ℕ) → HasLine b a n → HasLine b c n → a ≡ c
  one-owner a c n own other =
      elim (cases_lt a c) [
        | inl lt ↦ absurd (let w : ⊥ = omega (arith, before-more b.alerts (suc a) c (omega (arith, lt)), own.to, other.from) in w)
        | inr le ↦
            elim (cases_lt c a) [
              | inl gt ↦ absurd (let w : ⊥ = omega (arith, before-more b.alerts (suc c) a (omega (arith, gt)), other.to, own.from) in w)
              | inr ge ↦ omega (arith, le, ge)
            ]
      ]

  module _ (a i : ℕ) (l : Line) (lt : a < length b.alerts) (is : slice_get (alert_at b a).lines i ≡ Some l) where
    -- line i of an alert among all
    pub own-place : slice_get (lines_of b.alerts) (lines_before b a + i) ≡ Some l
    own-place = get-piece (λ (x : Alert). x.lines) b.alerts a i _ (alert_at b a) l refl (slice_get-get_or b.alerts a no_alert lt) is

    pub own-line : HasLine b a (lines_before b a + i)
    own-line = record {
      from = omega arith;
      to = omega (arith, before-next b.alerts a no_alert lt, slice_get_within (alert_at b a).lines i l is);
    }

  -- where the flag of a line turned whose alert is hidden, each line of one that is shown has the flag that it had
  pub keeps-hidden : (shown old new : List Bool) (a n : ℕ) (on : Bool) → HasLine b a n → get_or shown a false ≡ false → new ≡ set old n on → KeepsShown b shown old new
  keeps-hidden shown old new a n on has off is c i lit own =
      let other : i ≢ n = λ e.
      let same : a ≡ c = one-owner a c n has (subst (HasLine b c) e own) in
      let clash : true ≡ false = sym lit ∙ ap (λ x. get_or shown x false) (sym same) ∙ off in
      absurd (let w : ⊥ = cc in w) in
      ap (λ fs. get_or fs i false) is ∙ get_or-set_other old n i on false other
