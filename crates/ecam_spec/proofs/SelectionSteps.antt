-- One more moment of the selection: what is chosen, and which status page STS shows next.
use Rattle.std.proofs.Common.{◌≡◌, ℕ, zero, suc, ◌+◌, ◌-◌, ◌<◌, ◌≤◌, min, Bool, true, false, not, ◌&&◌, Option, Some, None, cond, leb, refl, sym, ◌∙◌, ap, arith}
use Rattle.std.proofs.lemmas.Bool.{le-leb, lt-leb}
use Rattle.std.specs.Prelude.{is_some}
use Rattle.std.specs.Option.{option_and_then}
use Rattle.ecam_spec.specs.declared.kinds.Choice.{Choice}
use Rattle.ecam_spec.specs.declared.kinds.Choice.TheVariants.{Auto, Page, Status}
use Rattle.ecam_spec.specs.Past.{Signal, last, moment_after, previously, count_from}
use Rattle.ecam_spec.specs.Selection.{Panel, Selecting, each_page, one_page, the_status, the_clear, the_cancel, is_status, is_cancel, selecting, selects, selects_status, last_but_status, status_number, page_in_turn, choice_by, choice_from, choice}
use Rattle.ecam_spec.specs.Runs.{choice_before, status_ahead}
use Rattle.ecam_spec.proofs.PastSteps.{last-zero, last-suc, last-upto, count_up_to-zero, count_up_to-suc}

-- the last moment before now with q, and in how many moments from j up to the one before now q holds
abbrev pub last_before : Signal → ℕ → Option ℕ
last_before q = previously (last q)

abbrev pub count_before : ℕ → Signal → ℕ → ℕ
count_before j q zero = 0
count_before j q (suc k) = count_from j q k

pub last-now : (q : Signal) (k : ℕ) → last q k ≡ cond (q k) (Some k) (last_before q k)
last-now q zero = last-zero q
last-now q (suc k) = last-suc q k

pub count_from_now : (j : ℕ) (q : Signal) (k : ℕ) → count_from j q k ≡ cond (leb j k && q k) (count_before j q k + 1) (count_before j q k)
unfolding count_from
count_from_now j q zero = count_up_to-zero (λ i. leb j i && q i)
count_from_now j q (suc k) = count_up_to-suc (λ i. leb j i && q i) k

pub count_from_step : (j : ℕ) (q : Signal) (k : ℕ) → count_from j q (suc k) ≡ cond (leb j (suc k) && q (suc k)) (count_from j q k + 1) (count_from j q k)
count_from_step j q k = count_from_now j q (suc k)

-- from a moment after now on there is none
pub count_from_after : (j k : ℕ) (q : Signal) → k < j → count_from j q k ≡ 0
count_from_after j zero q after = count_from_now j q 0 ∙ ap (λ b. cond (b && q 0) (0 + 1) 0) (lt-leb j 0 after)
count_from_after j (suc k) q after =
    count_from_now j q (suc k) ∙ ap (λ b. cond (b && q (suc k)) (count_from j q k + 1) (count_from j q k)) (lt-leb j (suc k) after)
    ∙ count_from_after j k q (omega arith)

last_before-le : (q : Signal) (k : ℕ) → moment_after (last_before q k) ≤ k
last_before-le q zero = omega arith
last_before-le q (suc k) = last-upto q k

module _ (p : Panel) where
  -- the moment selects, and not by STS
  abbrev other : Signal
  other k = selects p k && not (selects_status p k)

  abbrev by_cancel : Option ℕ → ℕ
  by_cancel b = cond (is_cancel (option_and_then (selecting p) b)) 1 0

  ahead-before : (k : ℕ) → status_ahead p k ≡ count_before (moment_after (last_before other k)) (selects_status p) k + by_cancel (last_before other k)
  unfolding last_but_status
  ahead-before zero = refl
  ahead-before (suc k) = refl

  ahead-now : (k : ℕ) → status_ahead p (suc k) ≡ count_from (moment_after (last other k)) (selects_status p) k + by_cancel (last other k)
  unfolding last_but_status
  ahead-now k = refl

  -- another than STS
  anew : (k : ℕ) → other k ≡ true → status_ahead p (suc k) ≡ cond (is_cancel (selecting p k)) 1 0
  anew k o =
      let here : last other k ≡ Some k = last-now other k ∙ ap (λ b. cond b (Some k) (last_before other k)) o in
      ahead-now k
      ∙ ap (λ b. count_from (moment_after b) (selects_status p) k + by_cancel b) here
      ∙ ap (λ n. n + by_cancel (Some k)) (count_from_after (suc k) k (selects_status p) (omega arith))
      ∙ (let e : 0 + by_cancel (Some k) ≡ by_cancel (Some k) = omega arith in e)

  -- STS, or nothing
  goes_on : (k : ℕ) → other k ≡ false → status_ahead p (suc k) ≡ cond (selects_status p k) (status_ahead p k + 1) (status_ahead p k)
  goes_on k o =
      let b = last_before other k in
      let n = count_before (moment_after b) (selects_status p) k in
      let same : last other k ≡ b = last-now other k ∙ ap (λ t. cond t (Some k) b) o in
      ahead-now k
      ∙ ap (λ b. count_from (moment_after b) (selects_status p) k + by_cancel b) same
      ∙ ap (λ m. m + by_cancel b) (count_from_now (moment_after b) (selects_status p) k ∙ ap (λ t. cond (t && selects_status p k) (n + 1) n) (le-leb (moment_after b) k (last_before-le other k)))
      ∙ sums (selects_status p k) n (by_cancel b)
      ∙ ap (λ m. cond (selects_status p k) (m + 1) m) (sym (ahead-before k)) where
        sums : (t : Bool) (n m : ℕ) → cond t (n + 1) n + m ≡ cond t (n + m + 1) (n + m)
        sums true n m = omega arith
        sums false n m = refl

  -- what STS shows next, after a moment that selects this
  abbrev pub after : Option Selecting → ℕ → ℕ
  after None n = n
  after (Some each_page) n = 0
  after (Some (one_page i)) n = 0
  after (Some the_status) n = n + 1
  after (Some the_clear) n = 0
  after (Some the_cancel) n = 1

  abbrev is_other : Option Selecting → Bool
  is_other o = is_some o && not (is_status o)

  -- what STS shows next, by what the moment selects
  pub ahead_step : (k : ℕ) (s : Option Selecting) → selecting p k ≡ s → status_ahead p (suc k) ≡ after s (status_ahead p k)
  ahead_step k None e = goes_on k (ap is_other e) ∙ ap (λ o. cond (is_status o) (status_ahead p k + 1) (status_ahead p k)) e
  ahead_step k (Some the_status) e = goes_on k (ap is_other e) ∙ ap (λ o. cond (is_status o) (status_ahead p k + 1) (status_ahead p k)) e
  ahead_step k (Some each_page) e = anew k (ap is_other e) ∙ ap (λ o. cond (is_cancel o) 1 0) e
  ahead_step k (Some (one_page i)) e = anew k (ap is_other e) ∙ ap (λ o. cond (is_cancel o) 1 0) e
  ahead_step k (Some the_clear) e = anew k (ap is_other e) ∙ ap (λ o. cond (is_cancel o) 1 0) e
  ahead_step k (Some the_cancel) e = anew k (ap is_other e) ∙ ap (λ o. cond (is_cancel o) 1 0) e

  -- the page that is shown is the one before it
  pub number_ahead : (k : ℕ) → status_number p k ≡ status_ahead p (suc k) - 1
  unfolding status_number
  number_ahead k = less (is_cancel (option_and_then (selecting p) (last_but_status p k))) (count_from (moment_after (last_but_status p k)) (selects_status p) k) where
    less : (b : Bool) (n : ℕ) → cond b n (n - 1) ≡ n + cond b 1 0 - 1
    less true n = omega arith
    less false n = omega arith

  number-from : (k n : ℕ) → status_ahead p (suc k) ≡ n → status_number p k ≡ n - 1
  number-from k n e = number_ahead k ∙ ap (λ m. m - 1) e

  -- a moment that selects is the last one that does
  pub chosen_here : (k : ℕ) (s : Selecting) → selecting p k ≡ Some s → choice p k ≡ choice_by p (Some s) k
  unfolding choice
  chosen_here k s e =
      ap (choice_from p) (last-now (selects p) k ∙ ap (λ o. cond (is_some o) (Some k) (last_before (selects p) k)) e)
      ∙ ap (λ o. choice_by p o k) e

  -- one that doesn't leaves the choice
  pub chosen-before : (k : ℕ) → selecting p k ≡ None → choice p k ≡ choice_before p k
  unfolding choice
  chosen-before zero e = ap (choice_from p) (last-zero (selects p) ∙ ap (λ o. cond (is_some o) (Some 0) None) e)
  chosen-before (suc k) e =
      ap (choice_from p) (last-suc (selects p) k ∙ ap (λ o. cond (is_some o) (Some (suc k)) (last (selects p) k)) e)

  abbrev pub chosen : ℕ → Option Selecting → Choice
  chosen k None = choice_before p k
  chosen k (Some each_page) = Page (page_in_turn p k)
  chosen k (Some (one_page i)) = Page i
  chosen k (Some the_status) = Status (min 4294967295 (status_ahead p k))
  chosen k (Some the_clear) = Auto
  chosen k (Some the_cancel) = Status 0

  -- the choice, by what the moment selects
  pub choice_step : (k : ℕ) (s : Option Selecting) → selecting p k ≡ s → choice p k ≡ chosen k s
  unfolding choice_by
  choice_step k None e = chosen-before k e
  choice_step k (Some each_page) e = chosen_here k each_page e
  choice_step k (Some (one_page i)) e = chosen_here k (one_page i) e
  choice_step k (Some the_clear) e = chosen_here k the_clear e
  choice_step k (Some the_status) e =
      chosen_here k the_status e
      ∙ ap (λ n. Status (min 4294967295 n)) (number-from k (status_ahead p k + 1) (ahead_step k (Some the_status) e) ∙ (let h : status_ahead p k + 1 - 1 ≡ status_ahead p k = omega arith in h))
  choice_step k (Some the_cancel) e =
      chosen_here k the_cancel e
      ∙ ap (λ n. Status (min 4294967295 n)) (number-from k 1 (ahead_step k (Some the_cancel) e))

  -- a moment that selects nothing leaves the choice of the one before
  pub choice_kept : (k : ℕ) → selecting p (suc k) ≡ None → choice p (suc k) ≡ choice p k
  choice_kept k e = choice_step (suc k) None e
