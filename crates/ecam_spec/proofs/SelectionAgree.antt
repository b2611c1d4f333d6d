-- Two panels that are used alike up to a moment have the same choice in it.
use Rattle.std.proofs.Common.{◌≡◌, ℕ, zero, suc, ◌-◌, ◌≤◌, true, false, not, ◌&&◌, Option, Some, None, refl, ◌∙◌, ap, leb, arith}
use Rattle.std.specs.Prelude.{is_some, nat_lt, if◌then◌else◌, option_and_then, ◌/◌, ◌%◌, min}
use Rattle.ecam_spec.specs.declared.kinds.Choice.TheVariants.{Page, Status}
use Rattle.ecam_spec.specs.Past.{Signal, last, moment_after, start_of, count_from}
use Rattle.ecam_spec.specs.Selection.{Panel, Selecting, each_page, one_page, the_status, the_clear, the_cancel, is_status, is_cancel, selecting_one, selecting, selects, selects_status, last_but_status, status_number, page_in_turn, choice_by, choice_from, choice}
use Rattle.ecam_spec.proofs.PastAgree.{last-below, count_up_to-below}
use Rattle.ecam_spec.proofs.ValueAgree.{at_last}

-- two panels have as many pages and are used alike up to moment k
pub record SamePanel (p q : Panel) (k : ℕ) : Type 0 where
  pub pages : p.pages ≡ q.pages
  pub all_held : (i : ℕ) → i ≤ k → p.all_held i ≡ q.all_held i
  pub page_called : (i : ℕ) → i ≤ k → p.page_called i ≡ q.page_called i
  pub sts : (i : ℕ) → i ≤ k → p.sts i ≡ q.sts i
  pub clr : (i : ℕ) → i ≤ k → p.clr i ≡ q.clr i
  pub cancels : (i : ℕ) → i ≤ k → p.cancels i ≡ q.cancels i

module _ (p q : Panel) (k : ℕ) (s : SamePanel p q k) where
  one-same : (o : Option ℕ) (i : ℕ) → i ≤ k → selecting_one p o i ≡ selecting_one q o i
  unfolding selecting_one
  one-same (Some a) i h = refl
  one-same None i h =
      ap (λ b. if b then Some the_status else (if p.clr i then Some the_clear else (if p.cancels i then Some the_cancel else None))) (s.sts i h)
      ∙ ap (λ b. if q.sts i then Some the_status else (if b then Some the_clear else (if p.cancels i then Some the_cancel else None))) (s.clr i h)
      ∙ ap (λ b. if q.sts i then Some the_status else (if q.clr i then Some the_clear else (if b then Some the_cancel else None))) (s.cancels i h)

  selecting-same : (i : ℕ) → i ≤ k → selecting p i ≡ selecting q i
  unfolding selecting
  selecting-same i h =
      ap (λ b. if b && nat_lt 0 p.pages then Some each_page else selecting_one p (p.page_called i) i) (s.all_held i h)
      ∙ ap (λ n. if q.all_held i && nat_lt 0 n then Some each_page else selecting_one p (p.page_called i) i) s.pages
      ∙ ap (λ o. if q.all_held i && nat_lt 0 q.pages then Some each_page else selecting_one p o i) (s.page_called i h)
      ∙ ap (λ o. if q.all_held i && nat_lt 0 q.pages then Some each_page else o) (one-same (q.page_called i) i h)

  base-same : (i : ℕ) → i ≤ k → last_but_status p i ≡ last_but_status q i
  unfolding last_but_status
  base-same i h =
      last-below (λ j. selects p j && not (selects_status p j)) (λ j. selects q j && not (selects_status q j)) i
      (λ j l. ap (λ o. is_some o && not (is_status o)) (selecting-same j (omega arith)))

  number-of : Signal → (ℕ → Option Selecting) → ℕ → Option ℕ → ℕ
  number-of t f i b = let presses = count_from (moment_after b) t i in if is_cancel (option_and_then f b) then presses else presses - 1

  asked : (i : ℕ) → i ≤ k → option_and_then (selecting p) (last_but_status q i) ≡ option_and_then (selecting q) (last_but_status q i)
  unfolding last_but_status
  asked i h = at_last (selecting p) (selecting q) (λ j. selects q j && not (selects_status q j)) i (λ j l. selecting-same j (omega arith))

  status-same : (i : ℕ) → i ≤ k → status_number p i ≡ status_number q i
  unfolding status_number count_from number-of
  status-same i h =
      ap (number-of (selects_status p) (selecting p) i) (base-same i h)
      ∙ ap (λ c. if is_cancel (option_and_then (selecting p) (last_but_status q i)) then c else c - 1)
      (count_up_to-below (λ j. leb (moment_after (last_but_status q i)) j && selects_status p j) (λ j. leb (moment_after (last_but_status q i)) j && selects_status q j) i
      (λ j l. ap (λ o. leb (moment_after (last_but_status q i)) j && is_status o) (selecting-same j (omega arith))))
      ∙ ap (λ o. if is_cancel o then count_from (moment_after (last_but_status q i)) (selects_status q) i else count_from (moment_after (last_but_status q i)) (selects_status q) i - 1) (asked i h)

  turn-same : (i : ℕ) → i ≤ k → page_in_turn p i ≡ page_in_turn q i
  unfolding page_in_turn start_of
  turn-same i h =
      ap (λ x. ((i - moment_after x) / 10) % p.pages) (last-below (λ j. not (p.all_held j)) (λ j. not (q.all_held j)) i (λ j l. ap not (s.all_held j (omega arith))))
      ∙ ap (λ n. ((i - start_of q.all_held i) / 10) % n) s.pages

  by-same : (o : Option Selecting) (m : ℕ) → m ≤ k → choice_by p o m ≡ choice_by q o m
  unfolding choice_by
  by-same None m h = refl
  by-same (Some each_page) m h = ap Page (turn-same m h)
  by-same (Some (one_page a)) m h = refl
  by-same (Some the_clear) m h = refl
  by-same (Some the_status) m h = ap (λ n. Status (min 4294967295 n)) (status-same m h)
  by-same (Some the_cancel) m h = ap (λ n. Status (min 4294967295 n)) (status-same m h)

  chosen-at : (m : ℕ) → m ≤ k → choice_from p (Some m) ≡ choice_from q (Some m)
  chosen-at m h = ap (λ o. choice_by p o m) (selecting-same m h) ∙ by-same (selecting q m) m h

  from-same : (r : Signal) (j : ℕ) → j ≤ k → choice_from p (last r j) ≡ choice_from q (last r j)
  unfolding last
  from-same r zero h =
      elim (r 0) as (λ b. choice_from p (elim b [ true ↦ Some 0 | false ↦ None ]) ≡ choice_from q (elim b [ true ↦ Some 0 | false ↦ None ])) [
        | true ↦ chosen-at 0 h
        | false ↦ refl
      ]
  from-same r (suc j) h =
      elim (r (suc j)) as (λ b. choice_from p (elim b [ true ↦ Some (suc j) | false ↦ last r j ]) ≡ choice_from q (elim b [ true ↦ Some (suc j) | false ↦ last r j ])) [
        | true ↦ chosen-at (suc j) h
        | false ↦ from-same r j (omega arith)
      ]

  pub choice-same : (i : ℕ) → i ≤ k → choice p i ≡ choice q i
  unfolding choice
  choice-same i h =
      ap (choice_from p) (last-below (selects p) (selects q) i (λ j l. ap is_some (selecting-same j (omega arith))))
      ∙ from-same (selects q) i h
