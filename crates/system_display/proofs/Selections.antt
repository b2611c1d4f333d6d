-- One more moment of the selector: the selection that it keeps.
use Rattle.std.proofs.Common.{◌≡◌, ℕ, suc, ◌+◌, min, Bool, true, false, ◌&&◌, Option, Some, None, cond, ltb, refl, sym, ◌∙◌, ap, arith}
use Rattle.std.specs.Option.{option_or}
use Rattle.ecam_spec.specs.declared.kinds.Choice.TheVariants.{Page, Status}
use Rattle.ecam_spec.specs.Runs.{status_ahead}
use Rattle.ecam_spec.specs.Selection.{Panel, Selecting, each_page, one_page, the_status, the_clear, the_cancel, selecting_one, selecting, page_in_turn, last_number}
use Rattle.ecam_spec.proofs.SelectionSteps.{after, ahead_step, chosen, choice_step}
use Rattle.system_display.specs.declared.selection.Selection.{Selection}
use Rattle.system_display.specs.Selecting.{page_of_all, IsSelection}

-- a selection by what the moment selects
selection-by : (p : Panel) (k : ℕ) (s : Option Selecting) (new : Selection) → selecting p k ≡ s
    → new.choice ≡ chosen p k s → new.next_status ≡ min last_number (after p s (status_ahead p k)) → IsSelection p (suc k) new
selection-by p k s new e choice number = record {
  choice = choice ∙ sym (choice_step p k s e);
  next_status = number ∙ ap (min last_number) (sym (ahead_step p k s e));
}

module _ (p : Panel) (k : ℕ) where
  by_all : Bool → Option Selecting
  by_all b = cond b (Some each_page) (selecting_one p (p.page_called k) k)

  -- ALL, or a page's own key
  pub page-shown : (new : Selection) (i : ℕ) → option_or (page_of_all p k) (p.page_called k) ≡ Some i → new.choice ≡ Page i → new.next_status ≡ 0 → IsSelection p (suc k) new
  unfolding selecting selecting_one
  page-shown new i e choice number = first (p.all_held k && ltb 0 p.pages) refl where
    first : (b : Bool) → (p.all_held k && ltb 0 p.pages) ≡ b → IsSelection p (suc k) new
    first true held =
        let turn : page_in_turn p k ≡ i = (let h = rw held at e in cc) in
        selection-by p k (Some each_page) new (ap (λ b. cond b (Some each_page) (selecting_one p (p.page_called k) k)) held) (choice ∙ ap Page (sym turn)) number
    first false held =
        let called : p.page_called k ≡ Some i = rw held at e in
        selection-by p k (Some (one_page i)) new
        (ap (λ b. cond b (Some each_page) (selecting_one p (p.page_called k) k)) held ∙ ap (λ o. selecting_one p o k) called) choice number

  -- neither
  pub none-shown : option_or (page_of_all p k) (p.page_called k) ≡ None → selecting p k ≡ selecting_one p None k
  unfolding selecting
  none-shown e = first (p.all_held k && ltb 0 p.pages) refl where
    first : (b : Bool) → (p.all_held k && ltb 0 p.pages) ≡ b → selecting p k ≡ selecting_one p None k
    first true held = let h = rw held at e in cc
    first false held =
        let called : p.page_called k ≡ None = rw held at e in
        ap (λ b. cond b (Some each_page) (selecting_one p (p.page_called k) k)) held ∙ ap (λ o. selecting_one p o k) called

  -- the other keys
  module _ (none : selecting p k ≡ selecting_one p None k) where
    by-keys : (a b c : Bool) → p.sts k ≡ a → p.clr k ≡ b → p.cancels k ≡ c
        → selecting p k ≡ cond a (Some the_status) (cond b (Some the_clear) (cond c (Some the_cancel) None))
    unfolding selecting_one
    by-keys a b c sts clr cancels = none ∙ (rw (sts, clr, cancels) refl)

    pub status-shown : (old new : Selection) → IsSelection p k old → p.sts k ≡ true
        → new.choice ≡ Status old.next_status → new.next_status ≡ min last_number (old.next_status + 1) → IsSelection p (suc k) new
    status-shown old new is sts choice number =
        selection-by p k (Some the_status) new (by-keys true (p.clr k) (p.cancels k) sts refl refl)
        (choice ∙ ap Status is.next_status) (number ∙ ap (λ n. min last_number (n + 1)) is.next_status ∙ (let h : min last_number (min last_number (status_ahead p k) + 1) ≡ min last_number (status_ahead p k + 1) = omega arith in h))

    pub cleared : (new : Selection) → p.sts k ≡ false → p.clr k ≡ true → IsSelection p 0 new → IsSelection p (suc k) new
    cleared new sts clr is =
        selection-by p k (Some the_clear) new (by-keys false true (p.cancels k) sts clr refl) is.choice is.next_status

    pub cancel-shown : (new : Selection) → p.sts k ≡ false → p.clr k ≡ false → p.cancels k ≡ true
        → new.choice ≡ Status 0 → new.next_status ≡ 1 → IsSelection p (suc k) new
    cancel-shown new sts clr cancels choice number =
        selection-by p k (Some the_cancel) new (by-keys false false true sts clr cancels) choice number

    pub same-shown : (old : Selection) → p.sts k ≡ false → p.clr k ≡ false → p.cancels k ≡ false → IsSelection p k old → IsSelection p (suc k) old
    same-shown old sts clr cancels is =
        selection-by p k None old (by-keys false false false sts clr cancels) is.choice is.next_status
