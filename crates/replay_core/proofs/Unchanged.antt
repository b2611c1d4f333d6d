-- Which computers fail has no bearing on what is written, while one stays up.
use Rattle.std.proofs.Common.{◌≡◌, ℕ, ◌+◌, true, false, not, Result, Ok, Err, None, List, [], ◌∷◌, ◌++◌, Option, Some, cond, refl, sym, ap, ◌∙◌, subst, arith}
use Rattle.std.specs.Prelude.{is_none, IfOk, count_by}
use Rattle.std.proofs.lemmas.List.Sums.{sum_by-cons}
use Rattle.ecam_io.specs.Outside.{Appended}
use Rattle.ecam_spec.specs.declared.kinds.Event.{Event}
use Rattle.ecam_spec.specs.declared.kinds.Event.TheVariants.{Word, Tick, Press, Release, Fail, Up, End}
use Rattle.ecam_spec.specs.Book.{Text, Book}
use Rattle.ecam_spec.specs.Computers.{without_failures}
use Rattle.ecam_spec.specs.History.{changes_computers}
use Rattle.ecam_spec.specs.Output.{end_line}
use Rattle.ecam_spec.specs.Record.{fault, events}
use Rattle.ecam_spec.specs.Replay.{is_tick, history_blocks, tick_count, reply}
use Rattle.ecam_spec.proofs.FailureLaws.{failures_change_nothing}
use Rattle.fwc_pair.specs.declared.pair.Pair.{Pair}
use Rattle.record_views.specs.Runs.{Runs}
use Rattle.replay_core.specs.Unaffected.{IsUnaffected, DropsFailures}
use Rattle.record_views.specs.declared.show.RunError.{RunError}

no-tick : (x : Event) → changes_computers x ≡ true → is_tick x ≡ false
no-tick (Word b w) e = refl
no-tick Tick e = sym e
no-tick (Press k) e = refl
no-tick (Release k) e = refl
no-tick (Fail n) e = refl
no-tick (Up n) e = refl
no-tick End e = refl

same_ticks : (h : List Event) → tick_count (without_failures h) ≡ tick_count h
unfolding tick_count
same_ticks [] = refl
same_ticks (x ∷ h) =
    (elim (changes_computers x) as (λ c. changes_computers x ≡ c → count_by is_tick (cond (not c) (x ∷ without_failures h) (without_failures h)) ≡ cond (is_tick x) 1 0 + count_by is_tick h) [
      | true ↦ λ e. same_ticks h ∙ sym (ap (λ t. cond t 1 0 + count_by is_tick h) (no-tick x e) ∙ omega arith)
      | false ↦ λ e. sum_by-cons (λ y. cond (is_tick y) 1 0) x (without_failures h) ∙ ap (λ n. cond (is_tick x) 1 0 + n) (same_ticks h)
    ]) refl
    ∙ sym (sum_by-cons (λ y. cond (is_tick y) 1 0) x h)

module _ (b : Book) where
  reply-whole : (text : Text) (limit : ℕ) → fault text limit ≡ None
      → reply b text limit ≡ history_blocks b (events text limit) ++ end_line (tick_count (events text limit))
  unfolding reply
  reply-whole text limit none =
      let h = events text limit in
      ap (λ o. history_blocks b h ++ cond (is_none o) (end_line (tick_count h)) []) none

  same-reply : (text bare : Text) (limit : ℕ) → fault text limit ≡ None → IsUnaffected b (events text limit) → DropsFailures text bare limit
      → reply b text limit ≡ reply b bare limit
  same-reply text bare limit none un drops =
      let h = events text limit in
      reply-whole text limit none
      ∙ ap (λ w. w ++ end_line (tick_count h)) (sym (failures_change_nothing b un.names_none h un.stays_up))
      ∙ ap (λ t. history_blocks b (without_failures h) ++ end_line t) (sym (same_ticks h))
      ∙ sym (reply-whole bare limit drops.faultless ∙ ap (λ e. history_blocks b e ++ end_line (tick_count e)) drops.others)

  module _ {S : Type 0} (agrees : S → List ℕ → Type 0) (old new : S) (pair : Pair) (limit : ℕ) (left rest : Option (List ℕ)) where
    pub unaffected : (result : Result ℕ RunError) → Runs b agrees old new pair limit left rest result
        → IfOk result (λ n. (text bare : List ℕ) → left ≡ Some text → IsUnaffected b (events text limit) → DropsFailures text bare limit → Appended agrees old new (reply b bare limit))
    unfolding reply
    unaffected (Ok n) runs = λ text bare is un drops.
        let has = runs text is in
        subst (Appended agrees old new) (same-reply text bare limit has.faultless un drops) has.written
    unaffected (Err e) runs = tt
