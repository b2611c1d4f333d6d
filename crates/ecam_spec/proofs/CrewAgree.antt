-- Crews that see and do the same up to a moment are shown the same in it.
use Rattle.std.proofs.Common.{◌≡◌, ℕ, zero, suc, ◌<◌, ◌≤◌, true, false, not, ◌&&◌, ◌||◌, inl, inr, [], ◌∷◌, sym, ◌∙◌, ap, arith}
use Rattle.std.specs.Prelude.{filter}
use Rattle.std.proofs.Math.Nat.{le-suc_iff}
use Rattle.std.proofs.lemmas.List.Elements.{filter_agree}
use Rattle.ecam_spec.specs.Past.{since, historically_from, once_within}
use Rattle.ecam_spec.specs.Crew.{Cockpit, Shown, target, is_alert, struck, cleared, long_recall, cancelled, recalled, is_shown, shown_after, shown, shows_nothing, normal}
use Rattle.ecam_spec.proofs.PastAgree.{since-below, historically_from-below, historically_within-below, once_within-below}
use Rattle.ecam_spec.proofs.CrewLaws.{target-below, cleared-below, cancelled-below, shown_after-below, shown_closes}

-- two crews see and do the same up to moment k
pub record SameCockpit (c d : Cockpit) (k : ℕ) : Type 0 where
  pub order : c.order ≡ d.order
  pub is_caution : (a : ℕ) → c.is_caution a ≡ d.is_caution a
  pub up : (a i : ℕ) → i ≤ k → c.up a i ≡ d.up a i
  pub waiting : (a i : ℕ) → i ≤ k → c.waiting a i ≡ d.waiting a i
  pub clr : (i : ℕ) → i ≤ k → c.clr i ≡ d.clr i
  pub rcl : (i : ℕ) → i ≤ k → c.rcl i ≡ d.rcl i
  pub emer : (i : ℕ) → i ≤ k → c.emer i ≡ d.emer i
  pub rcl_held : (i : ℕ) → i ≤ k → c.rcl_held i ≡ d.rcl_held i
  pub enters_one : (i : ℕ) → i ≤ k → c.enters_one i ≡ d.enters_one i

module _ (c d : Cockpit) (k : ℕ) (s : SameCockpit c d k) where
  struck-same : (t : Shown) (a i : ℕ) → i ≤ k → struck c t a i ≡ struck d t a i
  unfolding struck
  struck-same t a i h = ap (λ b. b && is_alert a (target t i)) (s.clr i h)

  pub cleared-same : (t : Shown) (a i : ℕ) → i ≤ k → cleared c t a i ≡ cleared d t a i
  unfolding cleared
  cleared-same t a i h =
      since-below (λ j. struck c t a j && c.up a j) (λ j. struck d t a j && d.up a j) (λ j. c.up a j && not (c.rcl j)) (λ j. d.up a j && not (d.rcl j)) i
      (λ j l. ap (λ b. b && c.up a j) (struck-same t a j (omega arith)) ∙ ap (λ b. struck d t a j && b) (s.up a j (omega arith)))
      (λ j l. ap (λ b. b && not (c.rcl j)) (s.up a j (omega arith)) ∙ ap (λ b. d.up a j && not b) (s.rcl j (omega arith)))

  long_recall-same : (i : ℕ) → i ≤ k → long_recall c i ≡ long_recall d i
  unfolding long_recall
  long_recall-same i h = historically_within-below 29 c.rcl_held d.rcl_held i (λ j l. s.rcl_held j (omega arith))

  pub cancelled-same : (t : Shown) (a i : ℕ) → i ≤ k → cancelled c t a i ≡ cancelled d t a i
  unfolding cancelled
  cancelled-same t a i h =
      ap (λ b. b && since (λ j. c.emer j && is_alert a (target t j)) (λ j. not (long_recall c j || c.enters_one j)) i) (s.is_caution a)
      ∙ ap (λ b. d.is_caution a && b)
      (since-below (λ j. c.emer j && is_alert a (target t j)) (λ j. d.emer j && is_alert a (target t j))
      (λ j. not (long_recall c j || c.enters_one j)) (λ j. not (long_recall d j || d.enters_one j)) i
      (λ j l. ap (λ b. b && is_alert a (target t j)) (s.emer j (omega arith)))
      (λ j l. ap (λ b. not (b || c.enters_one j)) (long_recall-same j (omega arith)) ∙ ap (λ b. not (long_recall d j || b)) (s.enters_one j (omega arith))))

  waits-same : (t : Shown) (a i : ℕ) → i ≤ k → (c.waiting a i && not (struck c t a i)) ≡ (d.waiting a i && not (struck d t a i))
  waits-same t a i h =
      ap (λ b. b && not (struck c t a i)) (s.waiting a i h) ∙ ap (λ b. d.waiting a i && not b) (struck-same t a i h)

  pub recalled-same : (t : Shown) (a i : ℕ) → i ≤ k → recalled c t a i ≡ recalled d t a i
  unfolding recalled
  recalled-same t a i h =
      since-below (λ j. c.rcl j && (c.waiting a j && not (struck c t a j))) (λ j. d.rcl j && (d.waiting a j && not (struck d t a j)))
      (λ j. c.waiting a j && not (struck c t a j)) (λ j. d.waiting a j && not (struck d t a j)) i
      (λ j l. ap (λ b. b && (c.waiting a j && not (struck c t a j))) (s.rcl j (omega arith)) ∙ ap (λ b. d.rcl j && b) (waits-same t a j (omega arith)))
      (λ j l. waits-same t a j (omega arith))

  is_shown-same : (t : Shown) (a i : ℕ) → i ≤ k → is_shown c t a i ≡ is_shown d t a i
  unfolding is_shown
  is_shown-same t a i h =
      let up = s.up a i h in
      let one = cleared-same t a i h in
      let two = cancelled-same t a i h in
      let three = recalled-same t a i h in
      cc

  shown_after-same : (t : Shown) (i : ℕ) → i ≤ k → shown_after c t i ≡ shown_after d t i
  unfolding shown_after
  shown_after-same t i h =
      filter_agree (λ a. is_shown c t a i) (λ a. is_shown d t a i) (λ a. is_shown-same t a i h) c.order
      ∙ ap (filter (λ a. is_shown d t a i)) s.order

  shown-step : (i : ℕ) → i ≤ k → ((j : ℕ) → j < i → shown c j ≡ shown d j) → shown c i ≡ shown d i
  shown-step i h earlier =
      shown_closes c i ∙ shown_after-below c (shown c) (shown d) i earlier ∙ shown_after-same (shown d) i h ∙ sym (shown_closes d i)

  shown-upto : (n : ℕ) → n ≤ k → (i : ℕ) → i ≤ n → shown c i ≡ shown d i
  shown-upto zero h i l = shown-step i (omega arith) (λ j before. absurd (omega arith))
  shown-upto (suc n) h i l =
      elim (le-suc_iff.0 l) [
        | inl m ↦ shown-upto n (omega arith) i m
        | inr e ↦ shown-step i (omega arith) (λ j before. shown-upto n (omega arith) j (omega arith))
      ]

  pub shown-same : (i : ℕ) → i ≤ k → shown c i ≡ shown d i
  shown-same i h = shown-upto i h i (omega arith)

  -- what was shown, and so what was cleared and cancelled
  pub cleared-shown : (a i : ℕ) → i ≤ k → cleared c (shown c) a i ≡ cleared d (shown d) a i
  cleared-shown a i h = cleared-below c (shown c) (shown d) a i (λ j l. shown-same j (omega arith)) ∙ cleared-same (shown d) a i h

  pub cancelled-shown : (a i : ℕ) → i ≤ k → cancelled c (shown c) a i ≡ cancelled d (shown d) a i
  cancelled-shown a i h = cancelled-below c (shown c) (shown d) a i (λ j l. shown-same j (omega arith)) ∙ cancelled-same (shown d) a i h

  pub target-shown : (i : ℕ) → i ≤ k → target (shown c) i ≡ target (shown d) i
  target-shown i h = target-below (shown c) (shown d) i (λ j l. shown-same j (omega arith))

  nothing-same : (i : ℕ) → i ≤ k → shows_nothing c i ≡ shows_nothing d i
  nothing-same i h = ap (λ xs. elim xs [ [] ↦ true | _ ∷ _ ↦ false ]) (shown-same i h)

  pub normal-same : (i : ℕ) → i ≤ k → normal c i ≡ normal d i
  unfolding normal
  normal-same i h =
      ap (λ b. b && once_within 29 (λ j. c.rcl j && historically_from j (shows_nothing c) i) i) (nothing-same i h)
      ∙ ap (λ b. shows_nothing d i && b)
      (once_within-below 29 (λ j. c.rcl j && historically_from j (shows_nothing c) i) (λ j. d.rcl j && historically_from j (shows_nothing d) i) i
      (λ j l.
      ap (λ b. b && historically_from j (shows_nothing c) i) (s.rcl j (omega arith))
      ∙ ap (λ b. d.rcl j && b) (historically_from-below j (shows_nothing c) (shows_nothing d) i (λ x y. nothing-same x (omega arith)))))
