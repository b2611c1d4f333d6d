-- The worlds in which a book's conditions are asked: what has no bearing on the phase's inputs, and that an alert's own
-- condition is as true as in the world of all alerts.
use Rattle.std.proofs.Common.{◌≡◌, ℕ, zero, suc, ◌+◌, ◌<◌, true, false, inl, inr, [], ◌∷◌, length, get_or, refl, sym, ◌∙◌, ap, arith}
use Rattle.std.proofs.Math.Nat.{le-suc_iff}
use Rattle.std.proofs.lemmas.Bool.{leb-false}
use Rattle.std.proofs.lemmas.List.{length-append, get_or_append_left, get_or_at}
use Rattle.ecam_spec.specs.Past.{Signal}
use Rattle.ecam_spec.specs.Book.{Tree, constant, discrete, valid, compared, in_phase, alert, press, computer, Book}
use Rattle.ecam_spec.specs.DraftFaults.{has_atom, asks_phase_or_alert, asks_alert_from}
use Rattle.ecam_spec.specs.Term.{holds}
use Rattle.ecam_spec.specs.TermNames.{AgreeOn}
use Rattle.ecam_spec.specs.Alert.{present}
use Rattle.ecam_spec.specs.History.{Moment}
use Rattle.ecam_spec.specs.Situation.{alert_at, world_where, flight_world, alert_world, phase_in, condition, condition_in, present_knowing, active_knowing, known_below, present_in, active_in, world}
use Rattle.ecam_spec.proofs.PastAgree.{historically_within-below}
use Rattle.ecam_spec.proofs.TermNames.{holds-below}
use Rattle.ecam_spec.proofs.AtomLaws.{is_atom, agree-without}

no-path : true ≡ false → ⊥
no-path e = cc

module _ (b : Book) (moments : ℕ → Moment) where
  -- ---- the phase's inputs

  atoms-alike : (f g : ℕ → ℕ) (p q : ℕ → Signal) (i : ℕ) (c : Tree) → is_atom c ≡ true → asks_phase_or_alert c ≡ false → AgreeOn (world_where b moments f p) (world_where b moments g q) i c
  unfolding AgreeOn
  atoms-alike f g p q i (constant t) atom h = tt
  atoms-alike f g p q i (discrete x) atom h = refl
  atoms-alike f g p q i (valid x) atom h = refl
  atoms-alike f g p q i (compared x op z) atom h = refl
  atoms-alike f g p q i (in_phase set) atom h = absurd (no-path h)
  atoms-alike f g p q i (alert a) atom h = absurd (no-path h)
  atoms-alike f g p q i (press key) atom h = refl
  atoms-alike f g p q i (computer n) atom h = refl
  atoms-alike f g p q i _ atom h = absurd (no-path (sym atom))

  -- a condition that asks for no phase and no alert is as true in worlds that differ in these alone
  pub phases_no_bearing : (f g : ℕ → ℕ) (p q : ℕ → Signal) (c : Tree) (k : ℕ) → has_atom asks_phase_or_alert c ≡ false → holds (world_where b moments f p) c k ≡ holds (world_where b moments g q) c k
  phases_no_bearing f g p q c k free =
      holds-below (world_where b moments f p) (world_where b moments g q) c k
      (λ i h. agree-without (world_where b moments f p) (world_where b moments g q) i asks_phase_or_alert (atoms-alike f g p q i) c free)

  -- so that of the flight may stand for any
  pub flight_like_world : (c : Tree) (k : ℕ) → has_atom asks_phase_or_alert c ≡ false → holds (flight_world b moments) c k ≡ holds (world b moments) c k
  unfolding world
  flight_like_world c k free = phases_no_bearing (λ i. 1) (phase_in b moments) (λ a i. false) (active_in b moments) c k free

  -- ---- an alert's own condition

  pub known-length : (n : ℕ) → length (known_below b moments n) ≡ n
  unfolding known_below
  known-length zero = refl
  known-length (suc n) =
      length-append (known_below b moments n) (active_knowing b moments (known_below b moments n) n ∷ []) ∙ ap (λ m. m + 1) (known-length n) ∙ omega arith

  -- the alerts known so far are active where they are
  pub known-at : (n a : ℕ) (d : Signal) → a < n → get_or (known_below b moments n) a d ≡ active_in b moments a
  unfolding known_below active_in
  known-at zero a d h = absurd (omega arith)
  known-at (suc n) a d h =
      elim (le-suc_iff.0 h) [
        | inl l ↦
            get_or_append_left (known_below b moments n) (active_knowing b moments (known_below b moments n) n ∷ []) d a (omega (arith, known-length n))
            ∙ known-at n a d l
        | inr e ↦
            let last : a ≡ n = omega arith in
            get_or_at (known_below b moments n) (active_knowing b moments (known_below b moments n) n) [] d a (known-length n ∙ sym last)
            ∙ ap (λ m. active_knowing b moments (known_below b moments m) m) (sym last)
      ]

  earlier-alike : (n i : ℕ) (c : Tree) → is_atom c ≡ true → asks_alert_from n c ≡ false → AgreeOn (alert_world b moments (known_below b moments n)) (world b moments) i c
  unfolding AgreeOn world
  earlier-alike n i (constant t) atom h = tt
  earlier-alike n i (discrete x) atom h = refl
  earlier-alike n i (valid x) atom h = refl
  earlier-alike n i (compared x op z) atom h = refl
  earlier-alike n i (in_phase set) atom h = refl
  earlier-alike n i (alert a) atom h = ap (λ (s : Signal). s i) (known-at n a (λ j. false) (leb-false n a h))
  earlier-alike n i (press key) atom h = refl
  earlier-alike n i (computer m) atom h = refl
  earlier-alike n i _ atom h = absurd (no-path (sym atom))

  -- the condition of an alert that names only earlier ones is as true as in the world of all
  pub condition_like_world : (a k : ℕ) → has_atom (asks_alert_from a) (alert_at b a).when ≡ false → condition_in b moments a k ≡ holds (world b moments) (alert_at b a).when k
  unfolding condition_in condition
  condition_like_world a k free =
      holds-below (alert_world b moments (known_below b moments a)) (world b moments) (alert_at b a).when k
      (λ i h. agree-without (alert_world b moments (known_below b moments a)) (world b moments) i (asks_alert_from a) (earlier-alike a i) (alert_at b a).when free)

  -- and so it is present where that condition was confirmed
  pub present_by_world : (a k : ℕ) → has_atom (asks_alert_from a) (alert_at b a).when ≡ false → present_in b moments a k ≡ present (alert_at b a).confirm (holds (world b moments) (alert_at b a).when) k
  unfolding present_in present_knowing present condition_in
  present_by_world a k free =
      historically_within-below (alert_at b a).confirm (condition b moments (known_below b moments a) a) (holds (world b moments) (alert_at b a).when) k
      (λ i h. condition_like_world a i free)
