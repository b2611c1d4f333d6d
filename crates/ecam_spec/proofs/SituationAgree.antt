-- Two accounts of the moments that agree up to a moment give the same situation in it: the same values, phase, and
-- alerts. Where no condition asks for a computer, they needn't agree in which computers are up.
use Rattle.std.proofs.Common.{◌≡◌, ℕ, zero, suc, ◌≤◌, Bool, true, false, not, ◌&&◌, ◌||◌, ◌==◌, ◌⊎◌, inl, inr, List, [], ◌∷◌, ◌++◌, get_or, refl, ◌∙◌, ap, arith}
use Rattle.std.specs.Prelude.{if◌then◌else◌}
use Rattle.std.specs.List.{list_any}
use Rattle.ecam_spec.specs.declared.kinds.Key.{Key}
use Rattle.ecam_spec.specs.Past.{Signal}
use Rattle.ecam_spec.specs.Book.{Tree, constant, Book}
use Rattle.ecam_spec.specs.BookTerms.{phase_terms}
use Rattle.ecam_spec.specs.DraftFaults.{has_atom}
use Rattle.ecam_spec.specs.Computers.{asks_computer, names_computer}
use Rattle.ecam_spec.specs.Term.{holds, in_set}
use Rattle.ecam_spec.specs.History.{Flags, Moment}
use Rattle.ecam_spec.specs.Keys.{pressed}
use Rattle.ecam_spec.specs.Alert.{present, active, waiting, starred, up}
use Rattle.ecam_spec.specs.Situation.{parameter_at, alert_at, primaries, words_in, strokes_in, value_in, computer_up, world_where, flight_world, flight, phase_in, condition, present_knowing, inhibited, active_knowing, known_below, present_in, active_in, waiting_in, world, starred_in, up_in}
use Rattle.ecam_spec.proofs.PastAgree.{since-below, historically_within-below}
use Rattle.ecam_spec.proofs.TermNames.{holds-below}
use Rattle.ecam_spec.proofs.ValueAgree.{value-below}
use Rattle.ecam_spec.proofs.PhaseAgree.{SameInputs, phase-agree}
use Rattle.ecam_spec.proofs.ComputerNames.{agree-on, map-left, any-at, asks, free-phase, free-when}

-- two accounts of the moments agree up to moment k in what comes in them; and either no condition of the book asks
-- for a computer, or they agree in which are up
pub record SameUpTo (b : Book) (m n : ℕ → Moment) (k : ℕ) : Type 0 where
  pub words : (i : ℕ) → i ≤ k → (m i).words ≡ (n i).words
  pub strokes : (i : ℕ) → i ≤ k → (m i).strokes ≡ (n i).strokes
  pub flags : (names_computer b ≡ false) ⊎ ((i : ℕ) → i ≤ k → (m i).flags ≡ (n i).flags)

-- up to an earlier moment they agree too
earlier-flags : {A : Type 0} (m n : ℕ → Moment) (i k : ℕ) → i ≤ k → A ⊎ ((j : ℕ) → j ≤ k → (m j).flags ≡ (n j).flags) → A ⊎ ((j : ℕ) → j ≤ i → (m j).flags ≡ (n j).flags)
earlier-flags m n i k h (inl a) = inl a
earlier-flags m n i k h (inr f) = inr (λ j l. f j (omega arith))

pub same-earlier : (b : Book) (m n : ℕ → Moment) (i k : ℕ) → i ≤ k → SameUpTo b m n k → SameUpTo b m n i
same-earlier b m n i k h s =
    record {
      words = λ j l. s.words j (omega arith);
      strokes = λ j l. s.strokes j (omega arith);
      flags = earlier-flags m n i k h s.flags;
    }

-- the sets of signals known so far agree
abbrev SameKnown : ℕ → List Signal → List Signal → Type 0
SameKnown k [] [] = Unit {0}
SameKnown k (p ∷ ps) (q ∷ qs) = ((i : ℕ) → i ≤ k → p i ≡ q i) × SameKnown k ps qs
SameKnown k _ _ = ⊥

known-at : (k : ℕ) (ps qs : List Signal) → SameKnown k ps qs → (a i : ℕ) → i ≤ k → get_or ps a (λ j. false) i ≡ get_or qs a (λ j. false) i
known-at k [] [] s a i h = refl
known-at k [] (q ∷ qs) s a i h = absurd s
known-at k (p ∷ ps) [] s a i h = absurd s
known-at k (p ∷ ps) (q ∷ qs) s zero i h = s.0 i h
known-at k (p ∷ ps) (q ∷ qs) s (suc a) i h = known-at k ps qs s.1 a i h

known-more : (k : ℕ) (ps qs : List Signal) (p q : Signal) → SameKnown k ps qs → ((i : ℕ) → i ≤ k → p i ≡ q i) → SameKnown k (ps ++ p ∷ []) (qs ++ q ∷ [])
known-more k [] [] p q s same = (same, tt)
known-more k [] (r ∷ qs) p q s same = absurd s
known-more k (r ∷ ps) [] p q s same = absurd s
known-more k (r ∷ ps) (t ∷ qs) p q s same = (s.0, known-more k ps qs p q s.1 same)

-- a test that agrees on each element
pub any-agree : (p q : ℕ → Bool) (xs : List ℕ) → ((a : ℕ) → p a ≡ q a) → list_any p xs ≡ list_any q xs
any-agree p q [] same = refl
any-agree p q (x ∷ xs) same = ap (λ b. b || list_any p xs) (same x) ∙ ap (λ b. q x || b) (any-agree p q xs same)

module _ (b : Book) (m n : ℕ → Moment) (k : ℕ) (s : SameUpTo b m n k) where
  pub values-same : (p i : ℕ) → i ≤ k → value_in b m p i ≡ value_in b n p i
  unfolding value_in
  values-same p i h = value-below (words_in b m) (words_in b n) i (λ j l. s.words j (omega arith)) (parameter_at b p)

  pub pressed-same : (key : Key) (i : ℕ) → i ≤ k → pressed (strokes_in b m) key i ≡ pressed (strokes_in b n) key i
  unfolding pressed
  pressed-same key i h = ap (list_any _) (s.strokes i h)

  abbrev pub SameComputers : ℕ → Type 0
  SameComputers i = (c : ℕ) → computer_up b m c i ≡ computer_up b n c i

  pub flags-computers : (i : ℕ) → (m i).flags ≡ (n i).flags → SameComputers i
  unfolding computer_up
  flags-computers i e c = ap (λ (g : Flags). if c == 1 then g.one else g.two) e

  flags-up : {A : Type 0} (i : ℕ) → i ≤ k → A ⊎ ((j : ℕ) → j ≤ k → (m j).flags ≡ (n j).flags) → A ⊎ SameComputers i
  flags-up i h (inl a) = inl a
  flags-up i h (inr f) = inr (flags-computers i (f i h))

  -- the computers are asked for nowhere in the book, or are the same up to now
  pub computers : (i : ℕ) → i ≤ k → (names_computer b ≡ false) ⊎ SameComputers i
  computers i h = flags-up i h s.flags

  -- a condition holds in worlds of these moments alike
  pub holds-same : (f g : ℕ → ℕ) (p q : ℕ → Signal) (c : Tree) (i : ℕ) → i ≤ k → ((j : ℕ) → j ≤ i → f j ≡ g j) → ((a j : ℕ) → j ≤ i → p a j ≡ q a j)
      → ((j : ℕ) → j ≤ i → (has_atom asks_computer c ≡ false) ⊎ SameComputers j) → holds (world_where b m f p) c i ≡ holds (world_where b n g q) c i
  holds-same f g p q c i h phases actives free =
      holds-below (world_where b m f p) (world_where b n g q) c i
      (λ j l. agree-on (world_where b m f p) (world_where b n g q) j
      (record { values = λ x. values-same x j (omega arith); phase = phases j l; active = λ a. actives a j l; pressed = λ key. pressed-same key j (omega arith) })
      c (free j l))

  -- the phase's conditions, and so the phase
  flight-holds : (c : Tree) (i : ℕ) → i ≤ k → ((j : ℕ) → j ≤ i → (has_atom asks_computer c ≡ false) ⊎ SameComputers j) → holds (flight_world b m) c i ≡ holds (flight_world b n) c i
  flight-holds c i h free = holds-same (λ x. 1) (λ x. 1) (λ a x. false) (λ a x. false) c i h (λ j l. refl) (λ a j l. refl) free

  -- what each of them asks
  input-free : (x i : ℕ) → i ≤ k → (j : ℕ) → j ≤ i → (asks (get_or (phase_terms b.phase) x (constant true)) ≡ false) ⊎ SameComputers j
  unfolding has_atom
  input-free x i h j l = map-left (λ e. any-at asks (phase_terms b.phase) x (constant true) e refl) (free-phase b (computers j (omega arith)))

  flight-same : (i : ℕ) → i ≤ k → SameInputs (flight b m) (flight b n) i
  unfolding flight
  flight-same i h =
      record {
        gnd = flight-holds b.phase.gnd i h (input-free 0 i h);
        run = flight-holds b.phase.run i h (input-free 1 i h);
        tp = flight-holds b.phase.tp i h (input-free 2 i h);
        fast = flight-holds b.phase.fast i h (input-free 3 i h);
        high = flight-holds b.phase.high i h (input-free 4 i h);
        low = flight-holds b.phase.low i h (input-free 5 i h);
      }

  pub phase-same : (i : ℕ) → i ≤ k → phase_in b m i ≡ phase_in b n i
  unfolding phase_in
  phase-same i h = phase-agree (flight b m) (flight b n) i (λ j l. flight-same j (omega arith))

  -- an alert is present and active alike, where those before it are
  condition-same : (ps qs : List Signal) (a i : ℕ) → SameKnown k ps qs → i ≤ k → condition b m ps a i ≡ condition b n qs a i
  unfolding condition
  condition-same ps qs a i known h =
      holds-same (phase_in b m) (phase_in b n) (λ x. get_or ps x (λ j. false)) (λ x. get_or qs x (λ j. false)) (alert_at b a).when i h
      (λ j l. phase-same j (omega arith)) (λ x j l. known-at k ps qs known x j (omega arith)) (λ j l. free-when b (computers j (omega arith)) a)

  present-knowing-same : (ps qs : List Signal) (a i : ℕ) → SameKnown k ps qs → i ≤ k → present_knowing b m ps a i ≡ present_knowing b n qs a i
  unfolding present_knowing present
  present-knowing-same ps qs a i known h =
      historically_within-below (alert_at b a).confirm (condition b m ps a) (condition b n qs a) i (λ j l. condition-same ps qs a j known (omega arith))

  inhibited-same : (a i : ℕ) → i ≤ k → inhibited b m a i ≡ inhibited b n a i
  unfolding inhibited
  inhibited-same a i h = ap (in_set (alert_at b a).inhibit) (phase-same i h)

  active-knowing-same : (ps qs : List Signal) (a i : ℕ) → SameKnown k ps qs → i ≤ k → active_knowing b m ps a i ≡ active_knowing b n qs a i
  unfolding active_knowing active
  active-knowing-same ps qs a i known h =
      since-below (λ j. present_knowing b m ps a j && not (inhibited b m a j)) (λ j. present_knowing b n qs a j && not (inhibited b n a j)) (present_knowing b m ps a) (present_knowing b n qs a) i
      (λ j l.
      ap (λ x. x && not (inhibited b m a j)) (present-knowing-same ps qs a j known (omega arith))
      ∙ ap (λ x. present_knowing b n qs a j && not x) (inhibited-same a j (omega arith)))
      (λ j l. present-knowing-same ps qs a j known (omega arith))

  known-same : (a : ℕ) → SameKnown k (known_below b m a) (known_below b n a)
  unfolding known_below
  known-same zero = tt
  known-same (suc a) =
      known-more k (known_below b m a) (known_below b n a) (active_knowing b m (known_below b m a) a) (active_knowing b n (known_below b n a) a) (known-same a)
      (λ i h. active-knowing-same (known_below b m a) (known_below b n a) a i (known-same a) h)

  pub present-same : (a i : ℕ) → i ≤ k → present_in b m a i ≡ present_in b n a i
  unfolding present_in
  present-same a i h = present-knowing-same (known_below b m a) (known_below b n a) a i (known-same a) h

  pub active-same : (a i : ℕ) → i ≤ k → active_in b m a i ≡ active_in b n a i
  unfolding active_in
  active-same a i h = active-knowing-same (known_below b m a) (known_below b n a) a i (known-same a) h

  pub waiting-same : (a i : ℕ) → i ≤ k → waiting_in b m a i ≡ waiting_in b n a i
  unfolding waiting_in waiting
  waiting-same a i h =
      ap (λ x. x && not (active_in b m a i)) (present-same a i h) ∙ ap (λ x. present_in b n a i && not x) (active-same a i h)

  pub starred-same : (a i : ℕ) → i ≤ k → starred_in b m a i ≡ starred_in b n a i
  unfolding starred_in starred
  starred-same a i h =
      ap (λ x. x && list_any (λ p. active_in b m p i) (primaries b a)) (active-same a i h)
      ∙ ap (λ x. active_in b n a i && x) (any-agree (λ p. active_in b m p i) (λ p. active_in b n p i) (primaries b a) (λ p. active-same p i h))

  pub up-same : (a i : ℕ) → i ≤ k → up_in b m a i ≡ up_in b n a i
  unfolding up_in up
  up-same a i h =
      ap (λ x. x && not (starred_in b m a i)) (active-same a i h) ∙ ap (λ x. active_in b n a i && not x) (starred-same a i h)

  -- a condition of the displays holds alike
  pub world-same : (c : Tree) (i : ℕ) → i ≤ k → ((j : ℕ) → j ≤ i → (has_atom asks_computer c ≡ false) ⊎ SameComputers j) → holds (world b m) c i ≡ holds (world b n) c i
  unfolding world
  world-same c i h free =
      holds-same (phase_in b m) (phase_in b n) (active_in b m) (active_in b n) c i h (λ j l. phase-same j (omega arith)) (λ a j l. active-same a j (omega arith)) free
