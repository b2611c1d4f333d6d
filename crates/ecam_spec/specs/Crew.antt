-- What the crew makes of the alerts: CLR, RCL and EMER CANC act on what the moment before showed, and so decide
-- what is shown. The outline is the A320's (DSC-31); the exact rules are this project's own.
use Rattle.std.specs.Prelude.{ℕ, zero, suc, Bool, true, false, not, ◌&&◌, ◌||◌, ◌==◌, List, [], ◌∷◌, ◌++◌, get_or, filter, Option, Some, None}
use Rattle.ecam_spec.specs.Past.{Signal, once_within, historically_from, historically_within, since}
use Rattle.ecam_spec.specs.Places.{first_in}

-- what the crew's actions go by
pub record Cockpit : Type 0 where
  -- the alerts in their order: level 3, 2, 1, and within a level as in the book
  pub order : List ℕ
  -- the alert is a caution (level 1 or 2)
  pub is_caution : ℕ → Bool
  -- the alert is up
  pub up : ℕ → Signal
  -- the alert is waiting
  pub waiting : ℕ → Signal
  -- CLR is pressed
  pub clr : Signal
  -- RCL is pressed
  pub rcl : Signal
  -- EMER CANC is pressed
  pub emer : Signal
  -- RCL is held
  pub rcl_held : Signal
  -- the flight enters phase 1
  pub enters_one : Signal

-- what is shown in each moment, in order
abbrev pub Shown : Type 0
Shown = ℕ → List ℕ

-- the alert on which CLR and EMER CANC act: the first that the moment before showed
unfoldable pub target : Shown → ℕ → Option ℕ
target history zero = None
target history (suc k) = first_in (history k)

-- there is an alert, and it is alert a
abbrev pub is_alert : ℕ → Option ℕ → Bool
is_alert a None = false
is_alert a (Some b) = a == b

-- most of this goes by what was shown in the moments before, which is the history
module _ (c : Cockpit) where
  -- CLR is pressed, and the alert is the target
  unfoldable pub struck : Shown → ℕ → Signal
  struck history a k = c.clr k && is_alert a (target history k)

  -- it was struck, has been up since, and RCL wasn't pressed since
  unfoldable pub cleared : Shown → ℕ → Signal
  cleared history a = since (λ j. struck history a j && c.up a j) (λ j. c.up a j && not (c.rcl j))

  -- RCL is held for three seconds, which are thirty moments
  unfoldable pub long_recall : Signal
  long_recall = historically_within 29 c.rcl_held

  -- EMER CANC was pressed while the caution was the target, with no long recall and no start of phase 1 since
  unfoldable pub cancelled : Shown → ℕ → Signal
  cancelled history a k =
      c.is_caution a && since (λ j. c.emer j && is_alert a (target history j)) (λ j. not (long_recall j || c.enters_one j)) k

  -- RCL was pressed while it was waiting; it has been waiting since, and wasn't struck then or since
  unfoldable pub recalled : Shown → ℕ → Signal
  recalled history a =
      since (λ j. c.rcl j && (c.waiting a j && not (struck history a j))) (λ j. c.waiting a j && not (struck history a j))

  -- it isn't cancelled, and is up and not cleared, or recalled
  unfoldable pub is_shown : Shown → ℕ → Signal
  is_shown history a k = not (cancelled history a k) && ((c.up a k && not (cleared history a k)) || recalled history a k)

  -- what is shown now
  unfoldable pub shown_after : Shown → ℕ → List ℕ
  shown_after history k = filter (λ a. is_shown history a k) c.order

  -- what was shown in each of the moments below k
  unfoldable pub shown_below : ℕ → List (List ℕ)
  shown_below zero = []
  shown_below (suc k) = let past = shown_below k in past ++ shown_after (λ j. get_or past j []) k ∷ []

  -- what is shown in each moment
  unfoldable pub shown : Shown
  shown k = let past = shown_below k in shown_after (λ j. get_or past j []) k

  abbrev pub shows_nothing : Signal
  shows_nothing k = elim (shown k) [ [] ↦ true | _ ∷ _ ↦ false ]

  -- NORMAL: RCL was pressed in the last three seconds, and nothing is shown since
  unfoldable pub normal : Signal
  normal k = shows_nothing k && once_within 29 (λ j. c.rcl j && historically_from j shows_nothing k) k
