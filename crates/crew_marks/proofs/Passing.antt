-- A moment in which nothing acts, after one that left all settled.
use Rattle.std.proofs.Common.{◌≡◌, ℕ, suc, ◌+◌, false, refl, ap, ◌∙◌}
use Rattle.std.specs.Prelude.{is_none}
use Rattle.ecam_spec.specs.Book.{Book}
use Rattle.ecam_spec.specs.Crew.{Cockpit}
use Rattle.crew_marks.specs.CrewMarks.{CrewMarks, IsSettled, stands_normal}
use Rattle.crew_marks.specs.MarksState.{IsCrewOf, AreStill, NothingActs, MarksFit, MarksStand}
use Rattle.crew_marks.proofs.Ending.{rested-fits}
use Rattle.crew_marks.proofs.Quiet.{rested-stands, normal-rests}
use Rattle.crew_marks.proofs.Stretches.{press-settled}

-- one moment more
abbrev pub passed : CrewMarks → CrewMarks
passed m = record m { moments = m.moments + 1 }

pub passed-settled : (m : CrewMarks) → IsSettled m → IsSettled (passed m)
passed-settled m settled = record { target = settled.target; changed = settled.changed; held_since = settled.held_since; quiet_press = settled.quiet_press }

pub passed-fits : (b : Book) (m : CrewMarks) → MarksFit b m → IsSettled m → MarksFit b (passed m)
passed-fits b m fits settled = rested-fits b m (passed m) fits refl refl settled.target

pub passed-normal : (m : CrewMarks) → IsSettled m → stands_normal m.quiet_press m.moments ≡ false → stands_normal m.quiet_press (m.moments + 1) ≡ false
passed-normal m settled off = ap (λ o. stands_normal o (m.moments + 1)) settled.quiet_press ∙ normal-rests (is_none m.first) m.quiet_press m.moments off

pub passed-stands : (b : Book) (c : Cockpit) (k : ℕ) (m : CrewMarks) → MarksFit b m → IsSettled m → IsCrewOf b c → NothingActs c k → AreStill b c k → MarksStand b c k m
    → MarksStand b c (suc k) (passed m)
passed-stands b c k m fits settled of_book nothing still stands =
    rested-stands b c k m (passed m) of_book nothing still stands refl
    fits (record { first = m.first; changed = false }) refl
    (record { sets = refl; looked = refl; target = settled.target; first = refl; changed = settled.changed; moments = refl; held_since = settled.held_since })
    (λ p q n counted pressed quiet kept. press-settled p q n m.first m.quiet_press settled.quiet_press pressed quiet kept)
