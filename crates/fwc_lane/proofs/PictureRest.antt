-- A moment in which nothing turns that the picture shows: it shows the moment as it stands.
use Rattle.std.proofs.Common.{◌≡◌, ℕ, suc, ◌<◌, false, get_or, refl}
use Rattle.ecam_spec.specs.Book.{Book}
use Rattle.ecam_spec.specs.History.{Moment}
use Rattle.ecam_spec.specs.declared.kinds.Choice.{Choice}
use Rattle.ecam_spec.specs.declared.kinds.Choice.TheVariants.{Auto, Page, Status}
use Rattle.ecam_spec.specs.Selection.{choice}
use Rattle.ecam_spec.specs.Situation.{condition_in, phase_in}
use Rattle.ecam_spec.specs.Screen.{attention, panel, picture_in}
use Rattle.alert_truth.specs.TruthsState.{Unchanged}
use Rattle.attention.specs.State.{lights_after}
use Rattle.system_display.specs.Selecting.{IsKept}
use Rattle.zone_rows.specs.Tracked.{TrackedRows, IsWhole}
use Rattle.fwc_lane.specs.declared.counts.FlagCounts.{FlagCounts}
use Rattle.fwc_lane.specs.declared.scene.Turned.{Turned}
use Rattle.fwc_lane.specs.Scenes.{AreTurned, shown_turned}
use Rattle.fwc_lane.specs.ChangedRows.{TellsRows}
use Rattle.fwc_lane.specs.Drawn.{IsDrawn}
use Rattle.fwc_lane.proofs.ZoneSteps.{left-stays, right-stays, status-stays, flags-stay, display-stays, lamps-stay}
use Rattle.fwc_lane.proofs.ZonePictures.{Draws, draws-picture, draws-changed}

-- nothing turned
abbrev pub none_turned : Turned
none_turned = record { first = false; phase = false; values = false; lines = false; memos = false; marks = false; normal = false }

none-shown : (c : Choice) → shown_turned none_turned c false ≡ false
none-shown Auto = refl
none-shown (Page i) = refl
none-shown (Status q) = refl

module _ (b : Book) (m : ℕ → Moment) (k : ℕ) (turned : AreTurned b m k none_turned) (same : Unchanged b (condition_in b m) (phase_in b m) k) (kept : IsKept (panel b m) (suc k))
    (lights : lights_after (attention b m) (suc k) ≡ lights_after (attention b m) k) (counts : FlagCounts) (s : TrackedRows) (whole : IsWhole s) (was : IsDrawn b m k s.rows counts) where
  draws : Draws b m k counts counts s s s s s s
  draws = record {
    whole_s = whole;
    whole_t = whole;
    whole_u = whole;
    whole_v = whole;
    whole_w = whole;
    left = left-stays b m k none_turned turned refl counts.left s;
    right = right-stays b m k none_turned false turned (λ e. record { starred = same.starred }, λ u. refl) refl counts.right s;
    status = status-stays b m k none_turned false turned (λ e. same, λ u. refl) refl counts.status;
    flags = λ are. flags-stay b m k false counts counts turned.first are refl refl s;
    display = display-stays b m k none_turned (choice (panel b m) k) false false turned (λ e. same, λ u. refl) (λ e. kept, λ u. refl) refl (none-shown (choice (panel b m) k)) s;
    lamps = lamps-stay b m k false false turned.first refl refl (λ e. lights, λ u. refl) s;
  }

  pub picture-rests : IsDrawn b m (suc k) s.rows counts
  picture-rests = draws-picture b m k counts counts s s s s s s draws was

  pub rows-rest : ((i : ℕ) → i < 36 → get_or s.changed i false ≡ false) → TellsRows (picture_in b m) (suc k) s.changed
  rows-rest none = draws-changed b m k counts counts s s s s s s draws was none
