-- A page that stays from the moment before: it stood with the values of that moment.
use Rattle.std.proofs.Common.{◌≡◌, ◌↔◌, ℕ, zero, suc, ◌<◌, Bool, true, false, List, length, slice_get, Option, Some, refl, sym, ap, subst, ◌∙◌}
use Rattle.std.specs.Prelude.{ℤ}
use Rattle.std.specs.Option.{option_and_then}
use Rattle.ecam_spec.specs.declared.kinds.Choice.{Choice}
use Rattle.ecam_spec.specs.declared.kinds.Choice.TheVariants.{Auto, Page}
use Rattle.ecam_spec.specs.Book.{Book}
use Rattle.ecam_spec.specs.Crew.{target}
use Rattle.ecam_spec.specs.Picture.{Row}
use Rattle.ecam_spec.specs.History.{Moment}
use Rattle.ecam_spec.specs.Selection.{choice}
use Rattle.ecam_spec.specs.Situation.{alert_at, phase_in, value_in}
use Rattle.ecam_spec.specs.Screen.{panel, display, shown_in}
use Rattle.ecam_spec.specs.SystemDisplay.{Display, called_page, page_rows, display_rows}
use Rattle.wakes.specs.Marks.{is_marked}
use Rattle.param_table.specs.Asked.{is_asked_for}
use Rattle.system_display.specs.Pages.{DifferBy}
use Rattle.system_display.specs.Selecting.{IsKept}
use Rattle.zone_rows.specs.Zones.{StandAt}
use Rattle.fwc_lane.specs.declared.scene.Turned.{Turned}
use Rattle.fwc_lane.specs.Scenes.{AreTurned}
use Rattle.fwc_lane.specs.Drawn.{display_rows_in}
use Rattle.fwc_lane.specs.PageKept.{KeepsPage, PageStands, HasStood}
use Rattle.fwc_lane.proofs.PagesAlike.{one-of-book, display_with, page-with, differ-with}
use Rattle.fwc_lane.proofs.ZoneRest.{shown-kept, called-kept}

module _ (b : Book) (m : ℕ → Moment) where
  -- neither the choice turned nor what it goes by
  pub page-stands : (k : ℕ) (t : Turned) (c : Choice) (chosen : Bool) → AreTurned b m k t → (chosen ≡ false) ↔ IsKept (panel b m) (suc k) → c ≡ choice (panel b m) k → KeepsPage t c chosen
      → (rows : List Row) → ((j : ℕ) → k ≡ suc j → StandAt 15 (display_rows_in b m j) rows) → PageStands b m k rows
  page-stands zero t c chosen turned choose is keeps rows was = absurd (let on : t.first ≡ true = turned.first in let off : t.first ≡ false = keeps.first in let w : ⊥ = cc in w)
  page-stands (suc j) t c chosen turned choose is keeps rows was = record {
    before = j;
    next = refl;
    chosen = choose.0 keeps.same_choice;
    called = λ auto. called-kept b m (suc j) j (turned.phase j refl (keeps.phase (is ∙ auto))) (shown-kept b m (suc j) j (turned.shown j refl (keeps.marks (is ∙ auto))));
    stand = was j refl;
  }

  module _ (k : ℕ) (these : List (Option ℤ)) (marks : List ℕ)
      (stays : (j : ℕ) → k ≡ suc j → (p : ℕ) → p < length b.parameters → is_asked_for b p ≡ true → is_marked marks p ≡ false → value_in b m p k ≡ value_in b m p j)
      (rows : List Row) (there : PageStands b m k rows) where
    differ : DifferBy b marks (display_with b m there.before these) (display_with b m k these)
    differ = differ-with b m there.before k these marks (stays there.before there.next)

    -- it shows a page of the book as the display of that moment
    stood : (o : Option ℕ) → StandAt 15 (page_rows (display b m there.before) (option_and_then (slice_get b.pages) o)) rows
        → StandAt 15 (page_rows (display_with b m there.before these) (option_and_then (slice_get b.pages) o)) rows
    stood o = subst (λ shown. StandAt 15 shown rows) (sym (page-with b m there.before these (option_and_then (slice_get b.pages) o) (one-of-book b o)))

    -- the display of the moment before, by the choice of this one
    chosen-stands : StandAt 15 (display_rows (display b m there.before) (choice (panel b m) k)) rows
    chosen-stands = subst (λ c. StandAt 15 (display_rows (display b m there.before) c) rows) (sym there.chosen) there.stand

    -- the page that the situation calls for
    pub auto-stood : (first page : Option ℕ) → Auto ≡ choice (panel b m) k → first ≡ target (shown_in b m) (suc k)
        → ((d : Display) → d.pages ≡ b.pages → d.phase ≡ phase_in b m k → d.alert_page ≡ option_and_then (λ a. (alert_at b a).page) first → option_and_then (slice_get b.pages) page ≡ called_page d)
        → HasStood b marks (display_with b m k these) (option_and_then (slice_get b.pages) page) rows
    unfolding display_rows display target
    auto-stood first page is begins called =
        let same : option_and_then (slice_get b.pages) page ≡ called_page (display b m there.before) =
        called (display b m k) refl refl (ap (option_and_then (λ a. (alert_at b a).page)) (sym begins)) ∙ there.called (sym is) in
        record {
          was = display_with b m there.before these;
          differ = differ;
          stand = stood page
              (subst (λ o. StandAt 15 (page_rows (display b m there.before) o) rows) (sym same)
              (subst (λ c. StandAt 15 (display_rows (display b m there.before) c) rows) (sym is) chosen-stands));
        }

    -- a page that is chosen
    pub chosen-stood : (i : ℕ) → Page i ≡ choice (panel b m) k → HasStood b marks (display_with b m k these) (option_and_then (slice_get b.pages) (Some i)) rows
    unfolding display_rows display
    chosen-stood i is = record {
      was = display_with b m there.before these;
      differ = differ;
      stand = stood (Some i) (subst (λ c. StandAt 15 (display_rows (display b m there.before) c) rows) (sym is) chosen-stands);
    }
