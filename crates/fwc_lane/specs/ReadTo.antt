-- How far the values of a moment are read.
use Rattle.std.specs.Prelude.{◌≡◌, ℕ, ◌<◌, ◌≤◌, true, ℤ, List, length, slice_index_or, Option, None}
use Rattle.ecam_spec.specs.Book.{Book}
use Rattle.ecam_spec.specs.Situation.{parameter_at}
use Rattle.ecam_spec.specs.Value.{BusWord, value}
use Rattle.param_table.specs.Asked.{is_asked_for}
use Rattle.param_table.specs.TableState.{ParamsStand}
use Rattle.param_table.specs.declared.table.Params.{Params}
use Rattle.system_display.specs.Pages.{AreShort}
use Rattle.term_eval.specs.declared.reading.Reading.TheVariants.{Value}
use Rattle.fwc_lane.specs.declared.terms.Terms.{Terms}
use Rattle.fwc_lane.specs.Given.{AreBefore}
use Rattle.fwc_lane.specs.TermsFit.{TermsFit}
use Rattle.fwc_lane.specs.Waking.{HasWoken, ranged, value_turned}

-- The values below `end` are those of the moment, where the book asks for them, and the others still those of the moment
-- before. Those that turned woke whom they wake.
pub record AreReadTo (b : Book) (params : Params) (was : List (Option ℤ)) (first : Terms) (end : ℕ) (values : List (Option ℤ)) (terms : Terms) : Type 0 where
  pub many : length values ≡ length b.parameters
  pub short : AreShort values
  pub fits : TermsFit b terms
  pub read : (words : ℕ → List BusWord) (k : ℕ) → ParamsStand b words k params → AreBefore b words k was
      → (p : ℕ) → p < end → p < length b.parameters → is_asked_for b p ≡ true → slice_index_or values p None ≡ value (parameter_at b p) words k
  pub later : (p : ℕ) → end ≤ p → slice_index_or values p None ≡ slice_index_or was p None
  pub wakes : HasWoken b (ranged 0 (length b.parameters) (value_turned was values)) (λ o. Value (slice_index_or values o None)) first terms
