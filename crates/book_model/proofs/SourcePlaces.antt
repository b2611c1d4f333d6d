-- The sources at the places of a book.
use Rattle.std.proofs.Common.{◌≡◌, ℕ, ◌*◌, ◌/◌, ◌%◌, ◌<◌, ◌≤◌, List, length, Some, None, All, sym, ap, ◌∙◌, arith, inl, inr, subst}
use Rattle.std.specs.List.{slice_get}
use Rattle.std.proofs.lemmas.Bool.{cases_lt}
use Rattle.std.proofs.lemmas.List.{get_or_past}
use Rattle.std.proofs.lemmas.List.Elements.{All-get_or}
use Rattle.std.proofs.lemmas.Option.{slice_get_within, get_or_from_slice_get, none-some}
use Rattle.ecam_spec.specs.Book.{Source, Parameter}
use Rattle.ecam_spec.specs.Situation.{no_parameter}
use Rattle.ecam_spec.specs.KeepsLimits.{IsSoundParameter, IsSoundSource}
use Rattle.book_model.specs.SourcePlaces.{parameter_with, source_at}

-- past the end there is no source
pub no_source : (params : List Parameter) (q : ℕ) → 3 * length params ≤ q → source_at params q ≡ None
no_source params q past = let far : length params ≤ q / 3 = omega arith in ap (λ (p : Parameter). slice_get p.sources (q % 3)) (get_or_past params (q / 3) no_parameter far)

-- a place with a source belongs to a parameter
pub place_within : (params : List Parameter) (q : ℕ) (s : Source) → source_at params q ≡ Some s → q < 3 * length params
place_within params q s there = elim (cases_lt q (3 * length params)) [
  | inl within ↦ within
  | inr past ↦ absurd (none-some s (sym (no_source params q past) ∙ there))
]

sound_parameter : (params : List Parameter) (q : ℕ) (s : Source) → All IsSoundParameter params → source_at params q ≡ Some s → IsSoundParameter (parameter_with params q)
sound_parameter params q s sound there =
    let within : q < 3 * length params = place_within params q s there in
    All-get_or IsSoundParameter params (q / 3) no_parameter (omega arith) sound

pub sound_source : (params : List Parameter) (q : ℕ) (s : Source) → All IsSoundParameter params → source_at params q ≡ Some s → IsSoundSource s
sound_source params q s sound there =
    let sources = (parameter_with params q).sources in
    subst IsSoundSource (get_or_from_slice_get sources (q % 3) s s there)
    (All-get_or IsSoundSource sources (q % 3) s (slice_get_within sources (q % 3) s there) (sound_parameter params q s sound there).sources)
