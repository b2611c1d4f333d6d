use Rattle.std.proofs.Common.{◌≡◌, ◌<◌, ◌++◌, ℕ, Option, [], ◌∷◌, length, map, take, ap, ◌∙◌, arith}
use Rattle.std.proofs.lemmas.List.{take_more, map-append}
use Rattle.std.specs.List.{filter_map}
use Rattle.ecam_spec.specs.Book.{Text}
use Rattle.ecam_spec.specs.Bytes.{place_of}
use Rattle.book_model.specs.View.{name_of, bytes_of}
use Rattle.book_model.specs.NamePlaces.{number_by}
use Rattle.book_model.specs.Parts.{secondaries_by}
use Rattle.book_model.proofs.parts.secondaries_of.Goals as goal

pub loop-alert-preserved : goal.loop-alert-preserved
loop-alert-preserved c =
    let alerts = c.args.alerts.now in
    let within : c.loop-alert.alert-index < length alerts = omega arith in
    let finds : (name : Text) → number_by c.in_ok-places.places name ≡ place_of (map name_of alerts) name = c.in_ok-places.ensures in
    let told : c.in_ok-places_of.field-0.items ≡ secondaries_by (map name_of alerts) c.alert-item.result =
    c.in_ok-places_of.ensures ∙ ap (λ (f : Text → Option ℕ). filter_map f (map bytes_of c.as_slice.result.now)) (λ i name. finds name i)
    ∙ ap (λ ns. filter_map (place_of (map name_of alerts)) (map bytes_of ns)) c.as_slice.ensures.value in
    rw (
      c.in_ok-push.ensures.items,
      map-append (λ s. s.items) c.loop-alert.secondaries.items (c.in_ok-places_of.field-0 ∷ []),
      take_more alerts c.loop-alert.alert-index c.alert-item.result within,
      ← c.alert-item.is,
      map-append (secondaries_by (map name_of alerts)) (take c.loop-alert.alert-index alerts) (c.alert-item.result ∷ []),
    )
    (ap (λ xs. xs ++ c.in_ok-places_of.field-0.items ∷ []) c.loop-alert.invariant
    ∙ ap (λ ys. map (secondaries_by (map name_of alerts)) (take c.loop-alert.alert-index alerts) ++ ys ∷ []) told)
