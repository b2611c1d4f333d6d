use Rattle.std.proofs.Common.{◌≡◌, ◌<◌, ◌++◌, [], ◌∷◌, append-nil, length, ap, ◌∙◌, arith}
use Rattle.book_model.specs.View.{bytes_of}
use Rattle.book_model.specs.NamePlaces.{number_by}
use Rattle.book_model.proofs.LevelPlaces.{filter_map-more}
use Rattle.book_model.proofs.parts.places_of.Goals as goal
use Rattle.book_model.proofs.parts.places_of.Goals.{in-Some+in_ok-push, in_default}

pub loop-name-preserved : goal.loop-name-preserved
loop-name-preserved c =
    let within : c.loop-name.name-index < length c.args.names.now = omega arith in
    let more = filter_map-more (number_by c.args.places.now) bytes_of c.args.names.now c.loop-name.name-index c.name-item.result within c.name-item.is in
    let asked : c.place_of.result ≡ number_by c.args.places.now c.name-item.result.bytes =
    c.place_of.ensures ∙ ap (number_by c.args.places.now) c.as_str.ensures.value in
    elim c.match-place_of.branch [
      | in-Some+in_ok-push w ↦
          rw (more, ← asked, w.in-Some.is) (ap (λ v. v.items) w.found-is ∙ w.in_ok-push.ensures.items
          ∙ ap (λ xs. xs ++ w.in-Some.place ∷ []) c.loop-name.invariant)
      | in_default w ↦
          rw (more, ← asked, w.in_default.is, append-nil) (ap (λ v. v.items) w.found-is ∙ c.loop-name.invariant)
    ]
