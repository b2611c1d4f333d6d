-- Each condition of a sealed book keeps its limits.
use Rattle.std.proofs.Common.{◌≡◌, ℕ, zero, suc, ◌*◌, ◌^◌, ◌<◌, ◌≤◌, List, [], ◌∷◌, ◌++◌, map, All, length, get_or, slice_get, Some, refl, ap, subst, arith}
use Rattle.std.specs.List.{flat_map}
use Rattle.std.proofs.lemmas.List.{length-map, length-append, get_or_default}
use Rattle.std.proofs.lemmas.List.Elements.{All-append, All-map}
use Rattle.std.proofs.lemmas.Option.{slice_get_within, get_or_from_slice_get}
use Rattle.ecam_spec.specs.BookTerms.{slots_in}
use Rattle.ecam_spec.specs.KeepsLimits.{IsSoundTerm, IsSoundPhase, IsSoundLine}
use Rattle.ecam_spec.specs.TermSize.{Placed}
use Rattle.ecam_spec.specs.declared.limits.TheConstants.{LINES}
use Rattle.ecam_spec.proofs.ProperRows.{All-flat}
use Rattle.book_model.specs.View.{phase_of, line_of, alert_of, parameter_of, placed_of, draft_of}
use Rattle.book_model.specs.Slots.{phase_places, when_place, line_places, lines_places, memo_place, draft_places}
use Rattle.book_model.specs.Sealed.{the_book, IsSealed}
use Rattle.book_model.specs.Conditions.{places}
use Rattle.book_model.specs.declared.draft.Term.{Term}
use Rattle.book_model.specs.declared.draft.Line.{Line}
use Rattle.book_model.specs.declared.draft.Alert.{Alert}
use Rattle.book_model.specs.declared.draft.Draft.{Draft}
use Rattle.book_model.proofs.BookLimits.{sizes, alert-sizes, alert-sound, line-sound, memo-sound}
use Rattle.book_model.proofs.ConditionPlaces.{two-each}
use Rattle.book_model.proofs.ConditionRanges.{range}
use Rattle.book_model.proofs.SealedTerms.{slots-fit, terms_of-book}
use Rattle.condition_codes.specs.Pieces.{FitsLinks}

-- an item that is read is read again
again : {X : Type 0} (xs : List X) (i : ℕ) (x : X) → i < length xs → get_or xs i x ≡ get_or xs i (get_or xs i x)
again xs i x lt = get_or_default xs i x (get_or xs i x) lt

-- an alert has few conditions of lines
few-lines : (xs : List Alert) → All (λ (x : Alert). length x.lines.items ≤ LINES) xs → length (flat_map lines_places xs) ≤ 2 * LINES * length xs
few-lines [] each = omega arith
few-lines (x ∷ xs) each =
    omega (
      arith,
      length-append (lines_places x) (flat_map lines_places xs),
      two-each x.lines.items,
      each 0 x (omega arith),
      few-lines xs (λ k e lt. each (suc k) e (omega arith)),
    )

module _ (d : Draft) (sealed : IsSealed d) where
  abbrev Sound : Placed → Type 0
  Sound p = IsSoundTerm (length d.params.items) (length d.alerts.items) p.tree

  phase-sound : IsSoundPhase (length d.params.items) (length d.alerts.items) (phase_of d.phase)
  unfolding draft_of
  phase-sound =
      subst (λ p. IsSoundPhase p (length d.alerts.items) (phase_of d.phase)) (length-map d.params.items parameter_of)
      (subst (λ a. IsSoundPhase (length (map parameter_of d.params.items)) a (phase_of d.phase)) (length-map d.alerts.items alert_of) sealed.sound.phase)

  inputs : All Sound (phase_places d.phase)
  inputs zero e lt = phase-sound.gnd
  inputs (suc zero) e lt = phase-sound.run
  inputs (suc (suc zero)) e lt = phase-sound.tp
  inputs (suc (suc (suc zero))) e lt = phase-sound.fast
  inputs (suc (suc (suc (suc zero)))) e lt = phase-sound.high
  inputs (suc (suc (suc (suc (suc zero))))) e lt = phase-sound.low
  inputs (suc (suc (suc (suc (suc (suc k)))))) e lt = absurd (omega arith)

  owns : All Sound (map when_place d.alerts.items)
  owns =
      All-map Sound when_place d.alerts.items
      (λ a x lt. (alert-sound d sealed d.alerts.items a (get_or d.alerts.items a x) refl lt (again d.alerts.items a x lt)).when)

  line-conditions : (l : Line) → IsSoundLine (length d.params.items) (length d.alerts.items) (line_of l) → All Sound (line_places l)
  line-conditions l sound zero e lt = sound.when
  line-conditions l sound (suc zero) e lt = sound.done
  line-conditions l sound (suc (suc k)) e lt = absurd (omega arith)

  -- the lines of an alert keep their limits
  abbrev SoundLines : Alert → Type 0
  SoundLines x = All (λ (l : Line). IsSoundLine (length d.params.items) (length d.alerts.items) (line_of l)) x.lines.items

  sound-lines : All SoundLines d.alerts.items
  sound-lines a x lt = λ j l inside.
      let own = get_or d.alerts.items a x in
      line-sound d sealed d.alerts.items a own refl lt (again d.alerts.items a x lt) own.lines.items j (get_or own.lines.items j l) refl inside (again own.lines.items j l inside)

  procedures : All Sound (flat_map lines_places d.alerts.items)
  procedures =
      All-flat SoundLines Sound lines_places
      (λ x sound. All-flat (λ (l : Line). IsSoundLine (length d.params.items) (length d.alerts.items) (line_of l)) Sound line_places line-conditions x.lines.items sound)
      d.alerts.items sound-lines

  memos : All Sound (map memo_place d.memos.items)
  memos =
      All-map Sound memo_place d.memos.items
      (λ a x lt. (memo-sound d sealed d.memos.items a (get_or d.memos.items a x) refl lt (again d.memos.items a x lt)).when)

  every : All Sound (draft_places d)
  unfolding draft_places
  every =
      All-append Sound (phase_places d.phase ++ map when_place d.alerts.items ++ flat_map lines_places d.alerts.items) (map memo_place d.memos.items)
      (All-append Sound (phase_places d.phase ++ map when_place d.alerts.items) (flat_map lines_places d.alerts.items)
      (All-append Sound (phase_places d.phase) (map when_place d.alerts.items) inputs owns) procedures)
      memos

  pub all-sound : All Sound (places (the_book d))
  all-sound = subst (All Sound) sealed.placed every

  -- each is small enough for the links of its code
  pub fits : (i : ℕ) (t : Term) → slice_get (places (the_book d)) i ≡ Some (placed_of t) → FitsLinks t
  fits i t is =
      let own : Sound (placed_of t) =
      subst Sound (get_or_from_slice_get (places (the_book d)) i (placed_of t) (placed_of t) is)
      (all-sound i (placed_of t) (slice_get_within (places (the_book d)) i (placed_of t) is)) in
      record {
        small = own.small;
        few = omega (arith, range (the_book d) i (placed_of t) is, ap slots_in (terms_of-book (draft_of d)), slots-fit (draft_of d) sealed.sound);
      }

  -- its first slot has a number of 32 bits
  pub slot-small : (i : ℕ) (p : Placed) → slice_get (places (the_book d)) i ≡ Some p → p.at < 2 ^ 32
  slot-small i p is = omega (arith, range (the_book d) i p is, ap slots_in (terms_of-book (draft_of d)), slots-fit (draft_of d) sealed.sound)

  -- there are so few that their nodes have numbers of 32 bits
  pub few-places : length (places (the_book d)) < 2 ^ 26
  unfolding draft_places
  few-places =
      let ins = phase_places d.phase in
      let whens = map when_place d.alerts.items in
      let lines = flat_map lines_places d.alerts.items in
      omega (
        arith,
        ap length sealed.placed,
        length-append (ins ++ whens ++ lines) (map memo_place d.memos.items),
        length-append (ins ++ whens) lines,
        length-append ins whens,
        length-map d.alerts.items when_place,
        few-lines d.alerts.items (λ a x lt. (alert-sizes d sealed d.alerts.items a (get_or d.alerts.items a x) refl lt (again d.alerts.items a x lt)).lines),
        length-map d.memos.items memo_place,
        (sizes d sealed).alerts,
        (sizes d sealed).memos,
      )
