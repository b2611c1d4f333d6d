-- The conditions of a book are gone through part by part.
use Rattle.std.proofs.Common.{◌≡◌, ℕ, ◌+◌, ◌<◌, List, [], ◌∷◌, ◌++◌, map, length, take, get_or, slice_get, Some, refl, sym, ap, subst, ◌∙◌}
use Rattle.std.specs.List.{flat_map}
use Rattle.std.specs.Prelude.{Result, Ok, Err, OnOk}
use Rattle.std.proofs.lemmas.List.{append_assoc, append-nil, map-append, take_more}
use Rattle.std.proofs.lemmas.Grind.{flat_map-append}
use Rattle.ecam_spec.specs.TermSize.{Placed}
use Rattle.book_model.specs.View.{placed_of}
use Rattle.book_model.specs.Sealed.{the_book, IsSealed}
use Rattle.book_model.specs.Conditions.{places}
use Rattle.book_model.specs.Slots.{phase_places, when_place, lines_places, memo_place, draft_places}
use Rattle.book_model.specs.declared.draft.Term.{Term}
use Rattle.book_model.specs.declared.draft.PhaseTerms.{PhaseTerms}
use Rattle.book_model.specs.declared.draft.Line.{Line}
use Rattle.book_model.specs.declared.draft.Alert.{Alert}
use Rattle.book_model.specs.declared.draft.Draft.{Draft}
use Rattle.book_model.proofs.ConditionPlaces.{phase-place, line-when, line-done}
use Rattle.condition_codes.specs.Pieces.{HasCodes, AddsCodes, FitsLinks}
use Rattle.condition_codes.specs.declared.pieces.Pieces.{Pieces}
use Rattle.condition_codes.proofs.Limits.{fits}

-- of an outcome
pub on-ok : {A B : Type 0} (r : Result A B) (P Q : Type 0) → (P → Q) → OnOk r P → OnOk r Q
on-ok (Ok x) P Q goes p = goes p
on-ok (Err e) P Q goes p = p

-- the inputs of the phase are small enough for their links
pub record InputsFit (p : PhaseTerms) : Type 0 where
  pub gnd : FitsLinks p.gnd
  pub run : FitsLinks p.run
  pub tp : FitsLinks p.tp
  pub fast : FitsLinks p.fast
  pub high : FitsLinks p.high
  pub low : FitsLinks p.low

pub inputs-fit : (d : Draft) → IsSealed d → (p : PhaseTerms) → p ≡ d.phase → InputsFit p
inputs-fit d sealed p same =
    let fit : (i : ℕ) (t : Term) → slice_get (phase_places p) i ≡ Some (placed_of t) → FitsLinks t =
    λ i t is. fits d sealed i t (phase-place d sealed i (placed_of t) (ap (λ q. slice_get (phase_places q) i) (sym same) ∙ is)) in
    record {
      gnd = fit 0 p.gnd refl;
      run = fit 1 p.run refl;
      tp = fit 2 p.tp refl;
      fast = fit 3 p.fast refl;
      high = fit 4 p.high refl;
      low = fit 5 p.low refl;
    }

-- and so are both conditions of a line
pub line-fits : (d : Draft) → IsSealed d → (a : ℕ) (x : Alert) → a < length d.alerts.items → x ≡ get_or d.alerts.items a x → (ls : List Line) (j : ℕ) (l : Line) → ls ≡ x.lines.items
    → j < length ls → l ≡ get_or ls j l → FitsLinks l.when × FitsLinks l.done
line-fits d sealed a x within here ls j l own inside at = (
  fits d sealed _ l.when (line-when d sealed d.alerts.items a x refl within here ls j l own inside at),
  fits d sealed _ l.done (line-done d sealed d.alerts.items a x refl within here ls j l own inside at),
)

module _ (old mid new : Pieces) where
  -- some, and then others
  pub adds-both : (xs ys : List Placed) → AddsCodes xs old mid → AddsCodes ys mid new → AddsCodes (xs ++ ys) old new
  adds-both xs ys first second ps codes = subst (λ qs. HasCodes qs new) (append_assoc ps xs ys) (second (ps ++ xs) (first ps codes))

  module _ {X : Type 0} (xs : List X) (i : ℕ) (x : X) (within : i < length xs) (here : x ≡ get_or xs i x) where
    next : take (i + 1) xs ≡ take i xs ++ x ∷ []
    next = take_more xs i x within ∙ ap (λ y. take i xs ++ y ∷ []) (sym here)

    -- those of one item more
    pub adds-next : (f : X → Placed) → AddsCodes (map f (take i xs)) old mid → AddsCodes (f x ∷ []) mid new → AddsCodes (map f (take (i + 1) xs)) old new
    adds-next f first second =
        subst (λ qs. AddsCodes qs old new) (sym (ap (map f) next ∙ map-append f (take i xs) (x ∷ []))) (adds-both (map f (take i xs)) (f x ∷ []) first second)

    pub adds-more : (f : X → List Placed) → AddsCodes (flat_map f (take i xs)) old mid → AddsCodes (f x) mid new → AddsCodes (flat_map f (take (i + 1) xs)) old new
    adds-more f first second =
        subst (λ qs. AddsCodes qs old new) (sym (ap (flat_map f) next ∙ flat_map-append f (take i xs) (x ∷ []) ∙ ap (λ l. flat_map f (take i xs) ++ l) (append-nil (f x)))) (adds-both (flat_map f (take i xs)) (f x) first second)

-- the codes of the inputs of the phase
pub adds-six : (p : PhaseTerms) (a b c d e f g : Pieces) → AddsCodes (placed_of p.gnd ∷ []) a b → AddsCodes (placed_of p.run ∷ []) b c → AddsCodes (placed_of p.tp ∷ []) c d
    → AddsCodes (placed_of p.fast ∷ []) d e → AddsCodes (placed_of p.high ∷ []) e f → AddsCodes (placed_of p.low ∷ []) f g → AddsCodes (phase_places p) a g
adds-six p a b c d e f g gnd run tp fast high low =
    adds-both a f g (placed_of p.gnd ∷ placed_of p.run ∷ placed_of p.tp ∷ placed_of p.fast ∷ placed_of p.high ∷ []) (placed_of p.low ∷ [])
    (adds-both a e f (placed_of p.gnd ∷ placed_of p.run ∷ placed_of p.tp ∷ placed_of p.fast ∷ []) (placed_of p.high ∷ [])
    (adds-both a d e (placed_of p.gnd ∷ placed_of p.run ∷ placed_of p.tp ∷ []) (placed_of p.fast ∷ [])
    (adds-both a c d (placed_of p.gnd ∷ placed_of p.run ∷ []) (placed_of p.tp ∷ []) (adds-both a b c (placed_of p.gnd ∷ []) (placed_of p.run ∷ []) gnd run) tp) fast) high) low

-- the codes of the whole book
pub adds-all : (d : Draft) → IsSealed d → (a b c e f : Pieces) → AddsCodes (phase_places d.phase) a b → AddsCodes (map when_place d.alerts.items) b c
    → AddsCodes (flat_map lines_places d.alerts.items) c e → AddsCodes (map memo_place d.memos.items) e f → AddsCodes (places (the_book d)) a f
unfolding draft_places
adds-all d sealed a b c e f phase owns procedures memos =
    let ins = phase_places d.phase in
    let whens = map when_place d.alerts.items in
    let lines = flat_map lines_places d.alerts.items in
    subst (λ qs. AddsCodes qs a f) sealed.placed
    (adds-both a e f (ins ++ whens ++ lines) (map memo_place d.memos.items) (adds-both a c e (ins ++ whens) lines (adds-both a b c ins whens phase owns) procedures) memos)
