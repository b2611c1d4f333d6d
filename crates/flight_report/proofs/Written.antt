-- The lines of the entries, one by one.
use Rattle.std.proofs.Common.{◌≡◌, ℕ, ◌+◌, ◌<◌, List, [], ◌∷◌, ◌++◌, Result, Ok, Err, length, get_or, take, drop, sym, ◌∙◌, ap, subst, append-nil}
use Rattle.std.specs.Prelude.{OnErr}
use Rattle.std.proofs.lemmas.List.{take_more, take-append-drop}
use Rattle.std.proofs.lemmas.List.Concat.{flat_map-append, flat_map-cons}
use Rattle.ecam_io.specs.Outside.{Appended, AppendedPrefix}
use Rattle.ecam_io.proofs.Calls.{Appended-append, AppendedPrefix-after, AppendedPrefix-longer}
use Rattle.ecam_spec.specs.Book.{Text}
use Rattle.view_spec.specs.declared.flight_report.Entry.{Entry}
use Rattle.view_spec.specs.FlightReport.{entry_line}
use Rattle.flight_report.specs.Kept.{entry_lines}

-- what holds holds of an error
pub on-err : {T E X : Type 0} (r : Result T E) → X → OnErr r X
on-err (Ok v) x = tt
on-err (Err e) x = x

-- a prefix was written, after all that stands before
pub part-after : {S T E : Type 0} (agrees : S → List ℕ → Type 0) (r : Result T E) (old mid new : S) (xs ys : Text) → Appended agrees old mid xs
    → OnErr r (AppendedPrefix agrees mid new ys) → OnErr r (AppendedPrefix agrees old new (xs ++ ys))
part-after agrees (Ok v) old mid new xs ys before part = tt
part-after agrees (Err e) old mid new xs ys before part = AppendedPrefix-after agrees old mid new xs ys before part

module _ (name : ℕ → Text) (es : List Entry) where
  -- the lines of the first i
  abbrev pub so_far : ℕ → Text
  so_far i = entry_lines name (take i es)

  so_far-more : (i : ℕ) (e : Entry) → i < length es → so_far (i + 1) ≡ so_far i ++ entry_line name (get_or es i e)
  so_far-more i e within =
      ap (entry_lines name) (take_more es i e within)
      ∙ flat_map-append (entry_line name) (take i es) (get_or es i e ∷ [])
      ∙ ap (λ t. so_far i ++ t) (flat_map-cons (entry_line name) (get_or es i e) [] ∙ append-nil (entry_line name (get_or es i e)))

  so_far-rest : (i : ℕ) → entry_lines name es ≡ so_far i ++ entry_lines name (drop i es)
  so_far-rest i = ap (entry_lines name) (sym (take-append-drop i es)) ∙ flat_map-append (entry_line name) (take i es) (drop i es)

  module _ {S : Type 0} (agrees : S → List ℕ → Type 0) (old mid new : S) (i : ℕ) (e : Entry) (text : Text) (within : i < length es) (is : text ≡ entry_line name (get_or es i e)) (before : Appended agrees old mid (so_far i)) where
    -- one more line is written
    pub line-written : Appended agrees mid new text → Appended agrees old new (so_far (i + 1))
    line-written now =
        subst (Appended agrees old new) (sym (so_far-more i e within))
        (Appended-append agrees old mid new (so_far i) (entry_line name (get_or es i e)) before (subst (Appended agrees mid new) is now))

    -- or a prefix of it
    pub line-unwritten : AppendedPrefix agrees mid new text → AppendedPrefix agrees old new (entry_lines name es)
    line-unwritten part =
        subst (AppendedPrefix agrees old new) (sym (so_far-rest (i + 1) ∙ ap (λ t. t ++ entry_lines name (drop (i + 1) es)) (so_far-more i e within)))
        (AppendedPrefix-longer agrees old new (so_far i ++ entry_line name (get_or es i e)) (entry_lines name (drop (i + 1) es))
        (AppendedPrefix-after agrees old mid new (so_far i) (entry_line name (get_or es i e)) before (subst (AppendedPrefix agrees mid new) is part)))
