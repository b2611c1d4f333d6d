-- The lines of the standings, alert by alert.
use Rattle.std.proofs.Common.{◌≡◌, ℕ, zero, suc, ◌+◌, ◌<◌, ◌≤◌, List, [], ◌∷◌, ◌++◌, length, Result, Ok, Err, refl, sym, ap, ◌∙◌, subst, inl, inr, arith, add-one, append-nil, append_assoc}
use Rattle.std.specs.Prelude.{flat_map, OnErr}
use Rattle.std.proofs.lemmas.Bool.Decides.{leb_tells}
use Rattle.std.proofs.lemmas.List.Concat.{flat_map-append, flat_map-cons}
use Rattle.ecam_io.specs.Outside.{Appended, AppendedPrefix}
use Rattle.ecam_io.proofs.Calls.{Appended-append, AppendedPrefix-after, AppendedPrefix-longer}
use Rattle.ecam_spec.specs.declared.kinds.Event.{Event}
use Rattle.ecam_spec.specs.Book.{Text, Book}
use Rattle.ecam_spec.specs.Output.{line}
use Rattle.ecam_spec.specs.Places.{below}
use Rattle.ecam_spec.specs.Replay.{standing, standing_lines}
use Rattle.ecam_spec.specs.Situation.{alert_at}
use Rattle.ecam_spec.specs.Standing.{standing_text}

-- what holds holds of an error
pub on-err : {T E X : Type 0} (r : Result T E) → X → OnErr r X
on-err (Ok v) x = tt
on-err (Err e) x = x

module _ (b : Book) (h : List Event) where
  -- the line of alert a, and those of the first n
  abbrev pub line_of : ℕ → Text
  line_of a = line ((alert_at b a).name ++ 32 ∷ standing_text (λ p. (alert_at b p).name) (standing b h a))

  abbrev pub lines_below : ℕ → Text
  lines_below n = flat_map line_of (below n)

  pub lines-none : lines_below 0 ≡ []
  unfolding below
  lines-none = refl

  pub lines-all : lines_below (length b.alerts) ≡ standing_lines b h
  unfolding standing_lines
  lines-all = refl

  lines-more : (n : ℕ) → lines_below (suc n) ≡ lines_below n ++ line_of n
  unfolding below
  lines-more n = flat_map-append line_of (below n) (n ∷ []) ∙ ap (λ t. lines_below n ++ t) (flat_map-cons line_of n [] ∙ append-nil (line_of n))

  lines-rest : (i n : ℕ) → i ≤ n → (rest : Text) × (lines_below n ≡ lines_below i ++ rest)
  lines-rest i zero few = ([], ap lines_below (let same : zero ≡ i = omega arith in same) ∙ sym (append-nil (lines_below i)))
  lines-rest i (suc n) few =
      elim (leb_tells i n) [
        | inl (_, less) ↦
            let r = lines-rest i n less in
            (r.0 ++ line_of n, lines-more n ∙ ap (λ t. t ++ line_of n) r.1 ∙ append_assoc (lines_below i) r.0 (line_of n))
        | inr (_, more) ↦ ([], ap lines_below (let same : suc n ≡ i = omega arith in same) ∙ sym (append-nil (lines_below i)))
      ]

  module _ {S : Type 0} (agrees : S → List ℕ → Type 0) (old mid new : S) (i : ℕ) (text : Text) (is : text ≡ line_of i) (before : Appended agrees old mid (lines_below i)) where
    -- one more line is written
    pub lines-written : Appended agrees mid new text → Appended agrees old new (lines_below (i + 1))
    lines-written now =
        subst (Appended agrees old new) (sym (ap lines_below (add-one i) ∙ lines-more i))
        (Appended-append agrees old mid new (lines_below i) (line_of i) before (subst (Appended agrees mid new) is now))

    -- or a prefix of it
    pub lines-unwritten : (n : ℕ) → i < n → AppendedPrefix agrees mid new text → AppendedPrefix agrees old new (lines_below n)
    lines-unwritten n within part =
        let rest = lines-rest (suc i) n (omega (arith, within)) in
        subst (AppendedPrefix agrees old new) (sym (rest.1 ∙ ap (λ t. t ++ rest.0) (lines-more i)))
        (AppendedPrefix-longer agrees old new (lines_below i ++ line_of i) rest.0
        (AppendedPrefix-after agrees old mid new (lines_below i) (line_of i) before (subst (AppendedPrefix agrees mid new) is part)))
