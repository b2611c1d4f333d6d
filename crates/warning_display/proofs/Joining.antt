-- Flags joined to one text, one after another.
use Rattle.std.proofs.Common.{◌≡◌, ◌+◌, ◌<◌, List, [], ◌∷◌, ◌++◌, length, refl, sym, ◌∙◌, ap, arith, length-append, append_assoc, subst}
use Rattle.std.specs.Prelude.{codes, flat_map}
use Rattle.std.proofs.lemmas.List.{append-nil}
use Rattle.std.proofs.lemmas.Grind.{flat_map-append}
use Rattle.std.proofs.lemmas.List.Elements.{All-append, All-cons, All-nil}
use Rattle.ecam_spec.specs.declared.kinds.Colour.TheVariants.{White}
use Rattle.ecam_spec.specs.Book.{Text}
use Rattle.ecam_spec.specs.Picture.{Row, row, blank_row}
use Rattle.ecam_spec.specs.StatusPage.{flags_row}
use Rattle.zone_rows.specs.Tracked.{TrackedRows}
use Rattle.zone_rows.specs.Mended.{Mends}
use Rattle.warning_display.specs.FlagText.{joined, IsJoined}

pub joined-none : IsJoined [] []
joined-none = record { text = refl; each = All-nil (λ f. 0 < length f) }

-- a text of no bytes has no flag
pub none-joined : (flags : List Text) (text : Text) → length text ≡ 0 → IsJoined flags text → flags ≡ []
none-joined [] text none is = refl
none-joined (f ∷ fs) text none is =
    absurd
    (let some : 0 < length f = is.each 0 f (omega arith) in
    let long : length text ≡ length f + length (flat_map (λ y. codes " " ++ y) fs) = ap length is.text ∙ length-append f (flat_map (λ y. codes " " ++ y) fs) in
    let w : ⊥ = omega (arith, none) in
    w)

-- the first flag
pub join-first : (flags : List Text) (text flag new : Text) → 0 < length flag → length text ≡ 0 → new ≡ text ++ flag → IsJoined flags text → IsJoined (flags ++ flag ∷ []) new
join-first flags text flag new some none e is =
    let first : flags ≡ [] = none-joined flags text none is in
    rw first record {
      text = e ∙ ap (λ t. t ++ flag) (is.text ∙ ap joined first) ∙ sym (append-nil flag);
      each = All-cons (λ f. 0 < length f) flag [] some (All-nil (λ f. 0 < length f));
    }

joined-more : (f : Text) (fs : List Text) (flag : Text) → joined ((f ∷ fs) ++ flag ∷ []) ≡ joined (f ∷ fs) ++ codes " " ++ flag
joined-more f fs flag =
    ap (λ t. f ++ t) (flat_map-append (λ y. codes " " ++ y) fs (flag ∷ []) ∙ ap (λ t. flat_map (λ y. codes " " ++ y) fs ++ t) (append-nil (codes " " ++ flag)))
    ∙ sym (append_assoc f (flat_map (λ y. codes " " ++ y) fs) (codes " " ++ flag))
    ∙ sym (append_assoc (f ++ flat_map (λ y. codes " " ++ y) fs) (codes " ") flag)

-- and a further one
pub join-next : (flags : List Text) (text flag new : Text) → 0 < length flag → 0 < length text → new ≡ text ++ codes " " ++ flag → IsJoined flags text → IsJoined (flags ++ flag ∷ []) new
join-next [] text flag new some there e is = absurd (let long : length text ≡ 0 = ap length is.text in let w : ⊥ = omega arith in w)
join-next (f ∷ fs) text flag new some there e is = record {
  text = e ∙ ap (λ t. t ++ codes " " ++ flag) is.text ∙ sym (joined-more f fs flag);
  each = All-append (λ g. 0 < length g) (f ∷ fs) (flag ∷ []) is.each (All-cons (λ g. 0 < length g) flag [] some (All-nil (λ g. 0 < length g)));
}

pub join-none : (flags : List Text) (text : Text) → IsJoined flags text → IsJoined (flags ++ []) text
join-none flags text is = rw (append-nil flags) is

-- the row of the flags
pub row-none : (flags : List Text) (text : Text) → length text ≡ 0 → IsJoined flags text → blank_row ≡ flags_row flags
unfolding flags_row
row-none flags text none is = sym (ap flags_row (none-joined flags text none is))

pub row-some : (flags : List Text) (text : Text) → 0 < length text → IsJoined flags text → row White text ≡ flags_row flags
unfolding flags_row
row-some [] text some is = absurd (let long : length text ≡ 0 = ap length is.text in let w : ⊥ = omega arith in w)
row-some (f ∷ fs) text some is = ap (row White) is.text

pub mends-row : (r q : Row) (s t : TrackedRows) → r ≡ q → Mends 14 (r ∷ []) s t → Mends 14 (q ∷ []) s t
mends-row r q s t e mended = subst (λ x. Mends 14 (x ∷ []) s t) e mended
