-- The moment in which each alert is due.
use Rattle.std.proofs.Common.{◌≡◌, ℕ, ◌<◌, Bool, true, false, length, get_or, Option, None, refl, sym, ap, ◌∙◌, arith}
use Rattle.std.specs.Prelude.{slice_index}
use Rattle.std.proofs.lemmas.List.{get_or-set_same, get_or-set_other}
use Rattle.ecam_spec.specs.Book.{Book}
use Rattle.ecam_spec.specs.Situation.{alert_at}
use Rattle.wakes.specs.Due.{never}
use Rattle.wakes.specs.Marks.{is_marked}
use Rattle.alert_truth.specs.Confirming.{confirmed_at}
use Rattle.alert_truth.specs.Noting.{Notes}
use Rattle.alert_truth.specs.TruthsState.{TruthsFit, IsKeyed, WasKeyed, completes}
use Rattle.alert_truth.specs.declared.truths.Truths.{Truths}

-- one whose condition doesn't hold, or that is present, is never due
pub none-confirms : (confirm : ℕ) (is_present : Bool) → confirmed_at confirm None is_present ≡ never
none-confirms confirm true = refl
none-confirms confirm false = refl

pub was-keyed : (b : Book) (t : Truths) (a : ℕ) → IsKeyed b t a → WasKeyed b t a
was-keyed b t a key = record { key = λ off. key; none = λ e. key ∙ e }

-- alerts that hold the same are due in the same moment
pub same-completes : (b : Book) (old new : Truths) (a : ℕ) → get_or new.since.items a None ≡ get_or old.since.items a None
    → get_or new.present.items a false ≡ get_or old.present.items a false → completes b new a ≡ completes b old a
same-completes b old new a since now =
    ap (λ o. confirmed_at (alert_at b a).confirm o (get_or new.present.items a false)) since
    ∙ ap (confirmed_at (alert_at b a).confirm (get_or old.since.items a None)) now

module _ (b : Book) (i : ℕ) (start : Option ℕ) (is_present is_active : Bool) (key : ℕ) (old new : Truths) (notes : Notes i start is_present is_active key old new) where
  -- what is noted of one alert has its key
  pub own-keyed : TruthsFit b old → i < length b.alerts → key ≡ confirmed_at (alert_at b i).confirm start is_present → IsKeyed b new i
  own-keyed fits within is =
      ap (λ ks. slice_index ks i) notes.dues ∙ get_or-set_same old.dues i key 0 (omega (arith, fits.dues)) ∙ is
      ∙ sym (ap (λ o. confirmed_at (alert_at b i).confirm o (get_or new.present.items i false)) (ap (λ xs. get_or xs i None) notes.since ∙ get_or-set_same old.since.items i start None (omega (arith, fits.since)))
      ∙ ap (confirmed_at (alert_at b i).confirm start) (ap (λ xs. get_or xs i false) notes.present ∙ get_or-set_same old.present.items i is_present false (omega (arith, fits.present))))

  module _ (a : ℕ) (apart : a ≡ i → ⊥) where
    other-key : slice_index new.dues a ≡ slice_index old.dues a
    other-key = ap (λ ks. slice_index ks a) notes.dues ∙ get_or-set_other old.dues i a key 0 apart

    other-completes : completes b new a ≡ completes b old a
    other-completes =
        same-completes b old new a (ap (λ xs. get_or xs a None) notes.since ∙ get_or-set_other old.since.items i a start None apart)
        (ap (λ xs. get_or xs a false) notes.present ∙ get_or-set_other old.present.items i a is_present false apart)

    -- and the others have theirs
    pub other-keyed : IsKeyed b old a → IsKeyed b new a
    other-keyed was = other-key ∙ was ∙ sym other-completes

    pub other-was : WasKeyed b old a → WasKeyed b new a
    other-was was = record {
      key = λ off. other-keyed (was.key (sym (ap (λ ws. is_marked ws a) notes.due) ∙ off));
      none = λ e. other-key ∙ was.none (sym other-completes ∙ e);
    }
