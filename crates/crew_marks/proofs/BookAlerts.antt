-- What a walk reads of a book.
use Rattle.std.proofs.Common.{◌≡◌, ℕ, ◌<◌, eqb, List, length, get_or, Option, Some, None, refl, ap}
use Rattle.std.specs.Option.{option_eq}
use Rattle.ecam_spec.specs.Levels.{is_caution_level}
use Rattle.ecam_spec.specs.Situation.{alert_at}
use Rattle.ecam_spec.specs.Crew.{is_alert}
use Rattle.book_model.specs.Sealed.{the_book}
use Rattle.book_model.specs.declared.draft.Alert.{Alert}
use Rattle.book_model.specs.declared.draft.Draft.{Draft}
use Rattle.book_model.proofs.BookReads.{alert-read}

-- whether the alert that was read is a caution
pub caution-read : (d : Draft) (xs : List Alert) (i : ℕ) (x : Alert) → xs ≡ d.alerts.items → i < length xs → x ≡ get_or xs i x
    → is_caution_level (alert_at (the_book d) i).level ≡ is_caution_level x.level
caution-read d xs i x same within here = ap (λ a. is_caution_level a.level) (alert-read d xs i x same within here)

pub same-target : (a : ℕ) (target : Option ℕ) → option_eq eqb (Some a) target ≡ is_alert a target
same-target a None = refl
same-target a (Some b) = refl
