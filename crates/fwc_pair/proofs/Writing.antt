-- What is written of an event.
use Rattle.std.proofs.Common.{◌≡◌, ℕ, List, [], ◌++◌, Result, Ok, Err, sym, subst}
use Rattle.std.proofs.lemmas.List.{append-nil}
use Rattle.std.specs.Prelude.{OnOk, OnErr}
use Rattle.ecam_io.specs.Outside.{Appended, AppendedPrefix}
use Rattle.ecam_spec.specs.Book.{Text}
use Rattle.fwc_pair.specs.Views.{Adds, AddsPart}

module _ {S : Type 0} (agrees : S → List ℕ → Type 0) where
  pub adds-none : (s : S) (before after : Text) → after ≡ before ++ [] → Adds agrees s s before after
  adds-none s before after joined = record { more = []; joined = joined; written = λ w agreed. subst (agrees s) (sym (append-nil w)) agreed }

  module _ {E : Type 0} (old new : S) (before after line written : Text) (joined : after ≡ before ++ line) (same : written ≡ line) where
    pub adds-line : (r : Result (Unit {0}) E) → OnOk r (Appended agrees old new written) → OnOk r (Adds agrees old new before after)
    adds-line (Ok v) all = record { more = line; joined = joined; written = subst (Appended agrees old new) same all }
    adds-line (Err e) all = all

    pub adds-part : (r : Result (Unit {0}) E) → OnErr r (AppendedPrefix agrees old new written) → OnErr r (AddsPart agrees old new before after)
    adds-part (Ok v) part = part
    adds-part (Err e) part = record { more = line; joined = joined; written = subst (AppendedPrefix agrees old new) same part }
