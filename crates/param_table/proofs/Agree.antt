-- A table stands for all words that agree up to now.
use Rattle.std.proofs.Common.{◌≡◌, ℕ, ◌≤◌, ◌+◌, ◌-◌, List, sym, ap, ◌∙◌, arith}
use Rattle.std.specs.Option.{option_map_or}
use Rattle.std.specs.List.{list_any}
use Rattle.ecam_spec.specs.Book.{Source, Book}
use Rattle.ecam_spec.specs.Value.{BusWord, takes, arrives}
use Rattle.ecam_spec.proofs.PastAgree.{last-below}
use Rattle.ecam_spec.proofs.ValueAgree.{word_of-below}
use Rattle.book_model.specs.SourcePlaces.{parameter_with}
use Rattle.param_table.specs.TableState.{SourceStands, ParamsStand, received_by}
use Rattle.param_table.specs.declared.received.Received.{Received}
use Rattle.param_table.specs.declared.table.Params.{Params}
use Rattle.ecam_spec.specs.Situation.{parameter_at}
use Rattle.param_table.proofs.Told.{differ_below}
use Rattle.param_table.proofs.Said.{source_before-below}

module _ (words later : ℕ → List BusWord) (k : ℕ) (same : (i : ℕ) → i ≤ k → words i ≡ later i) where
  SourceStands-below : (stale : ℕ) (s : Source) (clock : ℕ) (r : Received)
      → SourceStands stale s words k clock r → SourceStands stale s later k clock r
  SourceStands-below stale s clock r stands = record {
    says = λ fresh. sym (word_of-below words later k same s) ∙ stands.says fresh;
    left = stands.left ∙ ap (λ o. option_map_or (λ m. m + stale + 1 - k) o 0) (last-below (arrives s words) (arrives s later) k (λ i h. ap (list_any (takes s)) (same i h)));
  }

  pub ParamsStand-below : (b : Book) (p : Params) → ParamsStand b words k p → ParamsStand b later k p
  ParamsStand-below b p stands = record {
    fits = stands.fits;
    sources = λ q s is. SourceStands-below (parameter_with b.parameters q).stale s p.clock (received_by p q) (stands.sources q s is);
    before = λ q s is. stands.before q s is
        ∙ source_before-below words later k (λ i h. same i (omega arith)) (parameter_with b.parameters q).kind (parameter_with b.parameters q).stale s;
    due = stands.due;
    told = λ j on. differ_below (parameter_at b j) words later k same (stands.told j on);
    unchanged = λ q s is asked off. stands.unchanged q s is asked off
        ∙ source_before-below words later k (λ i h. same i (omega arith)) (parameter_with b.parameters q).kind (parameter_with b.parameters q).stale s;
  }
