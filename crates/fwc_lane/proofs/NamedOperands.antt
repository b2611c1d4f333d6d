-- The operands that conditions of a sealed book name: those of the book, and of its values those that something asks for.
use Rattle.std.proofs.Common.{◌≡◌, ℕ, Bool, true, false, Option, Some, None, slice_get, refl, sym, ap, ◌∙◌}
use Rattle.std.specs.List.{list_any}
use Rattle.std.specs.Option.{option_map_or}
use Rattle.std.proofs.lemmas.Bool.{eq-eqb, or_left}
use Rattle.ecam_spec.specs.Book.{Book}
use Rattle.ecam_spec.specs.TermSize.{Placed}
use Rattle.book_model.specs.declared.draft.Draft.{Draft}
use Rattle.book_model.specs.Sealed.{the_book, IsSealed}
use Rattle.book_model.specs.Conditions.{places}
use Rattle.param_table.specs.Asked.{is_value_of, names_value, is_named, is_shown, is_asked_for}
use Rattle.param_table.proofs.AskedFor.{any-at}
use Rattle.term_eval.specs.Asked.{Asks, asked}
use Rattle.term_eval.specs.Woken.{Operand, operands}
use Rattle.term_eval.specs.Woken.Operand.{value}
use Rattle.watch_lists.specs.Naming.{IsOperand}
use Rattle.fwc_lane.specs.Waking.{sizes_in}
use Rattle.fwc_lane.proofs.Askers.{asks-operand, asks-named, named-asked}
use Rattle.fwc_lane.proofs.Hitting.{any-each}
use Rattle.fwc_lane.proofs.NamesWithin.{names-within}

-- the operand is the book's, and where it is a value, something asks for it
pub record IsBookOperand (b : Book) (x : Operand) : Type 0 where
  pub within : IsOperand (sizes_in b) x
  pub asked : (p : ℕ) → x ≡ value p → is_asked_for b p ≡ true

module _ (d : Draft) (sealed : IsSealed d) (j : ℕ) (c : Placed) (there : slice_get (places (the_book d)) j ≡ Some c) where
  -- what a node asks for
  pub asks-one : (i : ℕ) (x : Operand) → Asks c.tree i x → IsBookOperand (the_book d) x
  unfolding is_asked_for
  asks-one i x asks = record {
    within = asks-operand (sizes_in (the_book d)) c.tree (names-within d sealed j c there) i x asks;
    asked = λ p is.
        or_left (is_named (the_book d) p) (is_shown (the_book d) p)
        (any-at (λ (q : Placed). names_value p q.tree) (places (the_book d)) j c there
        (asks-named (is_value_of p) c.tree i x asks (ap (is_value_of p) is ∙ eq-eqb p p refl)));
  }

  -- two tests that agree on such operands agree on those of the condition
  module _ (f g : Operand → Bool) (same : (x : Operand) → IsBookOperand (the_book d) x → f x ≡ g x) where
    each-same : (i : ℕ) (o : Option Operand) → slice_get (asked c.tree) i ≡ Some o → option_map_or f o false ≡ option_map_or g o false
    each-same i None is = refl
    each-same i (Some x) is = same x (asks-one i x is)

    pub any-named : list_any f (operands c.tree) ≡ list_any g (operands c.tree)
    any-named =
        sym (named-asked f c.tree)
        ∙ any-each (λ (o : Option Operand). option_map_or f o false) (λ (o : Option Operand). option_map_or g o false) (asked c.tree) each-same
        ∙ named-asked g c.tree
