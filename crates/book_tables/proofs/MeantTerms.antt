-- The condition that an item names, by what its text means; and the first items whose texts mean one, as a loop goes
-- through them.
use Rattle.std.proofs.Common.{◌≡◌, ℕ, ◌+◌, ◌<◌, Bool, true, ◌&&◌, List, length, take, get_or, Option, Some, None, unwrap_or, is_some, refl, sym, ◌∙◌, arith, below_more}
use Rattle.std.specs.Prelude.{codes}
use Rattle.std.proofs.lemmas.Bool.{and_parts}
use Rattle.toml.specs.Data.{Data, Members}
use Rattle.ecam_spec.specs.Book.{Tree, constant}
use Rattle.ecam_spec.specs.TermText.{Outcome, syntax_error, unknown, number_error, too_deep, too_large, means}
use Rattle.book_spec.specs.Rules.{Names, list_in}
use Rattle.book_spec.specs.Defaults.{table_in, name_or_none, tree_or, term_or, named_in}
use Rattle.book_spec.specs.Document.{names_with, named_among}
use Rattle.book_spec.proofs.NamedTerms.{named_first}
use Rattle.book_tables.specs.Meant.{meant, meant_in, AreMeant}

tree_meant : (default : Tree) (o : Option Outcome) → tree_or default o ≡ unwrap_or (meant o) default
tree_meant default None = refl
tree_meant default (Some (syntax_error at)) = refl
tree_meant default (Some (unknown at)) = refl
tree_meant default (Some (number_error at)) = refl
tree_meant default (Some too_deep) = refl
tree_meant default (Some too_large) = refl
tree_meant default (Some (means tree)) = refl

pub named_meant : (names : Names) (value : Data) → named_in names value ≡ record { name = name_or_none (table_in value); tree = unwrap_or (meant_in names value) (constant true) }
unfolding named_in term_or
named_meant names value = rw (tree_meant (constant true)) refl

module _ (top : Members) (values : List Data) where
  -- the text of a value means a condition, where those of the first values are known
  abbrev pub IsMeantAt : Data → ℕ → Type 0
  IsMeantAt value n = is_some (meant_in (names_with top (named_among top (take n values))) value) ≡ true

  -- the first values mean one each
  abbrev pub FirstMeant : ℕ → Type 0
  FirstMeant n = (k : ℕ) → k < n → (d : Data) → IsMeantAt (get_or values k d) k

  pub none_meant : FirstMeant 0
  none_meant k within d = absurd (omega arith)

  -- one more does, if the flag stays
  pub more_meant : (before here : Bool) (n : ℕ) (value : Data) → (before ≡ true → FirstMeant n) → ((d : Data) → get_or values n d ≡ value)
      → here ≡ is_some (meant_in (names_with top (named_among top (take n values))) value) → (before && here) ≡ true → FirstMeant (n + 1)
  more_meant before here n value first at is both =
      let parts = and_parts before here both in
      let told : IsMeantAt value n = sym is ∙ parts.1 in
      below_more (λ k. (d : Data) → IsMeantAt (get_or values k d) k) n (first parts.0) (λ d. rw (at d) told)

pub all_meant : (top : Members) → FirstMeant top (list_in (codes "term") top) (length (list_in (codes "term") top)) → AreMeant top
all_meant top first i within d = rw (named_first top (list_in (codes "term") top) i) (first i within d)
