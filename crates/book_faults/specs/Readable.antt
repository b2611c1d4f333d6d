-- The conditions that are drafted, those of the flight phase, alerts and memos, each mean one.
use Rattle.std.specs.Prelude.{◌≡◌, Bool, false, ◌||◌, codes, unwrap_or}
use Rattle.std.specs.List.{list_any}
use Rattle.toml.specs.Data.{Data, Members, no_members, get_member, as_table}
use Rattle.ecam_spec.specs.Book.{Text}
use Rattle.book_spec.specs.Fields.{◌>>=◌}
use Rattle.book_spec.specs.Rules.{Names, list_in, term_fails}
use Rattle.book_spec.specs.TableRules.{if_there}
use Rattle.book_spec.specs.Defaults.{table_in}
use Rattle.book_spec.specs.Document.{names_of}
use Rattle.book_spec.specs.declared.schema.Leaf.TheVariants.{Term}
use Rattle.book_faults.specs.Refused.{refuses}

module _ (names : Names) where
  -- the text of the condition at a key is refused, for whichever rule
  abbrev pub refused_at : Text → Members → Bool
  refused_at key table = if_there (term_fails names refuses Term) (get_member key table)

  -- that of a condition of the flight phase
  abbrev pub refused_in_phase : Members → Bool
  refused_in_phase table =
      refused_at (codes "gnd") table || (refused_at (codes "run") table || (refused_at (codes "tp") table
      || (refused_at (codes "fast") table || (refused_at (codes "high") table || refused_at (codes "low") table))))

  -- of a line
  abbrev pub refused_in_line : Data → Bool
  refused_in_line value = refused_at (codes "when") (table_in value) || refused_at (codes "done") (table_in value)

  -- of an alert, its lines included
  abbrev pub refused_in_alert : Data → Bool
  refused_in_alert value = refused_at (codes "when") (table_in value) || list_any refused_in_line (list_in (codes "line") (table_in value))

  -- of a memo
  abbrev pub refused_in_memo : Data → Bool
  refused_in_memo value = refused_at (codes "when") (table_in value)

-- none of a document is
pub record AreReadable (top : Members) : Type 0 where
  pub phases : refused_in_phase (names_of top) (unwrap_or (get_member (codes "phase") top >>= as_table) no_members) ≡ false
  pub alerts : list_any (refused_in_alert (names_of top)) (list_in (codes "alert") top) ≡ false
  pub memos : list_any (refused_in_memo (names_of top)) (list_in (codes "memo") top) ≡ false
