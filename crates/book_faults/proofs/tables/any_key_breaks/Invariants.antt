use Rattle.std.proofs.Common.{◌≡◌, false, take}
use Rattle.std.specs.List.{list_any}
use Rattle.toml.specs.View.{table_view}
use Rattle.book_tables.specs.Catalogue.{names_in}
use Rattle.book_faults.specs.Keys.{key_of}
use Rattle.book_faults.specs.KeysOnce.{key_fails}
use Rattle.book_faults.proofs.tables.any_key_breaks.Given as goal

abbrev pub invariant-loop-key : goal.invariant-loop-key
invariant-loop-key g l = list_any (λ k. key_fails l.asked (g.S.Held.fails (names_in l.names)) (table_view l.table) (key_of k)) (take l.key-index l.keys) ≡ false
