-- The conditions of the parts of a draft, as trees and with their places, in the order in which a moment steps them.
use Rattle.std.specs.Prelude.{List, [], ◌∷◌, ◌++◌, map}
use Rattle.std.specs.List.{flat_map}
use Rattle.ecam_spec.specs.Book.{Tree}
use Rattle.ecam_spec.specs.TermSize.{Placed}
use Rattle.book_model.specs.View.{tree_in, placed_of}
use Rattle.book_model.specs.declared.draft.PhaseTerms.{PhaseTerms}
use Rattle.book_model.specs.declared.draft.Line.{Line}
use Rattle.book_model.specs.declared.draft.Alert.{Alert}
use Rattle.book_model.specs.declared.draft.Memo.{Memo}
use Rattle.book_model.specs.declared.draft.Draft.{Draft}

abbrev pub phase_trees : PhaseTerms → List Tree
phase_trees p = tree_in p.gnd ∷ tree_in p.run ∷ tree_in p.tp ∷ tree_in p.fast ∷ tree_in p.high ∷ tree_in p.low ∷ []

abbrev pub phase_places : PhaseTerms → List Placed
phase_places p =
    placed_of p.gnd ∷ placed_of p.run ∷ placed_of p.tp ∷ placed_of p.fast ∷ placed_of p.high ∷ placed_of p.low ∷ []

abbrev pub when_tree : Alert → Tree
when_tree a = tree_in a.when

abbrev pub when_place : Alert → Placed
when_place a = placed_of a.when

abbrev pub line_trees : Line → List Tree
line_trees l = tree_in l.when ∷ tree_in l.done ∷ []

abbrev pub line_places : Line → List Placed
line_places l = placed_of l.when ∷ placed_of l.done ∷ []

abbrev pub lines_trees : Alert → List Tree
lines_trees a = flat_map line_trees a.lines.items

abbrev pub lines_places : Alert → List Placed
lines_places a = flat_map line_places a.lines.items

abbrev pub memo_tree : Memo → Tree
memo_tree m = tree_in m.when

abbrev pub memo_place : Memo → Placed
memo_place m = placed_of m.when

unfoldable pub draft_trees : Draft → List Tree
draft_trees d =
    phase_trees d.phase ++ map when_tree d.alerts.items ++ flat_map lines_trees d.alerts.items ++ map memo_tree d.memos.items

unfoldable pub draft_places : Draft → List Placed
draft_places d =
    phase_places d.phase ++ map when_place d.alerts.items ++ flat_map lines_places d.alerts.items ++ map memo_place d.memos.items
