-- The conditions of a book in the order in which a moment steps them, and where the slots of each lie: the six
-- phase inputs, the alerts' own, each line's `when` and then its `done`, and the memos'.
use Rattle.std.specs.Prelude.{ℕ, ◌+◌, List, [], ◌∷◌, ◌++◌, map}
use Rattle.std.specs.List.{flat_map}
use Rattle.ecam_spec.specs.Book.{Tree, PhaseTerms, Line, Alert, Book}
use Rattle.ecam_spec.specs.TermSize.{slots}

abbrev pub phase_terms : PhaseTerms → List Tree
phase_terms p = p.gnd ∷ p.run ∷ p.tp ∷ p.fast ∷ p.high ∷ p.low ∷ []

abbrev pub line_terms : List Line → List Tree
line_terms lines = flat_map (λ l. l.when ∷ l.done ∷ []) lines

-- all lines, by the book's order of alerts and the order of lines in each
abbrev pub lines_of : List Alert → List Line
lines_of alerts = flat_map (λ a. a.lines) alerts

-- the conditions in stepping order
unfoldable pub terms_of : Book → List Tree
terms_of b = phase_terms b.phase ++ map (λ a. a.when) b.alerts ++ line_terms (lines_of b.alerts) ++ map (λ m. m.when) b.memos

-- how many slots these have together
abbrev pub slots_in : List Tree → ℕ
slots_in [] = 0
slots_in (c ∷ cs) = slots c + slots_in cs

-- where the slots of each begin, if the first begin here
abbrev pub begins : ℕ → List Tree → List ℕ
begins at [] = []
begins at (c ∷ cs) = at ∷ begins (at + slots c) cs
