-- What a book keeps beside its draft, from the alerts of the draft.
use Rattle.std.specs.Prelude.{ℕ, ◌+◌, Bool, List, [], ◌∷◌, ◌++◌, map, length, filter, get_or}
use Rattle.std.specs.List.{filter_map}
use Rattle.ecam_spec.specs.declared.kinds.Level.{Level}
use Rattle.ecam_spec.specs.declared.kinds.Level.TheVariants.{One, Two, Three}
use Rattle.ecam_spec.specs.Places.{below}
use Rattle.ecam_spec.specs.Levels.{is_one, is_two, is_three}
use Rattle.ecam_spec.specs.Book.{Text}
use Rattle.ecam_spec.specs.Bytes.{place_of}
use Rattle.book_model.specs.View.{bytes_of}
use Rattle.book_model.specs.declared.draft.Alert.{Alert}

-- a level is the wanted one
abbrev pub is_level : Level → Level → Bool
is_level One = is_one
is_level Two = is_two
is_level Three = is_three

abbrev pub has_level : List Alert → Level → ℕ → Bool
has_level alerts wanted i = is_level wanted (get_or (map (λ a. a.level) alerts) i One)

-- the places of the alerts of one level, and of all by level
abbrev pub level_places : List Alert → Level → List ℕ
level_places alerts wanted = filter (has_level alerts wanted) (below (length alerts))

abbrev pub order_by : List Alert → List ℕ
order_by alerts = level_places alerts Three ++ level_places alerts Two ++ level_places alerts One

-- the secondaries of an alert by place
abbrev pub secondaries_by : List Text → Alert → List ℕ
secondaries_by names a = filter_map (place_of names) (map bytes_of a.secondary.items)

abbrev pub line_counts : List Alert → List ℕ
line_counts alerts = map (λ a. length a.lines.items) alerts

-- how many there are before each of these counts, where so many stand before the first
abbrev pub starts : ℕ → List ℕ → List ℕ
starts n [] = []
starts n (k ∷ ks) = n ∷ starts (n + k) ks

abbrev pub total : List ℕ → ℕ
total [] = 0
total (k ∷ ks) = k + total ks
