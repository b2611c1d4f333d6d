-- Lists of conditions by their numbers, one list for each operand.
use Rattle.std.specs.Prelude.{◌≡◌, ℕ, ◌==◌, ◌&&◌, ◌||◌, nat_lt, Bool, false, List, [], map, get_or, Vec}
use Rattle.std.specs.List.{list_any}
use Rattle.std.specs.declared.alloc.Global.{Global}
use Rattle.ecam_spec.specs.TermSize.{Placed}
use Rattle.watch_lists.specs.declared.number.Sizes.{Sizes}
use Rattle.watch_lists.specs.Naming.{names_at}

-- the list has condition j
abbrev pub has_term : List ℕ → ℕ → Bool
has_term terms j = list_any (λ t. t == j) terms

-- condition j is in the list of operand o
abbrev pub is_listed : List (List ℕ) → ℕ → ℕ → Bool
is_listed lists o j = has_term (get_or lists o []) j

-- the items of some lists
abbrev pub items_of : List (Vec ℕ Global) → List (List ℕ)
items_of lists = map (λ v. v.items) lists

-- condition t was put into the lists of these operands, and nothing else
abbrev pub Adds : ℕ → (ℕ → Bool) → List (List ℕ) → List (List ℕ) → Type 0
Adds t named old new = (o j : ℕ) → is_listed new o j ≡ ((t == j && named o) || is_listed old o j)

-- of the conditions below n each is in the lists of the operands that it names, and no others are
abbrev pub ListsBelow : Sizes → List Placed → ℕ → List (List ℕ) → Type 0
ListsBelow sizes ps n lists = (o j : ℕ) → is_listed lists o j ≡ (nat_lt j n && names_at sizes ps j o)

-- so many conditions more were put into the lists
abbrev pub NextListed : Sizes → List Placed → ℕ → ℕ → List (List ℕ) → List (List ℕ) → Type 0
NextListed sizes ps from to old new = ListsBelow sizes ps from old → ListsBelow sizes ps to new

-- no condition is in any list, or each is in the lists of all operands that it names
abbrev pub ListsNone : List (List ℕ) → Type 0
ListsNone lists = (o j : ℕ) → is_listed lists o j ≡ false

abbrev pub ListsAll : Sizes → List Placed → List (List ℕ) → Type 0
ListsAll sizes ps lists = (o j : ℕ) → is_listed lists o j ≡ names_at sizes ps j o
