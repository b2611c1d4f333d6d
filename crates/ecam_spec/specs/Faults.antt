-- Which fault of a book is told: the one with the least code, among these the one in the first section, and among
-- these the one of the least item, counted from 1. Item 0 is a section as a whole.
use Rattle.std.specs.Prelude.{ℕ, suc, Bool, true, false, List, [], ◌∷◌, Option, Some, None, option_map}
use Rattle.ecam_spec.specs.declared.kinds.Section.{Section}
use Rattle.ecam_spec.specs.declared.kinds.BookFault.{BookFault}

-- the number, counted from 1, of the first item that is so, where a test is given an item's place from 0 too
abbrev pub first_from : {X : Type 0} → ℕ → (ℕ → X → Bool) → List X → Option ℕ
first_from n is_so [] = None
first_from n is_so (x ∷ xs) = elim (is_so n x) [ true ↦ Some (suc n) | false ↦ first_from (suc n) is_so xs ]

abbrev pub first_item : {X : Type 0} → (ℕ → X → Bool) → List X → Option ℕ
first_item is_so xs = first_from 0 is_so xs

-- a fault of this code and section, at an item if there is one
abbrev pub fault_at : ℕ → Section → Option ℕ → Option BookFault
fault_at code section item = option_map (λ i. record { code = code; section = section; item = i }) item

-- a section as a whole, where it is so
abbrev pub whole : Bool → Option ℕ
whole true = Some 0
whole false = None
