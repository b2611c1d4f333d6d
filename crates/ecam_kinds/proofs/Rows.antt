-- Rows of the program against rows of the definitions.
use Rattle.std.proofs.Common.{◌≡◌, ℕ, zero, suc, ◌<◌, List, [], ◌∷◌, length, get_or, set, replicate, refl, ap, ◌∙◌, arith}
use Rattle.std.specs.Prelude.{codes}
use Rattle.ecam_spec.specs.declared.kinds.Colour.TheVariants.{Amber}
use Rattle.std.proofs.lemmas.List.{map-set}
use Rattle.ecam_spec.specs.Picture as spec
use Rattle.ecam_kinds.specs.declared.picture.Row.{Row}
use Rattle.ecam_kinds.specs.Shown.{row_of, rows_of}

-- rows that are each blank are blank rows
pub blank_rows : (rs : List Row) (n : ℕ) → length rs ≡ n → ((i : ℕ) (d : Row) → i < n → row_of (get_or rs i d) ≡ spec.blank_row) → rows_of rs ≡ replicate n spec.blank_row
blank_rows [] zero e each = refl
blank_rows [] (suc n) e each = absurd (let w : ⊥ = omega arith in w)
blank_rows (r ∷ rs) zero e each = absurd (let w : ⊥ = omega arith in w)
blank_rows (r ∷ rs) (suc n) e each =
    let first : row_of r ≡ spec.blank_row = each 0 r (omega arith) in
    let others : rows_of rs ≡ replicate n spec.blank_row = blank_rows rs n (omega arith) (λ i d h. each (suc i) d (omega arith)) in
    ap (λ x. x ∷ rows_of rs) first ∙ ap (λ xs. spec.blank_row ∷ xs) others

-- the fault row over blank ones
pub dead_rows : (rs : List Row) (r : Row) → rows_of rs ≡ spec.blank → row_of r ≡ spec.row Amber (codes "FWS FWC 1+2 FAULT") → rows_of (set rs 0 r) ≡ spec.dead
unfolding spec.dead spec.blank spec.zone
dead_rows rs r blank first = map-set row_of rs 0 r ∙ ap (λ xs. set xs 0 (row_of r)) blank ∙ ap (λ x. set spec.blank 0 x) first
