-- Which rows a status page shows.
use Rattle.std.proofs.Common.{◌≡◌, ℕ, ◌+◌, ◌*◌, ◌/◌, ◌%◌, ◌≤◌, max, List, [], ◌∷◌, length, drop, refl, sym, ◌∙◌, ap, arith}
use Rattle.std.specs.Prelude.{codes}
use Rattle.ecam_spec.specs.declared.kinds.Colour.TheVariants.{Green}
use Rattle.ecam_spec.specs.Picture.{Row, row, zone}
use Rattle.ecam_spec.specs.StatusPage.{status_pages, status_page}

pub no-rows : (rows : List Row) → length rows ≡ 0 → rows ≡ []
no-rows [] h = refl
no-rows (r ∷ rs) h = absurd (let w : ⊥ = omega (arith, h) in w)

some-page : (n : ℕ) → 1 ≤ n → max 1 ((n + 17) / 18) ≡ (n + 17) / 18
some-page n some = let one : 1 ≤ (n + 17) / 18 = omega arith in omega arith

-- the page of this number, where there are rows
pub page-is : (q many : ℕ) (rows : List Row) → many ≡ length rows → 1 ≤ many → status_page q rows ≡ zone 18 (drop (18 * (q % ((many + 17) / 18))) rows)
unfolding status_page status_pages
page-is q many [] long some = absurd (let w : ⊥ = omega (arith, long) in w)
page-is q many (r ∷ rs) long some =
    ap (λ n. zone 18 (drop (18 * (q % n)) (r ∷ rs))) (some-page (length (r ∷ rs)) (omega (arith, long)) ∙ ap (λ n. (n + 17) / 18) (sym long))

pub normal-page : (q : ℕ) → status_page q [] ≡ zone 18 (row Green (codes "NORMAL") ∷ [])
unfolding status_page
normal-page q = refl
