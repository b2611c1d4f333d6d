-- The picture that stands, mended row by row.
use Rattle.std.proofs.Common.{◌≡◌, ℕ, zero, suc, ◌+◌, ◌<◌, ◌≤◌, Bool, true, false, not, ◌||◌, List, [], ◌∷◌, ◌++◌, length, take, get_or, replicate, refl, sym, ◌∙◌, ap, subst, arith}
use Rattle.std.proofs.lemmas.List.{take_more, take_all, length-take, append-nil, drop_all, get_or-replicate, ext_get_or}
use Rattle.std.proofs.Math.Bool.{beq}
use Rattle.std.proofs.Math.Seq.{drop-cons}
use Rattle.std.specs.List.{list_any}
use Rattle.ecam_spec.specs.Picture.{Row, row, blank_row, same_row}
use Rattle.zone_rows.specs.Tracked.{TrackedRows}
use Rattle.zone_rows.specs.Mended.{Mends}
use Rattle.zone_rows.specs.Zones.{IsMended}
use Rattle.fwc_pair.specs.Faces.{IsShown}
use Rattle.zone_rows.proofs.Mending.{mends-both, mends_kept}
use Rattle.zone_rows.proofs.Places.{length-put, row-behind}

-- nothing is mended yet
pub mended-none : (picture : List Row) (t : TrackedRows) → Mends 0 (take 0 picture) t t
mended-none picture t = mends_kept 0 [] t refl

-- and one row more
pub mended-more : (picture : List Row) (i : ℕ) (start now next : TrackedRows) → length start.rows ≡ 36 → length picture ≡ 36 → i < 36
    → Mends 0 (take i picture) start now → Mends i (get_or picture i blank_row ∷ []) now next → Mends 0 (take (i + 1) picture) start next
mended-more picture i start now next whole long within before row =
    let front : length (take i picture) ≡ i = length-take i picture ∙ omega arith in
    let at : 0 + length (take i picture) ≡ i = omega arith in
    subst (λ these. Mends 0 these start next) (sym (take_more picture i blank_row (omega arith)))
    (mends-both 0 (take i picture) (get_or picture i blank_row ∷ []) start now next (omega arith) before
    (subst (λ n. Mends n (get_or picture i blank_row ∷ []) now next) (sym at) row))

-- a row that stands is mended as it is
pub mended-as-is : (t : TrackedRows) (i : ℕ) (r : Row) → i < length t.rows → get_or t.rows i blank_row ≡ r → Mends i (r ∷ []) t t
mended-as-is t i r within is =
    mends_kept i (r ∷ []) t (ap (take 1) (drop-cons t.rows i blank_row within) ∙ ap (λ x. x ∷ []) is)

-- what isn't mended yet is as it was
pub row-waits : (picture : List Row) (i : ℕ) (start now : TrackedRows) → length start.rows ≡ 36 → length picture ≡ 36 → i < 36
    → Mends 0 (take i picture) start now → get_or now.rows i blank_row ≡ get_or start.rows i blank_row
row-waits picture i start now whole long within mended =
    let front : length (take i picture) ≡ i = length-take i picture ∙ omega arith in
    ap (λ rs. get_or rs i blank_row) mended.rows
    ∙ row-behind 0 (take i picture) start.rows (omega arith) i (omega arith)

-- rows of which some are mended are as many as before
mended-whole : (picture : List Row) (n : ℕ) (start now : TrackedRows) → length start.rows ≡ 36 → n ≤ 36 → Mends 0 (take n picture) start now → length now.rows ≡ 36
mended-whole picture n start now whole within mended =
    ap length mended.rows ∙ length-put 0 (take n picture) start.rows (omega (arith, whole, length-take n picture)) ∙ whole

-- rows of which each stands are mended next as they are
pub mended-kept : (picture : List Row) (from n : ℕ) (start now : TrackedRows) → length start.rows ≡ 36 → length picture ≡ 36 → from + n ≤ 36
    → ((i : ℕ) → from ≤ i → i < from + n → get_or start.rows i blank_row ≡ get_or picture i blank_row)
    → Mends 0 (take from picture) start now → Mends 0 (take (from + n) picture) start now
mended-kept picture from zero start now whole long within stand before =
    subst (λ k. Mends 0 (take k picture) start now) (let e : from ≡ from + 0 = omega arith in e) before
mended-kept picture from (suc n) start now whole long within stand before =
    let i = from + n in
    let so_far = mended-kept picture from n start now whole long (omega (arith, within)) (λ j ge lt. stand j ge (omega (arith, lt))) before in
    let there : length now.rows ≡ 36 = mended-whole picture (from + n) start now whole (omega (arith, within)) so_far in
    let waits = row-waits picture (from + n) start now whole long (omega (arith, within)) so_far in
    subst (λ k. Mends 0 (take k picture) start now) (let e : from + n + 1 ≡ from + suc n = omega arith in e)
    (mended-more picture (from + n) start now now whole long (omega (arith, within)) so_far
    (mended-as-is now (from + n) (get_or picture (from + n) blank_row) (omega (arith, there, within)) (waits ∙ stand (from + n) (omega arith) (omega arith))))

-- with all rows mended the picture stands
pub mended-all : (picture : List Row) (start now : TrackedRows) → length start.rows ≡ 36 → length picture ≡ 36 → Mends 0 picture start now → IsMended picture start now
mended-all picture start now whole long mended = record {
  rows = mended.rows ∙ ap (λ rs. picture ++ rs) (drop_all (0 + length picture) start.rows (omega arith)) ∙ append-nil picture;
  changed = mended.changed;
}

-- rows that stand are mended as they are
pub mended-stands : (picture : List Row) (t : TrackedRows) → length t.rows ≡ 36 → length picture ≡ 36
    → ((i : ℕ) → i < 36 → get_or t.rows i blank_row ≡ get_or picture i blank_row) → IsMended picture t t
mended-stands picture t whole long same =
    let stand : t.rows ≡ picture = ext_get_or blank_row t.rows picture (whole ∙ sym long) (λ i within. same i (omega (arith, whole))) in
    mended-all picture t t whole long
    (mends_kept 0 picture t (ap (take (length picture)) stand ∙ take_all (length picture) picture (omega arith)))

-- from rows of which none was told as changed, exactly those that differ are told
pub mended-shown : (picture old now : List Row) (clear flags : List Bool) → ((i : ℕ) → i < 36 → get_or clear i false ≡ false)
    → IsMended picture (record { rows = old; changed = clear }) (record { rows = now; changed = flags }) → IsShown picture old now flags
mended-shown picture old now clear flags none mended = record {
  rows = mended.rows;
  changed = λ i within.
      mended.changed i within
      ∙ ap (λ t. t || not (same_row (get_or old i blank_row) (get_or now i blank_row))) (none i within)
      ∙ ap (λ p. not (same_row (get_or old i blank_row) (get_or p i blank_row))) mended.rows;
}

pub none-told : (flags : List Bool) → flags ≡ replicate 36 false → (i : ℕ) → i < 36 → get_or flags i false ≡ false
none-told flags none i within = ap (λ fs. get_or fs i false) none ∙ get_or-replicate 36 i false false within

pub or-parts : (a b : Bool) → (a || b) ≡ false → (a ≡ false) × (b ≡ false)
or-parts true b e = absurd (let w : ⊥ = cc in w)
or-parts false b e = (refl, e)

-- where a search for `true` finds none, each flag is false
pub none-set : (flags : List Bool) (i : ℕ) → list_any (λ f. beq f true) flags ≡ false → get_or flags i false ≡ false
none-set [] zero none = refl
none-set [] (suc i) none = refl
none-set (true ∷ flags) i none = absurd (let w : ⊥ = cc in w)
none-set (false ∷ flags) zero none = refl
none-set (false ∷ flags) (suc i) none = none-set flags i none
