-- How a zone is filled: nothing put yet, one row more, and blank rows to its end.
use Rattle.std.proofs.Common.{◌≡◌, ℕ, ◌+◌, ◌-◌, ◌<◌, ◌≤◌, min, ◌||◌, List, [], ◌∷◌, ◌++◌, length, take, replicate, inl, inr, refl, sym, ◌∙◌, ap, arith, append_assoc, length-append}
use Rattle.std.proofs.Math.Bool.{or-false}
use Rattle.std.proofs.lemmas.Bool.{cases_lt}
use Rattle.std.proofs.lemmas.List.{take_all, take-append-le, take-replicate, append-nil, replicate-append-replicate}
use Rattle.std.proofs.Math.Seq.{take-append-add}
use Rattle.ecam_spec.specs.Picture as spec
use Rattle.zone_rows.specs.Tracked.{TrackedRows, IsWhole, changed_at}
use Rattle.zone_rows.specs.Mended.{put_rows, Mends, IsFilled, Appends}
use Rattle.zone_rows.proofs.Mending.{stayed, mends-both}
use Rattle.zone_rows.proofs.Places.{room-there, put-none}

-- nothing was put yet
pub fill-none : (first room : ℕ) (t : TrackedRows) → IsFilled first room [] 0 t t
fill-none first room t = record {
  rows = record {
    rows =
        sym (ap (λ rs. put_rows first rs t.rows) (take_all room [] (omega arith))
        ∙ put-none first t.rows);
    changed = λ i h. sym (ap (λ b. changed_at t i || b) (stayed t t i refl) ∙ or-false (changed_at t i));
  };
  many = omega arith;
}

-- nothing more is put
pub append-none : (first room count : ℕ) (t : TrackedRows) → Appends first room [] count count t t
append-none first room count t put start filled = rw (append-nil put) filled

-- rows, and then further ones
pub append-both : (first room : ℕ) (these those : List spec.Row) (a b c : ℕ) (x y z : TrackedRows) → Appends first room these a b x y → Appends first room those b c y z → Appends first room (these ++ those) a c x z
append-both first room these those a b c x y z p q put start filled =
    let both : IsFilled first room (put ++ these ++ those) c start z = q (put ++ these) start (p put start filled) in
    rw (append_assoc put these those) at both

-- a row for which there is room is put behind those that were put
pub append-set : (first room count : ℕ) (r : spec.Row) (old new : TrackedRows) → IsWhole old → first + room ≤ 36 → count < room → Mends (first + count) (r ∷ []) old new → Appends first room (r ∷ []) count (count + 1) old new
append-set first room count r old new whole within fits s put start filled =
    let many : length put ≡ count = omega (arith, filled.many) in
    let mended : Mends first put start old = rw (take_all room put (omega (arith, many))) at filled.rows in
    let next : Mends (first + length put) (r ∷ []) old new = rw (sym many) at s in
    let start_long : length start.rows ≡ 36 = room-there first 36 put start.rows (ap length (sym mended.rows) ∙ whole.rows) (omega (arith, many)) in
    let long : length (put ++ r ∷ []) ≡ length put + 1 = length-append put (r ∷ []) in
    let all : take room (put ++ r ∷ []) ≡ put ++ r ∷ [] = take_all room (put ++ r ∷ []) (omega (arith, long, many)) in
    record {
      rows = rw all (mends-both first put (r ∷ []) start old new (omega (arith, start_long, many)) mended next);
      many = omega (arith, long, many);
    }

-- once a row found no room, nothing more is put or counted
pub append-full : (first room count : ℕ) (more : List spec.Row) (t : TrackedRows) → room < count → Appends first room more count count t t
append-full first room count more t full put start filled =
    let long : length (put ++ more) ≡ length put + length more = length-append put more in
    record {
      rows = rw (take-append-le room put more (omega (arith, filled.many))) filled.rows;
      many = omega (arith, long, filled.many);
    }

-- a row for which there is none is only counted
pub append-past : (first room count : ℕ) (r : spec.Row) (t : TrackedRows) → room ≤ count → Appends first room (r ∷ []) count (room + 1) t t
append-past first room count r t full put start filled =
    let many : room ≤ length put = omega (arith, filled.many) in
    let long : length (put ++ r ∷ []) ≡ length put + 1 = length-append put (r ∷ []) in
    record {
      rows = rw (take-append-le room put (r ∷ []) many) filled.rows;
      many = omega (arith, long, many);
    }

-- so many blank rows after those that were put make the zone
pub zone-blanks : (room n : ℕ) (put : List spec.Row) → room ≤ length put + n → take room (put ++ replicate n spec.blank_row) ≡ spec.zone room put
unfolding spec.zone
zone-blanks room n put enough =
    elim (cases_lt (length put) room) [
      | inl h ↦
          let m = room - length put in
          let split : room ≡ length put + (room - length put) = omega arith in
          let cut : (k : ℕ) → room - length put ≤ k → take room (put ++ replicate k spec.blank_row) ≡ put ++ replicate (room - length put) spec.blank_row =
          λ k le. ap (λ x. take x (put ++ replicate k spec.blank_row)) split
          ∙ take-append-add put (replicate k spec.blank_row) (room - length put)
          ∙ ap (λ rs. put ++ rs) (take-replicate (room - length put) k spec.blank_row le) in
          cut n (omega arith) ∙ sym (cut room (omega arith))
      | inr h ↦ take-append-le room put (replicate n spec.blank_row) h ∙ sym (take-append-le room put (replicate room spec.blank_row) h)
    ]

-- blank rows that were put one after another up to row i
abbrev pub Blanked : (first room from i : ℕ) (old now : TrackedRows) → Type 0
Blanked first room from i old now =
    (put : List spec.Row) (start : TrackedRows) → IsFilled first room put from start old
    → IsFilled first room (put ++ replicate (i - from) spec.blank_row) i start now

pub blanked-none : (first room from : ℕ) (t : TrackedRows) → Blanked first room from from t t
blanked-none first room from t put start filled =
    let none : from - from ≡ 0 = omega arith in
    rw (none, append-nil put) filled

pub blanked-more : (first room from i later : ℕ) (old now next : TrackedRows) → from ≤ i → i < room → Blanked first room from i old now
    → Appends first room (spec.blank_row ∷ []) i later now next → later ≡ min (i + 1) (room + 1) → Blanked first room from (i + 1) old next
blanked-more first room from i later old now next begun fits so_far more counted put start filled =
    let here : later ≡ i + 1 = omega (arith, counted) in
    let step = more (put ++ replicate (i - from) spec.blank_row) start (so_far put start filled) in
    let one : i + 1 - from ≡ i - from + 1 = omega arith in
    let joined : put ++ replicate (i - from) spec.blank_row ++ spec.blank_row ∷ [] ≡ put ++ replicate (i + 1 - from) spec.blank_row =
    append_assoc put (replicate (i - from) spec.blank_row) (spec.blank_row ∷ [])
    ∙ ap (λ rs. put ++ rs) (replicate-append-replicate (i - from) 1 spec.blank_row ∙ ap (λ n. replicate n spec.blank_row) (sym one)) in
    rw (here, joined) at step

-- up to its last row they make the zone
pub blanked-zone : (first room from i : ℕ) (old now : TrackedRows) → (from ≤ room → i ≤ room) → room ≤ i → from ≤ i → Blanked first room from i old now
    → (put : List spec.Row) (start : TrackedRows) → IsFilled first room put from start old → Mends first (spec.zone room put) start now
blanked-zone first room from i old now upper lower begun all put start filled =
    let enough : room ≤ length put + (i - from) = omega (arith, filled.many) in
    rw (zone-blanks room (i - from) put enough) at (all put start filled).rows
