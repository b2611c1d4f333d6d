-- Zones side by side: what is mended in turn makes the whole picture.
use Rattle.std.proofs.Common.{replicate, ◌≡◌, ℕ, ◌+◌, ◌≤◌, List, [], ◌++◌, length, take, drop, refl, sym, ◌∙◌, ap, arith, append_assoc, length-append}
use Rattle.std.proofs.lemmas.List.{length-take-le, length-replicate, append-nil, drop_all, drop_at}
use Rattle.std.proofs.Math.Seq.{take-append_seam}
use Rattle.ecam_spec.specs.Picture as spec
use Rattle.zone_rows.specs.Tracked.{TrackedRows, IsWhole}
use Rattle.zone_rows.specs.Mended.{put_rows, Mends}
use Rattle.zone_rows.specs.Zones.{HaveZoneLengths, StandAt, ZonesStand, IsMended}
use Rattle.zone_rows.proofs.Mending.{mends-both}
use Rattle.zone_rows.proofs.Places.{drop-behind}

-- a zone that stands still stands once a zone before it is mended
pub stands_behind : (at : ℕ) (put : List spec.Row) (old new : TrackedRows) (from : ℕ) (these : List spec.Row) → at + length put ≤ length old.rows → at + length put ≤ from → Mends at put old new → StandAt from these old.rows → StandAt from these new.rows
stands_behind at put old new from these within before mended there =
    ap (λ rs. take (length these) rs) (ap (drop from) mended.rows ∙ drop-behind at put old.rows within from before) ∙ there

moved : (n m : ℕ) (put : List spec.Row) (old new : TrackedRows) → n ≡ m → Mends n put old new → Mends m put old new
moved n m put old new e h = rw e at h

-- the five zones of a picture
five : (left right flags display lamps : List spec.Row) → HaveZoneLengths left right flags display lamps → (s a b c d e : TrackedRows) → IsWhole s
    → Mends 0 left s a → Mends 7 right a b → Mends 14 flags b c → Mends 15 display c d → Mends 33 lamps d e
    → Mends 0 (left ++ right ++ flags ++ display ++ lamps) s e
five left right flags display lamps long s a b c d e whole l r f p m =
    let two : length (left ++ right) ≡ 14 = omega (arith, length-append left right, long.left, long.right) in
    let three : length (left ++ right ++ flags) ≡ 15 = omega (arith, length-append (left ++ right) flags, two, long.flags) in
    let four : length (left ++ right ++ flags ++ display) ≡ 33 = omega (arith, length-append (left ++ right ++ flags) display, three, long.display) in
    let lr = mends-both 0 left right s a b (omega (arith, long.left, whole.rows)) l (moved 7 (0 + length left) right a b (omega (arith, long.left)) r) in
    let lrf = mends-both 0 (left ++ right) flags s b c (omega (arith, two, whole.rows)) lr (moved 14 (0 + length (left ++ right)) flags b c (omega (arith, two)) f) in
    let lrfp = mends-both 0 (left ++ right ++ flags) display s c d (omega (arith, three, whole.rows)) lrf (moved 15 (0 + length (left ++ right ++ flags)) display c d (omega (arith, three)) p) in
    mends-both 0 (left ++ right ++ flags ++ display) lamps s d e (omega (arith, four, whole.rows)) lrfp
    (moved 33 (0 + length (left ++ right ++ flags ++ display)) lamps d e (omega (arith, four)) m)

whole-put : (put old : List spec.Row) → length put ≡ length old → put_rows 0 put old ≡ put
whole-put put old e = ap (λ rs. put ++ rs) (drop_all (0 + length put) old (omega (arith, e))) ∙ append-nil put

pub five_zones : (left right flags display lamps : List spec.Row) → HaveZoneLengths left right flags display lamps → (s a b c d e : TrackedRows) → IsWhole s
    → Mends 0 left s a → Mends 7 right a b → Mends 14 flags b c → Mends 15 display c d → Mends 33 lamps d e
    → IsMended (left ++ right ++ flags ++ display ++ lamps) s e
five_zones left right flags display lamps long s a b c d e whole l r f p m =
    let all = five left right flags display lamps long s a b c d e whole l r f p m in
    let lengths : length (left ++ right ++ flags ++ display ++ lamps) ≡ 36 =
    omega (
      arith,
      length-append (left ++ right ++ flags ++ display) lamps,
      length-append (left ++ right ++ flags) display,
      length-append (left ++ right) flags,
      length-append left right,
      long.left,
      long.right,
      long.flags,
      long.display,
      long.lamps,
    ) in
    record {
      rows = all.rows ∙ whole-put (left ++ right ++ flags ++ display ++ lamps) s.rows (lengths ∙ sym whole.rows);
      changed = all.changed;
    }

there : (at : ℕ) (front these rest picture : List spec.Row) → length front ≡ at → picture ≡ front ++ (these ++ rest) → StandAt at these picture
there at front these rest picture long e =
    ap (λ rs. take (length these) (drop at rs)) e
    ∙ ap (take (length these)) (drop_at front (these ++ rest) at long)
    ∙ take-append_seam these rest

-- the zones of a picture stand in it
pub zones_stand : (left right flags display lamps : List spec.Row) → HaveZoneLengths left right flags display lamps → ZonesStand left right flags display lamps (left ++ right ++ flags ++ display ++ lamps)
zones_stand left right flags display lamps long =
    let picture = left ++ right ++ flags ++ display ++ lamps in
    let two : length (left ++ right) ≡ 14 = omega (arith, length-append left right, long.left, long.right) in
    let three : length (left ++ right ++ flags) ≡ 15 = omega (arith, length-append (left ++ right) flags, two, long.flags) in
    let four : length (left ++ right ++ flags ++ display) ≡ 33 = omega (arith, length-append (left ++ right ++ flags) display, three, long.display) in
    let behind_right : left ++ right ++ flags ++ display ++ lamps ≡ (left ++ right) ++ (flags ++ (display ++ lamps)) =
    append_assoc (left ++ right ++ flags) display lamps ∙ append_assoc (left ++ right) flags (display ++ lamps) in
    let behind_left = behind_right ∙ append_assoc left right (flags ++ (display ++ lamps)) in
    record {
      left = there 0 [] left (right ++ (flags ++ (display ++ lamps))) (left ++ right ++ flags ++ display ++ lamps) refl behind_left;
      right = there 7 left right (flags ++ (display ++ lamps)) (left ++ right ++ flags ++ display ++ lamps) long.left behind_left;
      flags = there 14 (left ++ right) flags (display ++ lamps) (left ++ right ++ flags ++ display ++ lamps) two behind_right;
      display = there 15 (left ++ right ++ flags) display lamps (left ++ right ++ flags ++ display ++ lamps) three (append_assoc (left ++ right ++ flags) display lamps);
      lamps =
          there 33 (left ++ right ++ flags ++ display) lamps [] (left ++ right ++ flags ++ display ++ lamps) four
          (ap (λ rs. left ++ right ++ flags ++ display ++ rs) (sym (append-nil lamps)));
    }

-- a zone has all its rows
pub zone_long : (n : ℕ) (rows : List spec.Row) → length (spec.zone n rows) ≡ n
unfolding spec.zone
zone_long n rows =
    length-take-le n (rows ++ replicate n spec.blank_row)
    (omega (arith, length-append rows (replicate n spec.blank_row), length-replicate n spec.blank_row))
