-- Rows passed over or put, one after another.
use Rattle.std.proofs.Common.{◌≡◌, ℕ, ◌+◌, ◌-◌, ◌<◌, ◌≤◌, Bool, true, List, [], ◌∷◌, ◌++◌, length, drop, cond, sym, ◌∙◌, subst, arith}
use Rattle.std.proofs.lemmas.List.{append_assoc, append-nil, length-append, drop-append-le, drop_all}
use Rattle.ecam_spec.specs.Book.{Text}
use Rattle.ecam_spec.specs.declared.kinds.Colour.{Colour}
use Rattle.ecam_spec.specs.Picture.{Row, row}
use Rattle.zone_rows.specs.Tracked.{TrackedRows}
use Rattle.zone_rows.specs.Mended.{IsFilled, Appends}
use Rattle.zone_rows.proofs.Filling.{fill-none}
use Rattle.status_page.specs.declared.place.Place.{Place}
use Rattle.status_page.specs.Behind.{IsFilledBehind, AppendsBehind}

-- nothing more comes
pub behind-none : (p : Place) (t : TrackedRows) → AppendsBehind [] p p t t
behind-none p t from put start filled = subst (λ rows. IsFilledBehind from rows p start t) (sym (append-nil put)) filled

-- rows, and then further ones
pub behind-both : (these those : List Row) (a b c : Place) (x y z : TrackedRows) → AppendsBehind these a b x y → AppendsBehind those b c y z → AppendsBehind (these ++ those) a c x z
behind-both these those a b c x y z first second from put start filled =
    subst (λ rows. IsFilledBehind from rows c start z) (append_assoc put these those) (second from (put ++ these) start (first from put start filled))

-- a row of an earlier page is passed over
pub behind-skip : (r : Row) (p : Place) (t : TrackedRows) → 0 < p.skip → AppendsBehind (r ∷ []) p (record { skip = p.skip - 1; count = p.count }) t t
behind-skip r p t early from put start filled =
    let long : length (put ++ r ∷ []) ≡ length put + 1 = length-append put (r ∷ []) in
    let skip = filled.skip in
    record {
      behind =
          subst (λ rows. IsFilled 15 18 rows p.count start t) (drop_all from put (omega arith) ∙ sym (drop_all from (put ++ r ∷ []) (omega arith))) filled.behind;
      skip = omega arith;
    }

-- a row of this page is put
pub behind-put : (r : Row) (p : Place) (later : ℕ) (old new : TrackedRows) → p.skip ≤ 0 → Appends 15 18 (r ∷ []) p.count later old new → AppendsBehind (r ∷ []) p (record { skip = 0; count = later }) old new
behind-put r p later old new here puts from put start filled =
    let long : length (put ++ r ∷ []) ≡ length put + 1 = length-append put (r ∷ []) in
    let skip = filled.skip in
    let reached : from ≤ length put = omega arith in
    record {
      behind = subst (λ rows. IsFilled 15 18 rows later start new) (sym (drop-append-le from put (r ∷ []) reached)) (puts (drop from put) start filled.behind);
      skip = omega arith;
    }

-- rows that come where a test says so
pub behind-if : (said told : Bool) (more : List Row) (p q : Place) (x y : TrackedRows) → told ≡ true → AppendsBehind more p q x y → AppendsBehind (cond told more []) p q x y
behind-if said told more p q x y h appends = subst (λ b. AppendsBehind (cond b more []) p q x y) (sym h) appends

-- the text that was put is another name of the text
pub behind-text : (colour : Colour) (text bytes : Text) (p q : Place) (x y : TrackedRows) → text ≡ bytes → AppendsBehind (row colour text ∷ []) p q x y → AppendsBehind (row colour bytes ∷ []) p q x y
behind-text colour text bytes p q x y same appends = subst (λ t. AppendsBehind (row colour t ∷ []) p q x y) same appends

-- before any row came
pub behind-start : (from : ℕ) (t : TrackedRows) → IsFilledBehind from [] (record { skip = from; count = 0 }) t t
behind-start from t = record {
  behind = subst (λ rows. IsFilled 15 18 rows 0 t t) (sym (drop_all from [] (omega arith))) (fill-none 15 18 t);
  skip = let none : from ≡ from - 0 = omega arith in none;
}
