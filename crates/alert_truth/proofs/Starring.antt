-- The stars of a book's alerts, one alert after another.
use Rattle.std.proofs.Common.{◌≡◌, ℕ, zero, suc, ◌<◌, ◌≤◌, Bool, true, false, not, ◌&&◌, ◌==◌, List, [], length, get_or, replicate, Option, Some, None, cond, inl, inr, refl, sym, ap, ◌∙◌, subst, arith}
use Rattle.std.specs.Prelude.{find, is_some}
use Rattle.std.specs.List.{list_any}
use Rattle.std.proofs.lemmas.Bool.{cases_Bool, cases_lt}
use Rattle.std.proofs.lemmas.List.{length-set, get_or-set_same, get_or-set_other, get_or-replicate}
use Rattle.ecam_spec.specs.Past.{Signal, previous, previously}
use Rattle.ecam_spec.specs.Book.{Book}
use Rattle.ecam_spec.specs.Alert as alert
use Rattle.ecam_spec.specs.Situation.{primaries}
use Rattle.wakes.specs.Marks.{is_marked, room}
use Rattle.wakes.specs.declared.marked.Marked.{Marked}
use Rattle.alert_truth.specs.Alerts.{Tells, starred_where, starred_by_where, up_where}
use Rattle.alert_truth.specs.Listed.{ListersFit, primary_of}
use Rattle.alert_truth.specs.Stars.{StarsFit, StarsStand, HasPlace, Takes, IsAway, IsUnasked}
use Rattle.alert_truth.specs.declared.stars.Stars.{Stars}
use Rattle.alert_truth.proofs.Blank.{blank-at}
use Rattle.alert_truth.proofs.Listings.{secondaries_of, find-is_some, same-primary}

-- alert a is settled
pub record IsTaken (b : Book) (flags : List Bool) (now : Stars) (a : ℕ) : Type 0 where
  pub primaries : get_or now.primaries.items a None ≡ primary_of b flags a
  pub starred : get_or now.starred.items a false ≡ is_some (primary_of b flags a)
  pub up : get_or now.up.items a false ≡ (get_or flags a false && not (is_some (primary_of b flags a)))

-- or is as it was
pub record IsLeft (initial now : Stars) (a : ℕ) : Type 0 where
  pub primaries : get_or now.primaries.items a None ≡ get_or initial.primaries.items a None
  pub starred : get_or now.starred.items a false ≡ get_or initial.starred.items a false
  pub up : get_or now.up.items a false ≡ get_or initial.up.items a false

-- of the alerts that are asked those below i are settled, and the others are as they were
pub record IsHalfTaken (b : Book) (flags : List Bool) (initial now : Stars) (asked : Marked) (i : ℕ) : Type 0 where
  pub fits : StarsFit b now
  pub keeps : now.asked ≡ asked
  pub taken : (a : ℕ) → a < i → is_marked asked a ≡ true → IsTaken b flags now a
  pub unasked : (a : ℕ) → is_marked asked a ≡ false → IsLeft initial now a
  pub left : (a : ℕ) → i ≤ a → IsLeft initial now a

module _ (b : Book) (flags : List Bool) (initial : Stars) (asked : Marked) where
  pub place-of-alert : (now : Stars) (i : ℕ) → i < length b.alerts → IsHalfTaken b flags initial now asked i → HasPlace i now
  place-of-alert now i within half = record {
    primaries = omega (arith, within, half.fits.primaries);
    starred = omega (arith, within, half.fits.starred);
    up = omega (arith, within, half.fits.up);
  }

  -- one more is settled
  pub one-taken : (now next : Stars) (i : ℕ) → i < length b.alerts → is_marked asked i ≡ true → Takes i (get_or flags i false) (primary_of b flags i) now next
      → IsHalfTaken b flags initial now asked i → IsHalfTaken b flags initial next asked (suc i)
  one-taken now next i within is_asked takes half =
      let has = place-of-alert now i within half in
      let primary = primary_of b flags i in
      let other : (a : ℕ) → (a ≡ i → ⊥) → IsLeft now next a = λ a apart. record {
        primaries = ap (λ xs. get_or xs a None) takes.primaries ∙ get_or-set_other now.primaries.items i a primary None apart;
        starred = ap (λ xs. get_or xs a false) takes.starred ∙ get_or-set_other now.starred.items i a (is_some primary) false apart;
        up = ap (λ xs. get_or xs a false) takes.up ∙ get_or-set_other now.up.items i a (get_or flags i false && not (is_some primary)) false apart;
      } in
      let stays : (a : ℕ) → (a ≡ i → ⊥) → IsLeft initial now a → IsLeft initial next a = λ a apart was.
      let same = other a apart in
      record {
        primaries = same.primaries ∙ was.primaries;
        starred = same.starred ∙ was.starred;
        up = same.up ∙ was.up;
      } in
      let own : IsTaken b flags next i = record {
        primaries = ap (λ xs. get_or xs i None) takes.primaries ∙ get_or-set_same now.primaries.items i primary None has.primaries;
        starred = ap (λ xs. get_or xs i false) takes.starred ∙ get_or-set_same now.starred.items i (is_some primary) false has.starred;
        up = ap (λ xs. get_or xs i false) takes.up ∙ get_or-set_same now.up.items i (get_or flags i false && not (is_some primary)) false has.up;
      } in
      record {
        fits = record {
          listers = subst (ListersFit b) (sym takes.listers) half.fits.listers;
          asked = ap (λ (m : Marked). room m) takes.asked ∙ half.fits.asked;
          primaries = ap length takes.primaries ∙ length-set now.primaries.items i primary ∙ half.fits.primaries;
          starred = ap length takes.starred ∙ length-set now.starred.items i (is_some primary) ∙ half.fits.starred;
          up = ap length takes.up ∙ length-set now.up.items i (get_or flags i false && not (is_some primary)) ∙ half.fits.up;
        };
        keeps = takes.asked ∙ half.keeps;
        taken = λ a below is. elim (cases_lt a i) [
          | inl earlier ↦
              let was = half.taken a earlier is in
              let same = other a (λ e. omega (arith, e, earlier)) in
              record {
                primaries = same.primaries ∙ was.primaries;
                starred = same.starred ∙ was.starred;
                up = same.up ∙ was.up;
              }
          | inr reached ↦ let same : i ≡ a = omega (arith, reached, below) in subst (IsTaken b flags next) same own
        ];
        unasked = λ a off. stays a (λ e. (let w : true ≡ false = sym is_asked ∙ ap (is_marked asked) (sym e) ∙ off in cc)) (half.unasked a off);
        left = λ a from. stays a (λ e. omega (arith, e, from)) (half.left a (omega (arith, from)));
      }

  -- those that aren't asked are passed over
  pub half-on : (now : Stars) (i j : ℕ) → i ≤ j → ((a : ℕ) → i ≤ a → a < j → is_marked asked a ≡ false)
      → IsHalfTaken b flags initial now asked i → IsHalfTaken b flags initial now asked j
  half-on now i j order none half = record {
    fits = half.fits;
    keeps = half.keeps;
    taken = λ a below is. elim (cases_lt a i) [
      | inl earlier ↦ half.taken a earlier is
      | inr past ↦ absurd (let w : true ≡ false = sym is ∙ none a past below in cc)
    ];
    unasked = half.unasked;
    left = λ a from. half.left a (omega (arith, from, order));
  }

first-of : (x : Bool) (q : ℕ → Bool) (ps : List ℕ) → cond x (find q ps) None ≡ cond (x && list_any q ps) (find q ps) None
first-of false q ps = refl
first-of true q ps = by_some (find q ps) (list_any q ps) (find-is_some q ps)
  where
    by_some : (o : Option ℕ) (b : Bool) → is_some o ≡ b → o ≡ cond b o None
    by_some None true e = refl
    by_some None false e = refl
    by_some (Some x) true e = refl
    by_some (Some x) false e = absurd (let w : true ≡ false = e in cc)

some-of : (x : Bool) (q : ℕ → Bool) (ps : List ℕ) → is_some (cond x (find q ps) None) ≡ (x && list_any q ps)
some-of false q ps = refl
some-of true q ps = find-is_some q ps

module _ (b : Book) (active : ℕ → Signal) where
  by-first : (a k : ℕ) → cond (active a k) (find (λ p. active p k) (primaries b a)) None ≡ starred_by_where b active a k
  unfolding alert.starred alert.starred_by
  by-first a k = first-of (active a k) (λ p. active p k) (primaries b a)

  pub starred-some : (a k : ℕ) → is_some (starred_by_where b active a k) ≡ starred_where b active a k
  unfolding alert.starred
  starred-some a k = ap is_some (sym (by-first a k)) ∙ some-of (active a k) (λ p. active p k) (primaries b a)

  starred-before : (a k : ℕ) → is_some (previously (starred_by_where b active a) k) ≡ previous (starred_where b active a) k
  unfolding previous
  starred-before a zero = refl
  starred-before a (suc k) = starred-some a k

  up-before : (a k : ℕ) → (previous (active a) k && not (previous (starred_where b active a) k)) ≡ previous (up_where b active a) k
  unfolding previous alert.up
  up-before a zero = refl
  up-before a (suc k) = refl

  -- an alert whose primary stays stays starred, or not
  pub still-star : (a k : ℕ) → starred_by_where b active a k ≡ previously (starred_by_where b active a) k → starred_where b active a k ≡ previous (starred_where b active a) k
  still-star a k same = sym (starred-some a k) ∙ ap is_some same ∙ starred-before a k

  -- and up, where it stays active or not
  pub still-up : (a k : ℕ) → active a k ≡ previous (active a) k → starred_by_where b active a k ≡ previously (starred_by_where b active a) k → up_where b active a k ≡ previous (up_where b active a) k
  unfolding alert.up
  still-up a k still same =
      ap (λ x. x && not (starred_where b active a k)) still
      ∙ ap (λ x. previous (active a) k && not x) (still-star a k same) ∙ up-before a k

  -- where an alert is as active as before, and so is each that lists it, it is starred by whom it was before
  pub still-one : (a k : ℕ) → active a k ≡ previous (active a) k
      → ((p : ℕ) → p < length b.alerts → list_any (λ s. s == a) (get_or (secondaries_of b) p []) ≡ true → active p k ≡ previous (active p) k)
      → starred_by_where b active a k ≡ previously (starred_by_where b active a) k
  unfolding previous
  still-one a zero own still = sym (by-first a 0) ∙ ap (λ x. cond x (find (λ p. active p 0) (primaries b a)) None) own
  still-one a (suc k) own still =
      sym (by-first a (suc k))
      ∙ ap (λ x. cond x (find (λ p. active p (suc k)) (primaries b a)) None) own
      ∙ ap (λ o. cond (active a k) o None) (same-primary b a (λ p. active p (suc k)) (λ p. active p k) still)
      ∙ by-first a k

  -- the stars stand for one moment more, where those that aren't asked stay
  module _ (flags : List Bool) (initial now : Stars) (asked : Marked) (turned : List ℕ) (k : ℕ) (was : StarsStand b active k initial) (tells : Tells (length b.alerts) flags active (suc k))
      (still : (a : ℕ) → a < length b.alerts → is_marked turned a ≡ false → active a k ≡ previous (active a) k)
      (others : (a : ℕ) → is_marked asked a ≡ false → IsUnasked (secondaries_of b) turned (length b.alerts) a)
      (half : IsHalfTaken b flags initial now asked (length b.alerts)) where
    first-one : (a : ℕ) → a < length b.alerts → primary_of b flags a ≡ cond (active a k) (find (λ p. active p k) (primaries b a)) None
    unfolding previous
    first-one a within =
        ap (λ x. cond x (find (λ p. get_or flags p false) (primaries b a)) None) (tells a within)
        ∙ ap (λ o. cond (active a k) o None) (same-primary b a (λ p. get_or flags p false) (λ p. active p k) (λ p inside lists_it. tells p inside))

    is-starred : (a : ℕ) → a < length b.alerts → is_some (primary_of b flags a) ≡ starred_where b active a k
    is-starred a within = ap is_some (first-one a within ∙ by-first a k) ∙ starred-some a k

    still-listed : (a : ℕ) → is_marked asked a ≡ false → (p : ℕ) → p < length b.alerts → list_any (λ s. s == a) (get_or (secondaries_of b) p []) ≡ true → active p k ≡ previous (active p) k
    still-listed a off p inside lists_it = elim (cases_Bool (is_marked turned p)) [
      | inl on ↦ absurd (let w : true ≡ false = sym lists_it ∙ (others a off).listers p inside on in cc)
      | inr away ↦ still p inside away
    ]

    same-primary-of : (a : ℕ) → a < length b.alerts → is_marked asked a ≡ false → starred_by_where b active a k ≡ previously (starred_by_where b active a) k
    same-primary-of a within off = still-one a k (still a within (others a off).own) (still-listed a off)

    taken-one : (a : ℕ) → a < length b.alerts → is_marked asked a ≡ true
        → (get_or now.primaries.items a None ≡ starred_by_where b active a k) × (get_or now.starred.items a false ≡ starred_where b active a k) × (get_or now.up.items a false ≡ up_where b active a k)
    unfolding previous alert.up
    taken-one a within on =
        let one = half.taken a within on in (
          one.primaries ∙ first-one a within ∙ by-first a k,
          one.starred ∙ is-starred a within,
          one.up ∙ ap (λ x. x && not (is_some (primary_of b flags a))) (tells a within) ∙ ap (λ x. active a k && not x) (is-starred a within),
        )

    left-one : (a : ℕ) → a < length b.alerts → is_marked asked a ≡ false
        → (get_or now.primaries.items a None ≡ starred_by_where b active a k) × (get_or now.starred.items a false ≡ starred_where b active a k) × (get_or now.up.items a false ≡ up_where b active a k)
    left-one a within off =
        let one = half.unasked a off in
        let same = same-primary-of a within off in (
          one.primaries ∙ was.primaries a within ∙ sym same,
          one.starred ∙ was.starred a within ∙ sym (still-star a k same),
          one.up ∙ was.up a within ∙ sym (still-up a k (still a within (others a off).own) same),
        )

    each-one : (a : ℕ) → a < length b.alerts
        → (get_or now.primaries.items a None ≡ starred_by_where b active a k) × (get_or now.starred.items a false ≡ starred_where b active a k) × (get_or now.up.items a false ≡ up_where b active a k)
    each-one a within = elim (cases_Bool (is_marked asked a)) [
      | inl on ↦ taken-one a within on
      | inr off ↦ left-one a within off
    ]

    pub taken-stands : StarsStand b active (suc k) now
    unfolding previous
    taken-stands = record {
      primaries = λ a within. (each-one a within).0;
      starred = λ a within. (each-one a within).1;
      up = λ a within. (each-one a within).2;
    }

-- no alert is starred or up before the first moment
pub blank-stands : (b : Book) (active : ℕ → Signal) (s : Stars) (n : ℕ) → n ≡ length b.alerts
    → s.primaries.items ≡ replicate n None → s.starred.items ≡ replicate n false → s.up.items ≡ replicate n false → StarsStand b active 0 s
unfolding previous
blank-stands b active s n count primary starred up = record {
  primaries = λ a within. ap (λ xs. get_or xs a None) primary ∙ get_or-replicate n a None None (omega arith);
  starred = λ a within. ap (λ xs. get_or xs a false) starred ∙ get_or-replicate n a false false (omega arith);
  up = λ a within. ap (λ xs. get_or xs a false) up ∙ get_or-replicate n a false false (omega arith);
}

-- and nothing is told of one
pub blank-away : (s : Stars) (n : ℕ) → s.primaries.items ≡ replicate n None → s.starred.items ≡ replicate n false → s.up.items ≡ replicate n false → (a : ℕ) → IsAway a s
blank-away s n primary starred up a = record {
  primaries = ap (λ xs. get_or xs a None) primary ∙ blank-at n a None;
  starred = ap (λ xs. get_or xs a false) starred ∙ blank-at n a false;
  up = ap (λ xs. get_or xs a false) up ∙ blank-at n a false;
}
