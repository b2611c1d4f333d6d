-- Which alerts are near while some are settled.
use Rattle.std.proofs.Common.{◌≡◌, ℕ, suc, ◌<◌, ◌≤◌, Bool, true, false, not, ◌&&◌, ◌==◌, List, get_or, Option, Some, None, inl, inr, refl, sym, ap, ◌∙◌, subst, arith}
use Rattle.std.specs.Prelude.{is_some, ◌↔◌}
use Rattle.std.proofs.lemmas.Bool.{cases_lt, cases_eq, ne_eqb}
use Rattle.std.proofs.lemmas.List.{get_or-set_same, get_or-set_other}
use Rattle.wakes.specs.Marks.{is_marked}
use Rattle.wakes.specs.declared.marked.Marked.{Marked}
use Rattle.ecam_spec.specs.Book.{Book}
use Rattle.alert_truth.specs.Stars.{StarsFit, HasPlace, Takes, IsAway}
use Rattle.alert_truth.specs.TruthsState.{AreNear}
use Rattle.alert_truth.specs.declared.stars.Stars.{Stars}
use Rattle.alert_truth.specs.declared.truths.Truths.{Truths}

-- what is on isn't away, so it is marked
pub marked-where : (m on : Bool) → (m ≡ false → on ≡ false) → on ≡ true → m ≡ true
marked-where true on away is = refl
marked-where false on away is = absurd (let w : true ≡ false = sym is ∙ away refl in cc)

-- what isn't told is near for nothing
pub none-near : (t : Truths) → ((a : ℕ) → get_or t.present.items a false ≡ false) → ((a : ℕ) → get_or t.active.items a false ≡ false) → ((a : ℕ) → get_or t.waiting.items a false ≡ false)
    → ((a : ℕ) → IsAway a t.stars) → AreNear t
none-near t present active waiting away = record {
  present = λ a told. marked-where (is_marked t.near a) (get_or t.present.items a false) (λ off. present a) told;
  active = λ a told. marked-where (is_marked t.near a) (get_or t.active.items a false) (λ off. active a) told;
  waiting = λ a told. marked-where (is_marked t.near a) (get_or t.waiting.items a false) (λ off. waiting a) told;
  starred = λ a told. marked-where (is_marked t.near a) (get_or t.stars.starred.items a false) (λ off. (away a).starred) told;
  up = λ a told. marked-where (is_marked t.near a) (get_or t.stars.up.items a false) (λ off. (away a).up) told;
  primaries = λ a told. marked-where (is_marked t.near a) (is_some (get_or t.stars.primaries.items a None)) (λ off. ap is_some (away a).primaries) told;
}

-- those that are settled anew are near again
pub settled-near : (t : Truths) → ((a : ℕ) → get_or t.present.items a false ≡ true → is_marked t.near a ≡ true) → ((a : ℕ) → get_or t.active.items a false ≡ true → is_marked t.near a ≡ true)
    → ((a : ℕ) → get_or t.waiting.items a false ≡ true → is_marked t.near a ≡ true) → ((a : ℕ) → is_marked t.near a ≡ false → IsAway a t.stars) → AreNear t
settled-near t present active waiting away = record {
  present = present;
  active = active;
  waiting = waiting;
  starred = λ a told. marked-where (is_marked t.near a) (get_or t.stars.starred.items a false) (λ off. (away a off).starred) told;
  up = λ a told. marked-where (is_marked t.near a) (get_or t.stars.up.items a false) (λ off. (away a off).up) told;
  primaries = λ a told. marked-where (is_marked t.near a) (is_some (get_or t.stars.primaries.items a None)) (λ off. ap is_some (away a off).primaries) told;
}

-- what would be marked and isn't is off
pub off-unless : (on m : Bool) → (on ≡ true → m ≡ true) → m ≡ false → on ≡ false
off-unless false m marks off = refl
off-unless true m marks off = absurd (let w : true ≡ false = sym (marks refl) ∙ off in cc)

none-unless : (o : Option ℕ) (m : Bool) → (is_some o ≡ true → m ≡ true) → m ≡ false → o ≡ None
none-unless None m marks off = refl
none-unless (Some x) m marks off = absurd (let w : true ≡ false = sym (marks refl) ∙ off in cc)

-- nothing is told of an alert that isn't near
pub near-away : (t : Truths) → AreNear t → (a : ℕ) → is_marked t.near a ≡ false → IsAway a t.stars
near-away t near a off = record {
  primaries = none-unless (get_or t.stars.primaries.items a None) (is_marked t.near a) (near.primaries a) off;
  starred = off-unless (get_or t.stars.starred.items a false) (is_marked t.near a) (near.starred a) off;
  up = off-unless (get_or t.stars.up.items a false) (is_marked t.near a) (near.up a) off;
}

-- the near alerts hold all that are active, present or waiting, and the others are away; of those below i it is told whether
-- one turned
pub record IsNearing (acts shows waits : List Bool) (initial now : Stars) (near : List ℕ) (i : ℕ) : Type 0 where
  pub active : (a : ℕ) → get_or acts a false ≡ true → is_marked near a ≡ true
  pub present : (a : ℕ) → get_or shows a false ≡ true → is_marked near a ≡ true
  pub waiting : (a : ℕ) → get_or waits a false ≡ true → is_marked near a ≡ true
  pub away : (a : ℕ) → is_marked near a ≡ false → IsAway a now
  pub turned : (now.turned ≡ false) ↔ ((a : ℕ) → a < i → get_or now.starred.items a false ≡ get_or initial.starred.items a false)
  pub left : (a : ℕ) → i ≤ a → get_or now.starred.items a false ≡ get_or initial.starred.items a false

-- the turn is told anew
pub quiet-fits : (b : Book) (s : Stars) → StarsFit b s → StarsFit b (record s { turned = false })
quiet-fits b s fits = record {
  listers = fits.listers;
  asked = fits.asked;
  primaries = fits.primaries;
  starred = fits.starred;
  up = fits.up;
}

pub quiet-near : (t : Truths) → AreNear t → AreNear (record t { stars = record t.stars { turned = false } })
quiet-near t near = record {
  present = near.present;
  active = near.active;
  waiting = near.waiting;
  starred = near.starred;
  up = near.up;
  primaries = near.primaries;
}

module _ (on present waiting : List Bool) (initial : Stars) where
  pub nearing-begins : (asked : Marked) (near : List ℕ) → ((a : ℕ) → get_or on a false ≡ true → is_marked near a ≡ true) → ((a : ℕ) → get_or present a false ≡ true → is_marked near a ≡ true)
      → ((a : ℕ) → get_or waiting a false ≡ true → is_marked near a ≡ true) → ((a : ℕ) → is_marked near a ≡ false → IsAway a initial)
      → IsNearing on present waiting initial (record initial { asked = asked; turned = false }) near 0
  nearing-begins asked near acts shows waits away = record {
    active = acts;
    present = shows;
    waiting = waits;
    away = λ a off. let was = away a off in record { primaries = was.primaries; starred = was.starred; up = was.up };
    turned = (λ e a below. absurd (omega (arith, below)), λ same. refl);
    left = λ a from. refl;
  }

  -- the alerts up to j aren't near
  pub nearing-on : (now : Stars) (near : List ℕ) (i j : ℕ) → i ≤ j → IsNearing on present waiting initial now near i → IsNearing on present waiting initial now near j
  nearing-on now near i j order is = record {
    active = is.active;
    present = is.present;
    waiting = is.waiting;
    away = is.away;
    turned = (
      λ e a below. elim (cases_lt a i) [
        | inl earlier ↦ is.turned.0 e a earlier
        | inr past ↦ is.left a past
      ],
      λ same. is.turned.1 (λ a below. same a (omega (arith, below, order))),
    );
    left = λ a from. is.left a (omega (arith, from, order));
  }

  -- one alert is settled, and has no primary where it isn't active
  module _ (now next : Stars) (near : List ℕ) (i : ℕ) (primary : Option ℕ) (has : HasPlace i now) (takes : Takes i (get_or on i false) primary now next)
      (none : get_or on i false ≡ false → primary ≡ None) (is : IsNearing on present waiting initial now near i) where
    starred-other : (a : ℕ) → (a ≡ i → ⊥) → get_or next.starred.items a false ≡ get_or now.starred.items a false
    starred-other a apart = ap (λ xs. get_or xs a false) takes.starred ∙ get_or-set_other now.starred.items i a (is_some primary) false apart

    away-other : (a : ℕ) → (a ≡ i → ⊥) → IsAway a now → IsAway a next
    away-other a apart was = record {
      primaries = ap (λ xs. get_or xs a None) takes.primaries ∙ get_or-set_other now.primaries.items i a primary None apart ∙ was.primaries;
      starred = starred-other a apart ∙ was.starred;
      up = ap (λ xs. get_or xs a false) takes.up ∙ get_or-set_other now.up.items i a (get_or on i false && not (is_some primary)) false apart ∙ was.up;
    }

    -- so it is away then
    away-own : get_or on i false ≡ false → IsAway i next
    away-own off = record {
      primaries = ap (λ xs. get_or xs i None) takes.primaries ∙ get_or-set_same now.primaries.items i primary None has.primaries ∙ none off;
      starred = ap (λ xs. get_or xs i false) takes.starred ∙ get_or-set_same now.starred.items i (is_some primary) false has.starred ∙ ap is_some (none off);
      up =
          ap (λ xs. get_or xs i false) takes.up ∙ get_or-set_same now.up.items i (get_or on i false && not (is_some primary)) false has.up
          ∙ ap (λ f. f && not (is_some primary)) off;
    }

    away-next : (a : ℕ) → is_marked near a ≡ false → IsAway a next
    away-next a far = elim (cases_eq a i) [
      | inl same ↦
          subst (λ n. IsAway n next) (sym same)
          (away-own (off-unless (get_or on i false) (is_marked near i) (is.active i) (ap (is_marked near) (sym same) ∙ far)))
      | inr apart ↦ away-other a apart (is.away a far)
    ]

    turned-next : (next.turned ≡ false) ↔ ((a : ℕ) → a < suc i → get_or next.starred.items a false ≡ get_or initial.starred.items a false)
    turned-next = (
      λ e a below.
          let both = takes.turned.0 e in
          elim (cases_lt a i) [
            | inl earlier ↦ starred-other a (λ same. omega (arith, same, earlier)) ∙ is.turned.0 both.0 a earlier
            | inr reached ↦
                let same : i ≡ a = omega arith in
                subst (λ n. get_or next.starred.items n false ≡ get_or initial.starred.items n false) same (both.1 ∙ is.left i (omega arith))
          ],
      λ all.
          takes.turned.1 (
            is.turned.1 (λ a below. sym (starred-other a (λ same. omega (arith, same, below))) ∙ all a (omega (arith, below))),
            all i (omega arith) ∙ sym (is.left i (omega arith)),
          ),
    )

    left-next : (a : ℕ) → suc i ≤ a → get_or next.starred.items a false ≡ get_or initial.starred.items a false
    left-next a from = starred-other a (λ same. omega (arith, same, from)) ∙ is.left a (omega arith)

    -- it stays near
    pub nearing-kept : IsNearing on present waiting initial next near (suc i)
    nearing-kept = record {
      active = is.active;
      present = is.present;
      waiting = is.waiting;
      away = away-next;
      turned = turned-next;
      left = left-next;
    }

    -- or is near no longer
    module _ (less : List ℕ) (unmarks : (a : ℕ) → is_marked less a ≡ (not (a == i) && is_marked near a)) (off : get_or on i false ≡ false)
        (absent : get_or present i false ≡ false) (quiet : get_or waiting i false ≡ false) where
      still-near : (flags : List Bool) → get_or flags i false ≡ false → ((a : ℕ) → get_or flags a false ≡ true → is_marked near a ≡ true)
          → (a : ℕ) → get_or flags a false ≡ true → is_marked less a ≡ true
      still-near flags none marks a flag = elim (cases_eq a i) [
        | inl same ↦ absurd (let w : true ≡ false = sym flag ∙ ap (λ n. get_or flags n false) same ∙ none in cc)
        | inr apart ↦ unmarks a ∙ ap (λ e. not e && is_marked near a) (ne_eqb a i apart) ∙ marks a flag
      ]

      pub nearing-less : IsNearing on present waiting initial next less (suc i)
      nearing-less = record {
        active = still-near on off is.active;
        present = still-near present absent is.present;
        waiting = still-near waiting quiet is.waiting;
        away = λ a none. elim (cases_eq a i) [
          | inl same ↦ subst (λ n. IsAway n next) (sym same) (away-own off)
          | inr apart ↦ away-other a apart (is.away a (sym (unmarks a ∙ ap (λ e. not e && is_marked near a) (ne_eqb a i apart)) ∙ none))
        ];
        turned = turned-next;
        left = left-next;
      }
