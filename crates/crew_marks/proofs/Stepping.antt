-- One moment more of all marks, and what follows for what they say.
use Rattle.std.proofs.Common.{◌≡◌, ℕ, suc, ◌+◌, ◌<◌, Bool, true, false, not, ◌&&◌, ◌||◌, inl, inr, List, [], ◌∷◌, length, get_or, replicate, ltb, ltb-true, cond, Option, Some, None, refl, sym, ◌∙◌, ap, subst, arith}
use Rattle.std.specs.Prelude.{is_some}
use Rattle.std.specs.Option.{IfSome}
use Rattle.std.specs.List.{find}
use Rattle.std.proofs.lemmas.Bool.{cases_lt, eqb-true, false≢true}
use Rattle.std.proofs.lemmas.List.{get_or_past, length-replicate}
use Rattle.std.proofs.Math.Bool.{and-true, and-false}
use Rattle.ecam_spec.specs.Past.{previous, running_since, last_since}
use Rattle.ecam_spec.specs.Book.{Book}
use Rattle.ecam_spec.specs.Screen.{order}
use Rattle.ecam_spec.specs.Crew as crew
use Rattle.ecam_spec.specs.Crew.{Cockpit, is_alert, shown, shows_nothing}
use Rattle.ecam_spec.proofs.Nowhere.{find-none}
use Rattle.ecam_spec.proofs.CrewSteps.{target-next}
use Rattle.ecam_kinds.specs.declared.keys.Keys.{Keys}
use Rattle.wakes.specs.Marks as numbers
use Rattle.crew_marks.specs.declared.mark.Mark.{Mark}
use Rattle.crew_marks.specs.declared.mark.Actions.{Actions}
use Rattle.crew_marks.specs.MarkStep.{mark_after, sight_of}
use Rattle.crew_marks.specs.MarkSets.{MarkSets, mark_at, AreMany}
use Rattle.crew_marks.specs.CrewMarks.{CrewMarks, is_cleared, is_recalled, is_shown}
use Rattle.crew_marks.specs.MarksState.{IsCrewOf, SeesCrew, MarksFit, MarkStands, MarksStand, OnlyCleared, SeesActions}
use Rattle.crew_marks.specs.Looked.{StepsLooked, StepsAll}
use Rattle.crew_marks.proofs.Orders.{mem-order, found-within}
use Rattle.crew_marks.proofs.Walking.{no-flag, find-agree}
use Rattle.crew_marks.proofs.Crews.{target-some, mark-stands}

-- ---- flags

pub flag-within : (xs : List Bool) (a : ℕ) → get_or xs a false ≡ true → a < length xs
flag-within xs a h = elim (cases_lt a (length xs)) [ inl within ↦ within | inr past ↦ absurd (false≢true (sym (get_or_past xs a false past) ∙ h)) ]

found-first : (p : ℕ → Bool) (x a : ℕ) (o : Option ℕ) (b : Bool) → p x ≡ b → (is_alert a o ≡ true → p a ≡ true) → is_alert a (cond b (Some x) o) ≡ true → p a ≡ true
found-first p x a o true e rest h = ap p (eqb-true a x h) ∙ e
found-first p x a o false e rest h = rest h

-- what is found passes
find-passes : (p : ℕ → Bool) (xs : List ℕ) (a : ℕ) → is_alert a (find p xs) ≡ true → p a ≡ true
find-passes p [] a h = absurd (false≢true h)
find-passes p (x ∷ xs) a h = found-first p x a (find p xs) (p x) refl (find-passes p xs a) h

pub first-found : (b : Book) (inside m : CrewMarks) → inside ≡ m → MarksFit b m → inside.first ≡ find (λ a. get_or inside.sets.shown a false) (order b)
first-found b inside m same fits = subst (λ (n : CrewMarks). n.first ≡ find (λ a. get_or n.sets.shown a false) (order b)) (sym same) fits.first

-- ---- no moment

pub record IsBlank (b : Book) (m : CrewMarks) : Type 0 where
  pub order : m.sets.order ≡ order b
  pub cleared : m.sets.cleared ≡ replicate (length b.alerts) false
  pub cancelled : m.sets.cancelled ≡ replicate (length b.alerts) false
  pub recalled : m.sets.recalled ≡ replicate (length b.alerts) false
  pub shown : m.sets.shown ≡ replicate (length b.alerts) false
  pub target : m.target ≡ None
  pub first : m.first ≡ None
  pub moments : m.moments ≡ 0
  pub held_since : m.held_since ≡ None
  pub quiet_press : m.quiet_press ≡ None

module _ (b : Book) (m : CrewMarks) (blank : IsBlank b m) where
  blank-flag : (xs : List Bool) → xs ≡ replicate (length b.alerts) false → (a : ℕ) → get_or xs a false ≡ false
  blank-flag xs e a = ap (λ ys. get_or ys a false) e ∙ no-flag (length b.alerts) a

  blank-length : (xs : List Bool) → xs ≡ replicate (length b.alerts) false → length xs ≡ length b.alerts
  blank-length xs e = ap length e ∙ length-replicate (length b.alerts) false

  pub blank-fits : MarksFit b m
  blank-fits = record {
    many =
        record {
          cleared = blank-length m.sets.cleared blank.cleared;
          cancelled = blank-length m.sets.cancelled blank.cancelled;
          recalled = blank-length m.sets.recalled blank.recalled;
          shown = blank-length m.sets.shown blank.shown;
        };
    ordered = blank.order;
    target = subst (λ o. IfSome o (λ a. a < length b.alerts)) (sym blank.target) tt;
    first = blank.first ∙ sym (find-none (is_shown m) (blank-flag m.sets.shown blank.shown) (order b));
    hidden = λ a cleared recalled. blank-flag m.sets.shown blank.shown a;
  }

  pub blank-stands : (c : Cockpit) → MarksStand b c 0 m
  unfolding previous crew.target running_since
  blank-stands c = record {
    moments = blank.moments;
    marks =
        λ a within. record {
          cleared = blank-flag m.sets.cleared blank.cleared a;
          cancelled = blank-flag m.sets.cancelled blank.cancelled a;
          recalled = blank-flag m.sets.recalled blank.recalled a;
          shown = blank-flag m.sets.shown blank.shown a;
        };
    target = blank.target;
    first = blank.first;
    held_since = blank.held_since;
    quiet_press = blank.quiet_press;
  }

-- ---- one moment more

-- whether the alert is shown, where ca is that it is cancelled, u that it is up, s that it is struck, w that it was
-- cleared, r that RCL is pressed, v that it waits, and p that it was recalled
abbrev shows : Bool → Bool → Bool → Bool → Bool → Bool → Bool → Bool
shows ca u s w r v p = not ca && ((u && not (u && (s || (w && not r)))) || (v && (not s && (r || p))))

hidden-fixed : (ca u s p : Bool) → shows ca u s true false false p ≡ false
hidden-fixed ca true true p = and-false (not ca)
hidden-fixed ca true false p = and-false (not ca)
hidden-fixed ca false s p = and-false (not ca)

hidden-shape : (ca u s w r v p : Bool) → w ≡ true → r ≡ false → v ≡ false → shows ca u s w r v p ≡ false
hidden-shape ca u s w r v p e f g = rw (e, f, g) (hidden-fixed ca u s p)

restored-fixed : (ca u w p : Bool) → shows ca u false w true false p ≡ (u && not ca)
restored-fixed ca true true p = and-true (not ca)
restored-fixed ca true false p = and-true (not ca)
restored-fixed ca false w p = and-false (not ca)

restored-shape : (ca u s w r v p : Bool) → s ≡ false → r ≡ true → v ≡ false → shows ca u s w r v p ≡ (u && not ca)
restored-shape ca u s w r v p e f g = rw (e, f, g) (restored-fixed ca u w p)

recalled-fixed : (ca u s w p : Bool) → shows ca u s w true true p ≡ (not s && not ca)
recalled-fixed ca true true w p = and-false (not ca)
recalled-fixed ca true false true p = and-true (not ca)
recalled-fixed ca true false false p = and-true (not ca)
recalled-fixed ca false true w p = and-false (not ca)
recalled-fixed ca false false w p = and-true (not ca)

recalled-shape : (ca u s w r v p : Bool) → r ≡ true → v ≡ true → shows ca u s w r v p ≡ (not s && not ca)
recalled-shape ca u s w r v p f g = rw (f, g) (recalled-fixed ca u s w p)

hidden-after : (ca u cl re : Bool) → cl ≡ true → re ≡ false → (not ca && ((u && not cl) || re)) ≡ false
hidden-after ca true cl re e f = rw (e, f) (and-false (not ca))
hidden-after ca false cl re e f = rw f (and-false (not ca))

-- the first that is shown is an alert
pub first-fits : (b : Book) (m : CrewMarks) → MarksFit b m → IfSome m.first (λ a. a < length b.alerts)
first-fits b m fits = subst (λ o. IfSome o (λ a. a < length b.alerts)) (sym fits.first) (found-within b (is_shown m))

-- the marks fit the book as before
module _ (b : Book) (ups waits : List Bool) (set : List ℕ) (x : Actions) (old new : CrewMarks) (fits : MarksFit b old)
    (many : AreMany new.sets (length b.alerts)) (steps : StepsLooked b ups waits set old.first x old.sets new.sets) where
  stays-hidden : (a : ℕ) (t : Bool) → numbers.is_marked set a ≡ t → is_cleared new a ≡ true → is_recalled new a ≡ false → is_shown new a ≡ false
  stays-hidden a true on cleared recalled =
      let m = steps.marks a (omega (arith, flag-within new.sets.cleared a cleared, many.cleared)) on in
      let after = mark_after (mark_at old.sets a) (sight_of b ups waits old.first a) x in
      ap (λ (z : Mark). z.shown) m
      ∙ hidden-after after.cancelled (get_or ups a false) after.cleared after.recalled
      (sym (ap (λ (z : Mark). z.cleared) m) ∙ cleared) (sym (ap (λ (z : Mark). z.recalled) m) ∙ recalled)
  stays-hidden a false off cleared recalled =
      let m = steps.kept a off in
      ap (λ (z : Mark). z.shown) m
      ∙ fits.hidden a (sym (ap (λ (z : Mark). z.cleared) m) ∙ cleared) (sym (ap (λ (z : Mark). z.recalled) m) ∙ recalled)

  pub stepped-fits : new.target ≡ old.first → new.first ≡ find (is_shown new) (order b) → MarksFit b new
  stepped-fits aims first = record {
    many = many;
    ordered = steps.order ∙ fits.ordered;
    target = subst (λ o. IfSome o (λ a. a < length b.alerts)) (sym aims) (first-fits b old fits);
    first = first;
    hidden = λ a cleared recalled. stays-hidden a (numbers.is_marked set a) refl cleared recalled;
  }

module _ (b : Book) (ups waits : List Bool) (x : Actions) (old : CrewMarks) (sets : MarkSets) (fits : MarksFit b old)
    (marks : StepsAll b ups waits old.first x old.sets sets) where
  cleared-within : (a : ℕ) → OnlyCleared old waits a → a < length b.alerts
  cleared-within a only = omega (arith, flag-within old.sets.cleared a only.cleared, fits.many.cleared)

  pub stepped-hidden : (a : ℕ) → x.rcl ≡ false → OnlyCleared old waits a → get_or sets.shown a false ≡ false
  stepped-hidden a quiet only =
      ap (λ (z : Mark). z.shown) (marks a (cleared-within a only))
      ∙ hidden-shape (mark_after (mark_at old.sets a) (sight_of b ups waits old.first a) x).cancelled (get_or ups a false) (x.clr && is_alert a old.first)
      (is_cleared old a) x.rcl (get_or waits a false) (is_recalled old a) only.cleared quiet only.waiting

  unstruck : (a : ℕ) (t : Bool) → is_alert a old.first ≡ t → is_shown old a ≡ false → t ≡ false
  unstruck a true e h = absurd (false≢true (sym h ∙ find-passes (is_shown old) (order b) a (ap (is_alert a) (sym fits.first) ∙ e)))
  unstruck a false e h = refl

  pub stepped-restored : (a : ℕ) → x.rcl ≡ true → OnlyCleared old waits a → get_or sets.shown a false ≡ (get_or ups a false && not (get_or sets.cancelled a false))
  stepped-restored a pressed only =
      let m = marks a (cleared-within a only) in
      let after = mark_after (mark_at old.sets a) (sight_of b ups waits old.first a) x in
      ap (λ (z : Mark). z.shown) m
      ∙ restored-shape after.cancelled (get_or ups a false) (x.clr && is_alert a old.first) (is_cleared old a) x.rcl (get_or waits a false) (is_recalled old a)
      (ap (λ t. x.clr && t) (unstruck a (is_alert a old.first) refl (fits.hidden a only.cleared only.recalled)) ∙ and-false x.clr) pressed only.waiting
      ∙ ap (λ (z : Mark). get_or ups a false && not z.cancelled) (sym m)

  pub stepped-recalled : (a : ℕ) → length waits ≡ length b.alerts → x.rcl ≡ true → get_or waits a false ≡ true → get_or sets.shown a false ≡ (not (x.clr && is_alert a old.first) && not (get_or sets.cancelled a false))
  stepped-recalled a long pressed waits_now =
      let m = marks a (omega (arith, flag-within waits a waits_now)) in
      let after = mark_after (mark_at old.sets a) (sight_of b ups waits old.first a) x in
      ap (λ (z : Mark). z.shown) m
      ∙ recalled-shape after.cancelled (get_or ups a false) (x.clr && is_alert a old.first) (is_cleared old a) x.rcl (get_or waits a false) (is_recalled old a) pressed waits_now
      ∙ ap (λ (z : Mark). not (x.clr && is_alert a old.first) && not z.cancelled) (sym m)

-- where each mark stands for one moment more
module _ (b : Book) (c : Cockpit) (k : ℕ) (new : CrewMarks) (of_book : IsCrewOf b c)
    (each : (a : ℕ) → a < length b.alerts → MarkStands c a (suc k) (mark_at new.sets a)) (first : new.first ≡ find (is_shown new) (order b)) where
  pub first-ahead : new.first ≡ crew.target (shown c) (suc k)
  unfolding previous
  first-ahead =
      first
      ∙ find-agree (is_shown new) (λ a. crew.is_shown c (shown c) a k) (order b)
      (λ a h. (each a (let w : ltb a (length b.alerts) ≡ true = sym (mem-order b a) ∙ h in omega (arith, ltb-true a (length b.alerts) w))).shown)
      ∙ sym (target-next c k ∙ ap (find (λ a. crew.is_shown c (shown c) a k)) of_book.order)

  pub quiet-ahead : (r : Bool) → is_some new.first ≡ not r → r ≡ shows_nothing c k
  quiet-ahead r h = not-same r (shows_nothing c k) (sym h ∙ ap is_some first-ahead ∙ target-some c k) where
    not-same : (x y : Bool) → not x ≡ not y → x ≡ y
    not-same true true e = refl
    not-same false false e = refl
    not-same true false e = cc
    not-same false true e = cc

module _ (b : Book) (c : Cockpit) (k : ℕ) (ups waits : List Bool) (keys : Keys) (enters : Bool) (x : Actions) (old new : CrewMarks)
    (of_book : IsCrewOf b c) (sees : SeesCrew c k ups waits keys enters) (up_long : length ups ≡ length b.alerts) (waits_long : length waits ≡ length b.alerts)
    (does : SeesActions c k x) (stands : MarksStand b c k old) (marks : StepsAll b ups waits old.first x old.sets new.sets) (fits : MarksFit b new) where
  each-stands : (a : ℕ) → a < length b.alerts → MarkStands c a (suc k) (mark_at new.sets a)
  each-stands a within =
      subst (MarkStands c a (suc k)) (sym (marks a within))
      (mark-stands c a k (mark_at old.sets a) (sight_of b ups waits old.first a) x
      (record {
        up = sees.up a (omega arith);
        waiting = sees.waiting a (omega arith);
        is_caution = sym (of_book.is_caution a);
        is_target = ap (is_alert a) stands.first;
      })
      does (stands.marks a within))

  pub quiet-now : (r : Bool) → is_some new.first ≡ not r → r ≡ shows_nothing c k
  quiet-now = quiet-ahead b c k new of_book each-stands fits.first

  pub stepped-stands : new.moments ≡ old.moments + 1 → new.target ≡ old.first → new.held_since ≡ running_since c.rcl_held (suc k) → new.quiet_press ≡ last_since c.rcl (shows_nothing c) k
      → MarksStand b c (suc k) new
  stepped-stands counts target held press = record {
    moments = omega (arith, stands.moments);
    marks = each-stands;
    target = target ∙ stands.first;
    first = first-ahead b c k new of_book each-stands fits.first;
    held_since = held;
    quiet_press = press;
  }
