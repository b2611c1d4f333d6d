-- A moment in which nothing comes and the crew does nothing leaves each mark as it is.
use Rattle.std.proofs.Common.{◌≡◌, ℕ, zero, suc, Bool, true, false, not, ◌&&◌, ◌||◌, refl, sym, ap, ◌∙◌}
use Rattle.std.proofs.Math.Bool.{and-true, and-false}
use Rattle.ecam_spec.specs.Past.{Signal, previous}
use Rattle.ecam_spec.specs.Crew.{Cockpit, struck, cleared, cancelled, recalled, is_shown, shown}
use Rattle.ecam_spec.proofs.CrewLaws.{cleared-now, recalled-now}
use Rattle.crew_marks.specs.declared.mark.Mark.{Mark}
use Rattle.crew_marks.specs.declared.mark.Sight.{Sight}
use Rattle.crew_marks.specs.declared.mark.Actions.{Actions}
use Rattle.crew_marks.specs.MarkStep.{shown_by, acts, mark_after}
use Rattle.crew_marks.specs.MarksState.{MarkStands}

-- p holds only where q does
abbrev Under : Bool → Bool → Type 0
Under q p = (q && p) ≡ p

under-cleared : (u s r w : Bool) → Under u ((s && u) || ((u && not r) && w))
under-cleared true s r w = refl
under-cleared false true r w = refl
under-cleared false false r w = refl

under-recalled : (v s r w : Bool) → Under v ((r && (v && not s)) || ((v && not s) && w))
under-recalled true s r w = refl
under-recalled false s true w = refl
under-recalled false s false w = refl

under-twice : (i p : Bool) → Under i (i && p)
under-twice true p = refl
under-twice false p = refl

under-previous : (q p : Signal) → ((k : ℕ) → Under (q k) (p k)) → (k : ℕ) → Under (previous q k) (previous p k)
unfolding previous
under-previous q p h zero = refl
under-previous q p h (suc k) = h k

module _ (c : Cockpit) (a : ℕ) where
  cleared-under : (k : ℕ) → Under (c.up a k) (cleared c (shown c) a k)
  cleared-under k = rw (cleared-now c (shown c) a k) (under-cleared (c.up a k) (struck c (shown c) a k) (c.rcl k) (previous (cleared c (shown c) a) k))

  recalled-under : (k : ℕ) → Under (c.waiting a k) (recalled c (shown c) a k)
  recalled-under k = rw (recalled-now c (shown c) a k) (under-recalled (c.waiting a k) (struck c (shown c) a k) (c.rcl k) (previous (recalled c (shown c) a) k))

  cancelled-under : (k : ℕ) → Under (c.is_caution a) (cancelled c (shown c) a k)
  unfolding cancelled
  cancelled-under k = under-twice (c.is_caution a) _

  cancelled-before : (k : ℕ) → Under (c.is_caution a) (previous (cancelled c (shown c) a) k)
  unfolding previous
  cancelled-before zero = and-false (c.is_caution a)
  cancelled-before (suc k) = cancelled-under k

  shown-before : (k : ℕ)
      → previous (is_shown c (shown c) a) k
      ≡ shown_by (previous (c.up a) k) (previous (cleared c (shown c) a) k) (previous (cancelled c (shown c) a) k) (previous (recalled c (shown c) a) k)
  unfolding previous is_shown
  shown-before zero = refl
  shown-before (suc k) = refl

-- ---- a mark

-- the alert is up and waits as in the moment before, and it is known whether it is a caution
pub record SeesStill (c : Cockpit) (a k : ℕ) (s : Sight) : Type 0 where
  pub up : s.up ≡ previous (c.up a) k
  pub waiting : s.waiting ≡ previous (c.waiting a) k
  pub is_caution : s.is_caution ≡ c.is_caution a

same-mark : (n m : Mark) → n.cleared ≡ m.cleared → n.cancelled ≡ m.cancelled → n.recalled ≡ m.recalled → n.shown ≡ m.shown → n ≡ m
same-mark n m one two three four =
    ap (λ b. mark-of b n.cancelled n.recalled n.shown) one ∙ ap (λ b. mark-of m.cleared b n.recalled n.shown) two
    ∙ ap (λ b. mark-of m.cleared m.cancelled b n.shown) three ∙ ap (λ b. mark-of m.cleared m.cancelled m.recalled b) four where
      mark-of : Bool → Bool → Bool → Bool → Mark
      mark-of cleared cancelled recalled shown = record { cleared = cleared; cancelled = cancelled; recalled = recalled; shown = shown }

left-off : (b c : Bool) → (b || c) ≡ false → b ≡ false
left-off false c e = refl
left-off true c e = cc

right-off : (b c : Bool) → (b || c) ≡ false → c ≡ false
right-off false c e = e
right-off true c e = cc

rest-cleared : (u l t r w : Bool) → l ≡ false → r ≡ false → Under u w → (u && ((l && t) || (w && not r))) ≡ w
rest-cleared u l t r w e f under = rw (e, f, and-true w) under

rest-recalled : (v l t r w : Bool) → l ≡ false → r ≡ false → Under v w → (v && (not (l && t) && (r || w))) ≡ w
rest-recalled v l t r w e f under = rw (e, f) under

module _ (c : Cockpit) (a k : ℕ) (m : Mark) (s : Sight) (x : Actions) (still : SeesStill c a k s) (none : acts x ≡ false) (stands : MarkStands c a k m) where
  no-clr : x.clr ≡ false
  no-clr = left-off x.clr _ none

  no-rcl : x.rcl ≡ false
  no-rcl = left-off x.rcl _ (right-off x.clr _ none)

  no-emer : x.emer ≡ false
  no-emer = left-off x.emer _ (right-off x.rcl _ (right-off x.clr _ none))

  no-restores : x.restores ≡ false
  no-restores = right-off x.emer _ (right-off x.rcl _ (right-off x.clr _ none))

  keeps-cleared : (mark_after m s x).cleared ≡ m.cleared
  keeps-cleared = rest-cleared s.up x.clr s.is_target x.rcl m.cleared no-clr no-rcl (rw (still.up, stands.cleared) (under-previous (c.up a) (cleared c (shown c) a) (cleared-under c a) k))

  keeps-cancelled : (mark_after m s x).cancelled ≡ m.cancelled
  keeps-cancelled = rest-cleared s.is_caution x.emer s.is_target x.restores m.cancelled no-emer no-restores (rw (still.is_caution, stands.cancelled) (cancelled-before c a k))

  keeps-recalled : (mark_after m s x).recalled ≡ m.recalled
  keeps-recalled = rest-recalled s.waiting x.clr s.is_target x.rcl m.recalled no-clr no-rcl (rw (still.waiting, stands.recalled) (under-previous (c.waiting a) (recalled c (shown c) a) (recalled-under c a) k))

  keeps-shown : (mark_after m s x).shown ≡ m.shown
  keeps-shown =
      rw (keeps-cleared, keeps-cancelled, keeps-recalled, still.up)
      (ap (λ b. shown_by (previous (c.up a) k) b m.cancelled m.recalled) stands.cleared
      ∙ ap (λ b. shown_by (previous (c.up a) k) (previous (cleared c (shown c) a) k) b m.recalled) stands.cancelled
      ∙ ap (λ b. shown_by (previous (c.up a) k) (previous (cleared c (shown c) a) k) (previous (cancelled c (shown c) a) k) b) stands.recalled
      ∙ sym (shown-before c a k) ∙ sym stands.shown)

  pub mark-rests : mark_after m s x ≡ m
  mark-rests = same-mark (mark_after m s x) m keeps-cleared keeps-cancelled keeps-recalled keeps-shown
