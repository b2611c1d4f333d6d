-- What the places hold, step by step, and when each is looked at.
use Rattle.std.proofs.Common.{◌≡◌, ℕ, zero, suc, ◌-◌, ◌^◌, ◌<◌, ◌≤◌, Bool, true, false, leb, ltb, List, [], ◌∷◌, length, set, slice_index, Option, None, cond, refl, ap, ◌∙◌, arith}
use Rattle.std.proofs.lemmas.Bool.Decides.{nat_tests}
use Rattle.ecam_spec.specs.declared.kinds.Kind.{Kind}
use Rattle.ecam_spec.specs.Book.{Source, Parameter}
use Rattle.ecam_spec.specs.Value.{reading}
use Rattle.param_table.specs.declared.received.Received.{Received}
use Rattle.param_table.specs.declared.rules.Rule.{Rule}
use Rattle.param_table.specs.declared.held.Held.{Held}
use Rattle.param_table.specs.HeldValues.{given, is_ending, next_look}
use Rattle.param_table.specs.HeldState.{IsDue, Renews}

-- how many keys have come by now
pub come_by : ℕ → List ℕ → ℕ
come_by now [] = 0
come_by now (x ∷ xs) = cond (leb x now) (suc (come_by now xs)) (come_by now xs)

-- one of them is put off
pub fewer : (now : ℕ) (xs : List ℕ) (i key : ℕ) → i < length xs → slice_index xs i ≤ now → now < key → come_by now (set xs i key) < come_by now xs
unfolding come_by
fewer now [] i key within come late = absurd (omega arith)
fewer now (x ∷ xs) zero key within come late =
    let is : leb x now ≡ true = grind (arith, nat_tests) in
    let is_not : leb key now ≡ false = grind (arith, nat_tests) in
    rw (is, is_not) (omega arith)
fewer now (x ∷ xs) (suc i) key within come late = more (leb x now) (fewer now xs i key (omega arith) come late) where
  more : (b : Bool) → come_by now (set xs i key) < come_by now xs → cond b (suc (come_by now (set xs i key))) (come_by now (set xs i key)) < cond b (suc (come_by now xs)) (come_by now xs)
  more true less = omega arith
  more false less = less

-- what was written twice has what was written last
pub set_set : (xs : List ℕ) (i x y : ℕ) → set (set xs i x) i y ≡ set xs i y
set_set [] i x y = refl
set_set (a ∷ xs) zero x y = refl
set_set (a ∷ xs) (suc i) x y = ap (λ l. a ∷ l) (set_set xs i x y)

pub renews_none : (is_asked : ℕ → Bool) (params : List Parameter) (rules : List (Option Rule)) (clock : ℕ) (h : Held) → Renews is_asked params rules clock h h
renews_none is_asked params rules clock h = record { marks = λ q off. off; gives = λ q s there asked off. refl; due = λ due. due; before = λ q. refl }

pub renews_both : (is_asked : ℕ → Bool) (params : List Parameter) (rules : List (Option Rule)) (clock : ℕ) (a b c : Held) → Renews is_asked params rules clock a b → Renews is_asked params rules clock b c
    → Renews is_asked params rules clock a c
renews_both is_asked params rules clock a b c first second = record {
  marks = λ q off. first.marks q (second.marks q off);
  gives = λ q s there asked off. second.gives q s there asked off ∙ first.gives q s there asked (second.marks q off);
  due = λ due. second.due (first.due due);
  before = λ q. second.before q ∙ first.before q;
}

-- the next look at a place comes after now, and in time
pub next_later : (clock : ℕ) (r : Received) → clock < 2 ^ 32 → clock < next_look clock r
next_later clock r small = by (ltb clock r.end) refl where
  by : (b : Bool) → ltb clock r.end ≡ b → clock < cond b r.end (2 ^ 64 - 1)
  by true is = grind (arith, nat_tests)
  by false is = omega arith

pub next_due : (clock : ℕ) (r : Received) → IsDue clock r (next_look clock r)
next_due clock r = λ fresh. let is : ltb clock r.end ≡ true = grind (arith, nat_tests) in rw is (omega arith)

-- a moment begins with the clock one on
pub will_look_at : (clock : ℕ) (r : Received) (key : ℕ) → IsDue clock r key
    → IsDue (suc clock) r key × (is_ending (suc clock) r ≡ true → key ≤ suc clock)
will_look_at clock r key due = (
  λ fresh. due (omega arith),
  λ ends.
      let at : r.end ≡ suc clock = grind (arith, nat_tests) in
      let low : key ≤ r.end = due (omega arith) in
      omega arith,
)

-- a word that doesn't end to be fresh gives what it gave
pub still_given : (clock : ℕ) (kind : Kind) (s : Source) (r : Received) → is_ending (suc clock) r ≡ false → given (suc clock) kind s r ≡ given clock kind s r
still_given clock kind s r e =
    let same : ltb (suc clock) r.end ≡ ltb clock r.end = grind (arith, nat_tests) in
    ap (λ b. cond b (reading kind s r.bits) None) same
