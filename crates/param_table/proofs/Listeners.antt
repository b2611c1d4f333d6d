-- Lists of listeners: one that passes, and the parameters that are marked.
use Rattle.std.proofs.Common.{◌≡◌, ℕ, suc, ◌+◌, ◌<◌, ◌≤◌, Bool, true, false, not, ltb, ◌==◌, ◌&&◌, ◌||◌, bit_and, bit_xor, cond, length, get_or, take, List, [], ◌∷◌, All, refl, sym, ap, ◌∙◌, arith, inl, inr}
use Rattle.std.specs.List.{list_any}
use Rattle.std.proofs.lemmas.Bool.{cases_Bool, or_parts, false≢true}
use Rattle.std.proofs.lemmas.List.Folds.{list_any_more, list_any_none}
use Rattle.std.proofs.lemmas.Bool.Decides.{nat_tests}
use Rattle.std.proofs.lemmas.Grind.{common_steps}
use Rattle.param_table.specs.declared.mailbox.Mailbox.{Mailbox}
use Rattle.param_table.specs.Words.{may_say}
use Rattle.param_table.specs.declared.mailbox.Listener.{Listener}
use Rattle.param_table.specs.HeldValues.{all_fresh, held_for, is_ending, keeps_saying, says_same}

-- one that passes, of which all is so that is so of each, and which doesn't pass where none does
pub found : (P : Listener → Type 0) (p q : Listener → Bool) (ls : List Listener) → list_any p ls ≡ true → All P ls → list_any q ls ≡ false
    → (l : Listener) × (p l ≡ true) × P l × (q l ≡ false)
found P p q [] any all none = absurd (false≢true any)
found P p q (x ∷ xs) any all none =
    let parts = or_parts (q x) (list_any q xs) none in
    elim (cases_Bool (p x)) [
      | inl so ↦ (x, so, all 0 x (omega arith), parts.0)
      | inr not_so ↦ found P p q xs (sym (ap (λ b. b || list_any p xs) not_so) ∙ any) (λ k d l. all (suc k) d (omega arith)) parts.1
    ]

pub any_false : (ls : List Listener) → list_any (λ l. false) ls ≡ false
any_false [] = refl
any_false (l ∷ ls) = any_false ls

-- one more listener was looked at, of those that mark
swap : (a b c : Bool) → (a || (b || c)) ≡ ((b || a) || c)
swap true true c = refl
swap true false c = refl
swap false true c = refl
swap false false c = refl

pub any_marked : (f : Listener → Bool) (ls : List Listener) (i : ℕ) (d : Listener) (own was old : Bool) → i < length ls
    → own ≡ f (get_or ls i d) → was ≡ (list_any f (take i ls) || old) → (own || was) ≡ (list_any f (take (i + 1) ls) || old)
any_marked f ls i d own was old less is before =
    ap (λ b. b || was) is ∙ ap (λ b. f (get_or ls i d) || b) before ∙ swap (f (get_or ls i d)) (list_any f (take i ls)) old
    ∙ sym (ap (λ b. b || old) (list_any_more f ls i d less))

-- a word says the same as itself
says_own : (l : Listener) (bits : ℕ) → says_same l bits bits ≡ true
says_own l bits =
    let none : bit_and (bit_xor bits bits) l.mask ≡ 0 = grind (arith, common_steps) in
    ap (λ n. n == 0 || not (may_say l.modes bits || may_say l.modes bits)) none

-- a word that is fresh for all is fresh for each
pub fresh_for : (clock stale : ℕ) (m : Mailbox) → all_fresh clock m ≡ true → m.hearers.soonest ≤ stale → clock < (held_for m stale).end
fresh_for clock stale m fresh le = by (m.after == 0) (grind (arith, nat_tests)) where
  by : (b : Bool) → clock < cond b 0 (m.after + m.hearers.soonest) → clock < cond b 0 (m.after + stale)
  by true less = less
  by false less = omega arith

-- and ends to be for none
pub fresh_none : (clock : ℕ) (m : Mailbox) (p : ℕ) (ls : List Listener) → all_fresh clock m ≡ true → All (λ (l : Listener). m.hearers.soonest ≤ l.stale) ls
    → list_any (λ (l : Listener). p == l.param && is_ending clock (held_for m l.stale)) ls ≡ false
fresh_none clock m p ls fresh soonest = list_any_none (λ (l : Listener). p == l.param && is_ending clock (held_for m l.stale)) ls
    (λ k d less. let l = get_or ls k d in none (p == l.param) (held_for m l.stale).end (fresh_for clock l.stale m fresh (soonest k d less))) where
      none : (b : Bool) (end : ℕ) → clock < end → (b && end == clock) ≡ false
      none false end less = refl
      none true end less = grind (arith, nat_tests)

-- where the last word is fresh for all, those are marked to whom the next one says something else
pub fresh_marks : (clock bits : ℕ) (m : Mailbox) (p : ℕ) (ls : List Listener) → all_fresh clock m ≡ true → All (λ (l : Listener). m.hearers.soonest ≤ l.stale) ls
    → list_any (λ (l : Listener). p == l.param && not (says_same l m.bits bits)) ls ≡ list_any (λ (l : Listener). p == l.param && not (keeps_saying clock bits m l)) ls
fresh_marks clock bits m p [] fresh soonest = refl
fresh_marks clock bits m p (l ∷ ls) fresh soonest =
    let longer = fresh_for clock l.stale m fresh (soonest 0 l (omega arith)) in
    let here : ltb clock (held_for m l.stale).end ≡ true = grind (arith, nat_tests) in
    ap (λ t. (p == l.param && not (says_same l m.bits bits)) || t) (fresh_marks clock bits m p ls fresh (λ k d less. soonest (suc k) d (omega arith)))
    ∙ sym (ap (λ b. (p == l.param && not (b && says_same l m.bits bits)) || list_any (λ (x : Listener). p == x.param && not (keeps_saying clock bits m x)) ls) here)

-- and none where it is the same
pub same_marks : (bits p : ℕ) (ls : List Listener) → list_any (λ (l : Listener). p == l.param && not (says_same l bits bits)) ls ≡ false
same_marks bits p ls = list_any_none (λ (l : Listener). p == l.param && not (says_same l bits bits)) ls
    (λ k d less. ap (λ b. p == (get_or ls k d).param && not b) (says_own (get_or ls k d) bits) ∙ and_false (p == (get_or ls k d).param)) where
      and_false : (b : Bool) → (b && false) ≡ false
      and_false true = refl
      and_false false = refl
