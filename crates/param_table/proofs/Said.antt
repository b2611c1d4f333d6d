-- What a table says of one source, step by step, against the definition of a source's value.
use Rattle.std.proofs.Common.{◌≡◌, ℕ, zero, suc, ◌+◌, ◌-◌, ◌^◌, ◌<◌, ◌≤◌, ◌==◌, Bool, true, false, leb, ltb, List, [], Option, Some, None, cond, refl, sym, ap, ◌∙◌, arith, inl, inr}
use Rattle.std.specs.Option.{option_map_or, option_or, option_and_then}
use Rattle.std.proofs.lemmas.Bool.{cases_Bool}
use Rattle.std.proofs.lemmas.Bool.Decides.{nat_tests}
use Rattle.ecam_spec.specs.declared.kinds.Kind.{Kind}
use Rattle.ecam_spec.specs.Past.{last, once_within}
use Rattle.ecam_spec.specs.Book.{Source}
use Rattle.ecam_spec.specs.Value.{BusWord, takes, arrives, word_of, is_fresh, reading, source_value}
use Rattle.ecam_spec.specs.History.{OneMore}
use Rattle.ecam_spec.proofs.PastWithin.{once_from-last}
use Rattle.ecam_spec.proofs.ValueAgree.{source_value-below}
use Rattle.param_table.specs.declared.received.Received.{Received}
use Rattle.param_table.specs.declared.mailbox.Mailbox.{Mailbox}
use Rattle.param_table.specs.TableState.{SourceStands, source_before}
use Rattle.param_table.specs.HeldValues.{given, held_for, renewed, set_back}
use Rattle.param_table.proofs.Moments.{word_of-push, last-push, word_of-moment, last-moment, last-start}

-- for how many moments more a word is fresh, by the moment in which it came
abbrev left_of : ℕ → ℕ → Option ℕ → ℕ
left_of stale k o = option_map_or (λ (m : ℕ). m + stale + 1 - k) o 0

-- one more moment
older : (stale k clock end : ℕ) (o : Option ℕ) → end - clock ≡ left_of stale k o → end - suc clock ≡ left_of stale (suc k) o
older stale k clock end None e = omega arith
older stale k clock end (Some m) e = omega arith

-- the clock is set back
back_end : (after stale : ℕ) → stale < 2 ^ 31 → cond (after - 2 ^ 31 == 0) 0 (after - 2 ^ 31 + stale) - (2 ^ 31 - 1) ≡ cond (after == 0) 0 (after + stale) - (2 ^ 32 - 1)
back_end after stale small = by (after == 0) refl (after - 2 ^ 31 == 0) refl where
  by : (a : Bool) → after == 0 ≡ a → (b : Bool) → after - 2 ^ 31 == 0 ≡ b → cond b 0 (after - 2 ^ 31 + stale) - (2 ^ 31 - 1) ≡ cond a 0 (after + stale) - (2 ^ 32 - 1)
  by true one true two = refl
  by true one false two = absurd (grind (arith, nat_tests))
  by false one true two = let least : after ≤ 2 ^ 31 = grind (arith, nat_tests) in omega arith
  by false one false two = let more : 2 ^ 31 < after = grind (arith, nat_tests) in omega arith

module _ (stale : ℕ) (s : Source) where
  pub start_stands : (words : ℕ → List BusWord) (clock : ℕ) (r : Received) → words 0 ≡ [] → r.end ≡ 0 → SourceStands stale s words 0 clock r
  start_stands words clock r none ended = record {
    says = λ fresh. absurd (omega arith);
    left = (let over : r.end - clock ≡ 0 = omega arith in over) ∙ sym (ap (left_of stale 0) (last-start s words none));
  }

  pub moment_stands : (words : ℕ → List BusWord) (k clock : ℕ) (r : Received) → words (suc k) ≡ []
      → SourceStands stale s words k clock r → SourceStands stale s words (suc k) (suc clock) r
  moment_stands words k clock r none stands = record {
    says = λ fresh. word_of-moment s words k none ∙ stands.says (omega arith);
    left = older stale k clock r.end (last (arrives s words) k) stands.left ∙ sym (ap (left_of stale (suc k)) (last-moment s words k none));
  }

  pub set_back_stands : (words : ℕ → List BusWord) (k : ℕ) (m : Mailbox) → stale < 2 ^ 31
      → SourceStands stale s words k (2 ^ 32 - 1) (held_for m stale) → SourceStands stale s words k (2 ^ 31 - 1) (held_for (set_back m) stale)
  set_back_stands words k m small stands =
      let back = back_end m.after stale small in
      record {
        says = λ fresh. stands.says (omega (arith, back, fresh));
        left = (let same : (held_for (set_back m) stale).end - (2 ^ 31 - 1) ≡ (held_for m stale).end - (2 ^ 32 - 1) = back in same) ∙ stands.left;
      }

  pub word_stands : (old new : ℕ → List BusWord) (k clock : ℕ) (w : BusWord) (r : Received) → OneMore old new k w
      → SourceStands stale s old k clock r → SourceStands stale s new k clock (cond (takes s w) (renewed clock stale w.bits) r)
  word_stands old new k clock w r on stands = elim (cases_Bool (takes s w)) [
    | inl so ↦ rw so (record {
      says = λ fresh. word_of-push s old new w k on ∙ ap (λ b. option_or (cond b (Some w.bits) None) (word_of s old k)) so;
      left = (let same : clock + 1 + stale - clock ≡ k + stale + 1 - k = omega arith in same)
          ∙ sym (ap (left_of stale k) (last-push s old new w k on ∙ ap (λ b. cond b (Some k) (last (arrives s old) k)) so));
    })
    | inr not_so ↦ rw not_so (record {
      says = λ fresh. word_of-push s old new w k on ∙ ap (λ b. option_or (cond b (Some w.bits) None) (word_of s old k)) not_so ∙ stands.says fresh;
      left = stands.left ∙ sym (ap (left_of stale k) (last-push s old new w k on ∙ ap (λ b. cond b (Some k) (last (arrives s old) k)) not_so));
    })
  ]

-- fresh by the clock, and by the moments
fresh_left : (stale k clock end : ℕ) (o : Option ℕ) → end - clock ≡ left_of stale k o → ltb clock end ≡ option_map_or (leb (k - stale)) o false
fresh_left stale k clock end None e = grind (arith, nat_tests)
fresh_left stale k clock end (Some m) e = grind (arith, nat_tests)

pub fresh_by_clock : (stale : ℕ) (s : Source) (words : ℕ → List BusWord) (k clock : ℕ) (r : Received)
    → SourceStands stale s words k clock r → ltb clock r.end ≡ is_fresh stale s words k
unfolding is_fresh once_within
fresh_by_clock stale s words k clock r stands =
    fresh_left stale k clock r.end (last (arrives s words) k) stands.left
    ∙ sym (once_from-last (k - stale) (arrives s words) k)

-- the value of a source
pub given_is : (kind : Kind) (stale : ℕ) (s : Source) (words : ℕ → List BusWord) (k clock : ℕ) (r : Received)
    → SourceStands stale s words k clock r → given clock kind s r ≡ source_value kind stale s words k
unfolding source_value
given_is kind stale s words k clock r stands =
    ap (λ b. cond b (reading kind s r.bits) None) (fresh_by_clock stale s words k clock r stands) ∙ elim (cases_Bool (is_fresh stale s words k)) [
      | inl so ↦
          let fresh : ltb clock r.end ≡ true = fresh_by_clock stale s words k clock r stands ∙ so in
          ap (λ o. cond (is_fresh stale s words k) o None) (sym (ap (option_and_then (reading kind s)) (stands.says (grind (arith, nat_tests)))))
      | inr not_so ↦ rw not_so refl
    ]

-- what a source gave goes by the words of the moments before
pub source_before-below : (words later : ℕ → List BusWord) (k : ℕ) → ((i : ℕ) → i < k → words i ≡ later i) → (kind : Kind) (stale : ℕ) (s : Source)
    → source_before kind stale s words k ≡ source_before kind stale s later k
source_before-below words later zero same kind stale s = refl
source_before-below words later (suc j) same kind stale s = source_value-below words later j (λ i h. same i (omega arith)) kind stale s
