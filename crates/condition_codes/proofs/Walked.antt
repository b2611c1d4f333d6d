-- The nodes of a chain are listed, one behind another.
use Rattle.std.proofs.Common.{◌≡◌, ℕ, suc, ◌<◌, ◌≤◌, List, [], ◌∷◌, ◌++◌, length, slice_get, slice_index, Option, Some, sym, ap, subst, ◌∙◌, inl, inr, arith, append_assoc, append-nil}
use Rattle.std.proofs.lemmas.Bool.{cases_eq, cases_lt}
use Rattle.std.proofs.lemmas.Option.{same_Some, slice_get_within}
use Rattle.condition_codes.specs.declared.askers.Asker.{Asker}
use Rattle.condition_codes.specs.Flat.{piece}
use Rattle.condition_codes.specs.Chains.{Wants, IsNext, HasAskers, AreAskers, AddsAskers}
use Rattle.condition_codes.proofs.Behind.{has-old, has-new, each-more}
use Rattle.condition_codes.proofs.Flat.{pieces-none, pieces-next, piece-old, piece-new}

-- each node tells the next that asks for the same
abbrev pub Links : List (Option ℕ) → List ℕ → Type 0
Links ws nexts = (m o : ℕ) → Wants ws m o → IsNext ws o (suc m) (slice_index nexts m)

-- the list has each node before one that asks for the operand, which that one does, if it is a node, and no other
pub record HasBefore (ws : List (Option ℕ)) (nodes : List Asker) (o node : ℕ) (list : List Asker) : Type 0 where
  pub high : node ≤ length ws
  pub asks : node < length ws → Wants ws node o
  pub each : (m : ℕ) (a : Asker) → m < node → Wants ws m o → slice_get nodes m ≡ Some a → (k : ℕ) × (slice_get list k ≡ Some a)
  pub only : (k : ℕ) (a : Asker) → slice_get list k ≡ Some a → (m : ℕ) × Wants ws m o × (slice_get nodes m ≡ Some a)

-- the chain from a first node on is listed as far as a node
pub record IsWalked (first node : ℕ) (nexts : List ℕ) (nodes old new : List Asker) : Type 0 where
  pub own : List Asker
  pub is : new ≡ old ++ own
  pub before : (ws : List (Option ℕ)) (o : ℕ) → length ws ≡ length nexts → IsNext ws o 0 first → Links ws nexts → HasBefore ws nodes o node own

pub walked-none : (first : ℕ) (nexts : List ℕ) (nodes old : List Asker) → IsWalked first first nexts nodes old old
walked-none first nexts nodes old = record {
  own = [];
  is = sym (append-nil old);
  before = λ ws o long next links. record {
    high = next.high;
    asks = next.asks;
    each = λ m a lt wants is. absurd (next.first m (omega arith) lt wants);
    only = λ k a is. absurd (let no : k < 0 = slice_get_within [] k a is in omega arith);
  };
}

module _ (first node : ℕ) (nexts : List ℕ) (nodes old mid : List Asker) (walked : IsWalked first node nexts nodes old mid) (inside : node < length nexts) (x : Asker) (there : slice_get nodes node ≡ Some x) where
  pub walked-next : IsWalked first (slice_index nexts node) nexts nodes old (mid ++ x ∷ [])
  walked-next = record {
    own = walked.own ++ x ∷ [];
    is = ap (λ l. l ++ x ∷ []) walked.is ∙ append_assoc old walked.own (x ∷ []);
    before = λ ws o long next links.
        let so_far = walked.before ws o long next links in
        let here : Wants ws node o = so_far.asks (omega (arith, long)) in
        let behind : IsNext ws o (suc node) (slice_index nexts node) = links node o here in
        record {
          high = behind.high;
          asks = behind.asks;
          each = λ m a lt wants is. elim (cases_lt m node) [
            | inl less ↦ let old_one = so_far.each m a less wants is in (old_one.0, has-old walked.own x old_one.0 a old_one.1)
            | inr after ↦ elim (cases_eq node m) [
              | inl e ↦
                  let same : x ≡ a = same_Some x a (sym there ∙ ap (slice_get nodes) e ∙ is) in
                  (length walked.own, has-new walked.own x ∙ ap Some same)
              | inr ne ↦ absurd (behind.first m (omega arith) lt wants)
            ]
          ];
          only = each-more walked.own x (λ k a. (m : ℕ) × Wants ws m o × (slice_get nodes m ≡ Some a)) so_far.only (node, here, there);
        };
  }

pub walked-all : (first node : ℕ) (nexts : List ℕ) (nodes old new : List Asker) → IsWalked first node nexts nodes old new → length nexts ≤ node → AddsAskers first nexts nodes old new
walked-all first node nexts nodes old new walked after = (
  walked.own,
  walked.is,
  λ ws o long next links.
      let all = walked.before ws o long next links in record {
        each = λ m a wants is. let in_ws : m < length ws = slice_get_within ws m (Some o) wants in all.each m a (omega (arith, long)) wants is;
        only = all.only;
      },
)

-- the lists of no operand
pub askers-none : (ws : List (Option ℕ)) (nodes : List Asker) → AreAskers ws nodes 0 (0 ∷ []) []
askers-none ws nodes = record { pieces = pieces-none; lists = λ o lt. absurd (omega arith) }

-- and of one operand more
pub askers-next : (ws : List (Option ℕ)) (nodes : List Asker) (n : ℕ) (starts : List ℕ) (askers own : List Asker) → AreAskers ws nodes n starts askers → HasAskers ws nodes n own
    → AreAskers ws nodes (suc n) (starts ++ length (askers ++ own) ∷ []) (askers ++ own)
askers-next ws nodes n starts askers own old has = record {
  pieces = pieces-next n starts askers own old.pieces;
  lists = λ o lt. elim (cases_lt o n) [
    | inl before ↦ subst (HasAskers ws nodes o) (sym (piece-old n starts askers own old.pieces o before)) (old.lists o before)
    | inr after ↦
        let e : n ≡ o = omega arith in
        subst (λ m. HasAskers ws nodes m (piece (starts ++ length (askers ++ own) ∷ []) (askers ++ own) m)) e
        (subst (HasAskers ws nodes n) (sym (piece-new n starts askers own old.pieces)) has)
  ];
}
