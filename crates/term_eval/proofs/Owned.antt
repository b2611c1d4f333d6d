-- Which slots belong to which nodes: those of the temporal parts follow one another in the order of the code.
use Rattle.std.proofs.Common.{◌≡◌, ◌≢◌, ℕ, suc, ◌+◌, ◌<◌, Bool, true, false, List, [], ◌∷◌, ◌++◌, cond, inl, inr, refl, sym, ◌∙◌, ap, subst, arith, append_assoc, append-nil}
use Rattle.std.specs.List.{slice_get}
use Rattle.std.proofs.lemmas.Bool.{cases_lt}
use Rattle.ecam_spec.specs.Book.{Tree, Trees, constant, discrete, valid, compared, in_phase, alert, press, computer, negation, all, any, at_least, confirmed, held, risen, latched, none, more}
use Rattle.ecam_spec.specs.TermSize.{slots, slots_of, nodes, children}
use Rattle.term_eval.specs.Code.{has_slot, owner_of}
use Rattle.term_eval.specs.Run.{owned}
use Rattle.term_eval.specs.Parts.{Part, parts, parts_of, Heads, is_temporal}
use Rattle.term_eval.proofs.Inside.{node_at, inside, slots-is}
use Rattle.term_eval.proofs.PartLaws.{for-tree, parts-is}
use Rattle.term_eval.proofs.CodeParts.{slots-rise}

-- the first slot behind a node's own
abbrev pub behind : Tree → ℕ → ℕ
behind c slot = cond (is_temporal c) (suc slot) slot

behind-is : (c : Tree) (at : ℕ) → behind c at ≡ inside at c
unfolding is_temporal
behind-is (constant b) at = refl
behind-is (discrete x) at = refl
behind-is (valid x) at = refl
behind-is (compared x op n) at = refl
behind-is (in_phase set) at = refl
behind-is (alert a) at = refl
behind-is (press key) at = refl
behind-is (computer n) at = refl
behind-is (negation c) at = refl
behind-is (all cs) at = refl
behind-is (any cs) at = refl
behind-is (at_least n cs) at = refl
behind-is (confirmed c n) at = omega arith
behind-is (held c n) at = omega arith
behind-is (risen c) at = omega arith
behind-is (latched s r) at = omega arith

-- a node's step has a slot where it is temporal
pub has-slot : (c : Tree) (at : ℕ) → has_slot (node_at at c) ≡ is_temporal c
unfolding is_temporal
has-slot (constant b) at = refl
has-slot (discrete x) at = refl
has-slot (valid x) at = refl
has-slot (compared x op n) at = refl
has-slot (in_phase set) at = refl
has-slot (alert a) at = refl
has-slot (press key) at = refl
has-slot (computer n) at = refl
has-slot (negation c) at = refl
has-slot (all cs) at = refl
has-slot (any cs) at = refl
has-slot (at_least n cs) at = refl
has-slot (confirmed c n) at = refl
has-slot (held c n) at = refl
has-slot (risen c) at = refl
has-slot (latched s r) at = refl

-- what is read of a temporal node tells which it is
pub owned-is : (c : Tree) (at i : ℕ) → is_temporal c ≡ true → owned (owner_of i (node_at at c)) at ≡ node_at at c
unfolding is_temporal
owned-is (constant b) at i temporal = absurd (let f : ⊥ = cc in f)
owned-is (discrete x) at i temporal = absurd (let f : ⊥ = cc in f)
owned-is (valid x) at i temporal = absurd (let f : ⊥ = cc in f)
owned-is (compared x op n) at i temporal = absurd (let f : ⊥ = cc in f)
owned-is (in_phase set) at i temporal = absurd (let f : ⊥ = cc in f)
owned-is (alert a) at i temporal = absurd (let f : ⊥ = cc in f)
owned-is (press key) at i temporal = absurd (let f : ⊥ = cc in f)
owned-is (computer n) at i temporal = absurd (let f : ⊥ = cc in f)
owned-is (negation c) at i temporal = absurd (let f : ⊥ = cc in f)
owned-is (all cs) at i temporal = absurd (let f : ⊥ = cc in f)
owned-is (any cs) at i temporal = absurd (let f : ⊥ = cc in f)
owned-is (at_least n cs) at i temporal = absurd (let f : ⊥ = cc in f)
owned-is (confirmed c n) at i temporal = refl
owned-is (held c n) at i temporal = refl
owned-is (risen c) at i temporal = refl
owned-is (latched s r) at i temporal = refl

-- the slots of some parts follow one another from a place up to another
unfoldable pub Follow : ℕ → List Part → ℕ → Type 0
Follow slot [] end = slot ≡ end
Follow slot (x ∷ xs) end = (x.at ≡ slot) × Follow (behind x.tree slot) xs end

FollowOf : Trees → Type 0
FollowOf cs = (at up end : ℕ) (xs : List Part) → Follow (at + slots_of cs) xs end → Follow at (parts_of at up cs ++ xs) end

FollowIn : Tree → Type 0
FollowIn c = (at up end : ℕ) (xs : List Part) → Follow (at + slots c) xs end → Follow at (parts at up c ++ xs) end

follow-node : (c : Tree) → FollowOf (children c) → FollowIn c
unfolding FollowOf FollowIn Follow
follow-node c below at up end xs rest =
    let ys = parts_of (inside at c) 1 (children c) ++ xs in
    let others : Follow (inside at c) ys end = below (inside at c) 1 end xs (subst (λ s. Follow s xs end) (slots-is at c) rest) in
    subst (λ l. Follow at (l ++ xs) end) (sym (parts-is at up c)) (refl, subst (λ s. Follow s ys end) (sym (behind-is c at)) others)

follow-none : FollowOf none
unfolding FollowOf parts slots
follow-none at up end xs rest = let e : at + 0 ≡ at = omega arith in subst (λ s. Follow s xs end) e rest

follow-more : (c : Tree) (cs : Trees) → FollowIn c → FollowOf cs → FollowOf (more c cs)
unfolding FollowOf FollowIn parts slots
follow-more c cs first others at up end xs rest =
    let ys = parts_of (at + slots c) (up + nodes c) cs in
    let e : at + (slots c + slots_of cs) ≡ at + slots c + slots_of cs = omega arith in
    subst (λ l. Follow at l end) (sym (append_assoc (parts at up c) ys xs))
    (first at up end (ys ++ xs) (others (at + slots c) (up + nodes c) end xs (subst (λ s. Follow s xs end) e rest)))

pub follow : (c : Tree) (at : ℕ) → Follow at (parts at 0 c) (at + slots c)
unfolding FollowIn Follow
follow c at = subst (λ l. Follow at l (at + slots c)) (append-nil (parts at 0 c)) (for-tree FollowIn FollowOf follow-node follow-none follow-more c at 0 (at + slots c) [] refl)

-- how many of some parts are temporal
unfoldable pub temporal_count : List Part → ℕ
temporal_count [] = 0
temporal_count (x ∷ xs) = cond (is_temporal x.tree) (suc (temporal_count xs)) (temporal_count xs)

one-more : (b : Bool) (slot n end : ℕ) → cond b (suc slot) slot + n ≡ end → slot + cond b (suc n) n ≡ end
one-more true slot n end is = omega (arith, is)
one-more false slot n end is = is

pub many-slots : (slot end : ℕ) (xs : List Part) → Follow slot xs end → slot + temporal_count xs ≡ end
unfolding Follow temporal_count
many-slots slot end [] f = omega (arith, f)
many-slots slot end (x ∷ xs) f = one-more (is_temporal x.tree) slot (temporal_count xs) end (many-slots (behind x.tree slot) end xs f.1)

-- some parts of a condition are those from a place on, and so are their slots
pub record Place (c : Tree) (at m slot : ℕ) (xs : List Part) : Type 0 where
  pub here : (j : ℕ) → slice_get (parts at 0 c) (m + j) ≡ slice_get xs j
  pub slots : Follow slot xs (at + slots c)

pub place-first : (c : Tree) (at : ℕ) → Place c at 0 at (parts at 0 c)
place-first c at = record {
  here = λ j. ap (slice_get (parts at 0 c)) (let e : 0 + j ≡ j = omega arith in e);
  slots = follow c at;
}

module _ (c : Tree) (at m slot : ℕ) (x : Part) (xs : List Part) (p : Place c at m slot (x ∷ xs)) where
  pub place-heads : Heads c at m x
  place-heads = ap (slice_get (parts at 0 c)) (let e : m ≡ m + 0 = omega arith in e) ∙ p.here 0

  pub place-slot : x.at ≡ slot
  unfolding Follow
  place-slot = p.slots.0

  pub place-next : Place c at (m + 1) (behind x.tree slot) xs
  unfolding Follow
  place-next = record {
    here = λ j. ap (slice_get (parts at 0 c)) (let e : m + 1 + j ≡ m + suc j = omega arith in e) ∙ p.here (suc j);
    slots = p.slots.1;
  }

-- no two temporal parts have one slot
pub slots-apart : (c : Tree) (at i j : ℕ) (x y : Part) → Heads c at i x → Heads c at j y → is_temporal x.tree ≡ true → is_temporal y.tree ≡ true → j ≢ i → y.at ≢ x.at
slots-apart c at i j x y one other temporal timed apart same = elim (cases_lt i j) [
  | inl later ↦ (let less = slots-rise c at i j x y one other later temporal in absurd (let z : ⊥ = omega (arith, less, same) in z))
  | inr from ↦
      (let before : j < i = omega arith in
      let less = slots-rise c at j i y x other one before timed in
      absurd (let z : ⊥ = omega (arith, less, same) in z))
]
