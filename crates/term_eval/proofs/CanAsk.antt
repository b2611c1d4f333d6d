-- What each node of a condition asks for is there.
use Rattle.std.proofs.Common.{◌≡◌, ℕ, suc, ◌+◌, ◌≤◌, List, [], ◌∷◌, ◌++◌, length, arith}
use Rattle.ecam_spec.specs.Book.{Tree, Trees, constant, discrete, valid, compared, in_phase, alert, press, computer, negation, all, any, at_least, confirmed, held, risen, latched, none, more}
use Rattle.ecam_spec.specs.TermSize.{slots, slots_of, nodes, nodes_of}
use Rattle.ecam_spec.specs.TermNames.{IsWithin, AreWithin}
use Rattle.term_eval.specs.declared.env.Env.{Env}
use Rattle.term_eval.specs.declared.code.Step.{Step}
use Rattle.term_eval.specs.Code.{code, codes, step}
use Rattle.term_eval.specs.Run.{SlotWithin}
use Rattle.term_eval.specs.Begin.{Has, CanAsk, AllCanAsk}
use Rattle.term_eval.proofs.Codes.{nodes-some, length-code}
use Rattle.term_eval.proofs.Inside.{node_at}

can-append : (env : Env) (states wakes cells i : ℕ) (xs ys : List Step) → AllCanAsk env states wakes cells i xs → AllCanAsk env states wakes cells (i + length xs) ys → AllCanAsk env states wakes cells i (xs ++ ys)
unfolding AllCanAsk
can-append env states wakes cells i [] ys first rest = let e : i ≡ i + 0 = omega arith in rw e rest
can-append env states wakes cells i (x ∷ xs) ys first rest =
    let e : i + 1 + length xs ≡ i + suc (length xs) = omega arith in
    (first.0, can-append env states wakes cells (i + 1) xs ys first.1 (rw e rest))

module _ (env : Env) (states wakes cells : ℕ) where
  -- so many slots and states are there
  pub record Room (c : Tree) (at p up : ℕ) : Type 0 where
    pub range : at + slots c ≤ cells
    pub slot : at + slots c ≤ wakes
    pub room : p + nodes c ≤ states
    pub far : up ≤ p
    pub names : IsWithin (length env.values.now) (length env.active.now) c

  has : (c : Tree) (at p up : ℕ) → Room c at p up → Has env cells (node_at at c)
  unfolding IsWithin slots nodes
  has (constant b) at p up r = tt
  has (discrete x) at p up r = r.names
  has (valid x) at p up r = r.names
  has (compared x op n) at p up r = r.names
  has (in_phase set) at p up r = tt
  has (alert a) at p up r = r.names
  has (press key) at p up r = r.names
  has (computer n) at p up r = r.names
  has (negation c) at p up r = tt
  has (all cs) at p up r = tt
  has (any cs) at p up r = tt
  has (at_least n cs) at p up r = tt
  has (confirmed c n) at p up r = omega (arith, r.range)
  has (held c n) at p up r = omega (arith, r.range)
  has (risen c) at p up r = omega (arith, r.range)
  has (latched a b) at p up r = omega (arith, r.range)

  slot : (c : Tree) (at p up : ℕ) → Room c at p up → SlotWithin wakes (node_at at c)
  unfolding slots
  slot (constant b) at p up r = tt
  slot (discrete x) at p up r = tt
  slot (valid x) at p up r = tt
  slot (compared x op n) at p up r = tt
  slot (in_phase set) at p up r = tt
  slot (alert a) at p up r = tt
  slot (press key) at p up r = tt
  slot (computer n) at p up r = tt
  slot (negation c) at p up r = tt
  slot (all cs) at p up r = tt
  slot (any cs) at p up r = tt
  slot (at_least n cs) at p up r = tt
  slot (confirmed c n) at p up r = omega (arith, r.slot)
  slot (held c n) at p up r = omega (arith, r.slot)
  slot (risen c) at p up r = omega (arith, r.slot)
  slot (latched a b) at p up r = omega (arith, r.slot)

  own-can : (c : Tree) (at p up : ℕ) → Room c at p up → CanAsk env states wakes cells p (step (node_at at c) up)
  own-can c at p up r = record { within = omega (arith, r.room, nodes-some c); up = r.far; slot = slot c at p up r; has = has c at p up r }

  behind : (c : Tree) (at up p : ℕ) (ys : List Step) → AllCanAsk env states wakes cells p (code at up c) → AllCanAsk env states wakes cells (p + nodes c) ys → AllCanAsk env states wakes cells p (code at up c ++ ys)
  behind c at up p ys first rest = can-append env states wakes cells p (code at up c) ys first (rw (length-code c at up) rest)

  mutual
    unfolding code codes AllCanAsk IsWithin slots nodes

    pub can : (c : Tree) (at p up : ℕ) → Room c at p up → AllCanAsk env states wakes cells p (code at up c)
    can (constant b) at p up r = (own-can (constant b) at p up r, tt)
    can (discrete x) at p up r = (own-can (discrete x) at p up r, tt)
    can (valid x) at p up r = (own-can (valid x) at p up r, tt)
    can (compared x op n) at p up r = (own-can (compared x op n) at p up r, tt)
    can (in_phase set) at p up r = (own-can (in_phase set) at p up r, tt)
    can (alert a) at p up r = (own-can (alert a) at p up r, tt)
    can (press key) at p up r = (own-can (press key) at p up r, tt)
    can (computer n) at p up r = (own-can (computer n) at p up r, tt)
    can (negation c) at p up r =
        (own-can (negation c) at p up r, can c at (p + 1) 1 (record { range = r.range; slot = r.slot; room = omega (arith, r.room); far = omega arith; names = r.names }))
    can (all cs) at p up r =
        (own-can (all cs) at p up r, can-all cs at (p + 1) 1 r.range r.slot (omega (arith, r.room)) (omega arith) r.names)
    can (any cs) at p up r =
        (own-can (any cs) at p up r, can-all cs at (p + 1) 1 r.range r.slot (omega (arith, r.room)) (omega arith) r.names)
    can (at_least l cs) at p up r =
        (own-can (at_least l cs) at p up r, can-all cs at (p + 1) 1 r.range r.slot (omega (arith, r.room)) (omega arith) r.names)
    can (confirmed c l) at p up r =
        (own-can (confirmed c l) at p up r, can c (at + 1) (p + 1) 1 (record { range = omega (arith, r.range); slot = omega (arith, r.slot); room = omega (arith, r.room); far = omega arith; names = r.names }))
    can (held c l) at p up r =
        (own-can (held c l) at p up r, can c (at + 1) (p + 1) 1 (record { range = omega (arith, r.range); slot = omega (arith, r.slot); room = omega (arith, r.room); far = omega arith; names = r.names }))
    can (risen c) at p up r =
        (own-can (risen c) at p up r, can c (at + 1) (p + 1) 1 (record { range = omega (arith, r.range); slot = omega (arith, r.slot); room = omega (arith, r.room); far = omega arith; names = r.names }))
    can (latched a b) at p up r = (
      own-can (latched a b) at p up r,
      behind a (at + 1) 1 (p + 1) (code (at + 1 + slots a) (1 + nodes a) b)
          (can a (at + 1) (p + 1) 1 (record { range = omega (arith, r.range); slot = omega (arith, r.slot); room = omega (arith, r.room); far = omega arith; names = r.names.0 }))
          (can b (at + 1 + slots a) (p + 1 + nodes a) (1 + nodes a) (record { range = omega (arith, r.range); slot = omega (arith, r.slot); room = omega (arith, r.room); far = omega arith; names = r.names.1 })),
    )

    can-all : (cs : Trees) (at p up : ℕ) → at + slots_of cs ≤ cells → at + slots_of cs ≤ wakes → p + nodes_of cs ≤ states → up ≤ p → AreWithin (length env.values.now) (length env.active.now) cs → AllCanAsk env states wakes cells p (codes at up cs)
    can-all none at p up range slot room far names = tt
    can-all (more c cs) at p up range slot room far names =
        behind c at up p (codes (at + slots c) (up + nodes c) cs) (can c at p up (record { range = omega (arith, range); slot = omega (arith, slot); room = omega (arith, room); far = far; names = names.0 }))
        (can-all cs (at + slots c) (p + nodes c) (up + nodes c) (omega (arith, range)) (omega (arith, slot)) (omega (arith, room)) (omega (arith, far)) names.1)

-- ---- what is asked for at each step of its code, a condition names

can-split : (env : Env) (states wakes cells i : ℕ) (xs ys : List Step) → AllCanAsk env states wakes cells i (xs ++ ys) → AllCanAsk env states wakes cells i xs × AllCanAsk env states wakes cells (i + length xs) ys
unfolding AllCanAsk
can-split env states wakes cells i [] ys can = let e : i + 0 ≡ i = omega arith in (tt, rw e can)
can-split env states wakes cells i (x ∷ xs) ys can =
    let e : i + suc (length xs) ≡ i + 1 + length xs = omega arith in
    let (first, rest) = can-split env states wakes cells (i + 1) xs ys can.1 in
    ((can.0, first), rw e rest)

module _ (env : Env) (states wakes cells : ℕ) where
  mutual
    unfolding code codes AllCanAsk IsWithin

    pub names-of : (c : Tree) (at p up : ℕ) → AllCanAsk env states wakes cells p (code at up c) → IsWithin (length env.values.now) (length env.active.now) c
    names-of (constant b) at p up can = tt
    names-of (discrete x) at p up can = can.0.has
    names-of (valid x) at p up can = can.0.has
    names-of (compared x op n) at p up can = can.0.has
    names-of (in_phase set) at p up can = tt
    names-of (alert a) at p up can = can.0.has
    names-of (press key) at p up can = can.0.has
    names-of (computer n) at p up can = can.0.has
    names-of (negation c) at p up can = names-of c at (p + 1) 1 can.1
    names-of (all cs) at p up can = names-of-all cs at (p + 1) 1 can.1
    names-of (any cs) at p up can = names-of-all cs at (p + 1) 1 can.1
    names-of (at_least n cs) at p up can = names-of-all cs at (p + 1) 1 can.1
    names-of (confirmed c n) at p up can = names-of c (at + 1) (p + 1) 1 can.1
    names-of (held c n) at p up can = names-of c (at + 1) (p + 1) 1 can.1
    names-of (risen c) at p up can = names-of c (at + 1) (p + 1) 1 can.1
    names-of (latched s r) at p up can =
        let (set, reset) = can-split env states wakes cells (p + 1) (code (at + 1) 1 s) (code (at + 1 + slots s) (1 + nodes s) r) can.1 in
        (names-of s (at + 1) (p + 1) 1 set, names-of r (at + 1 + slots s) (p + 1 + length (code (at + 1) 1 s)) (1 + nodes s) reset)

    names-of-all : (cs : Trees) (at p up : ℕ) → AllCanAsk env states wakes cells p (codes at up cs) → AreWithin (length env.values.now) (length env.active.now) cs
    names-of-all none at p up can = tt
    names-of-all (more c cs) at p up can =
        let (first, rest) = can-split env states wakes cells p (code at up c) (codes (at + slots c) (up + nodes c) cs) can in
        (names-of c at p up first, names-of-all cs (at + slots c) (p + length (code at up c)) (up + nodes c) rest)
