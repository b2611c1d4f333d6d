-- The world in which everything stays as it is in a moment: it is still, and up to then it is the world itself.
use Rattle.std.proofs.Common.{◌≡◌, ℕ, zero, suc, ◌+◌, ◌<◌, ◌≤◌, min, not, ◌&&◌, List, cond, refl, sym, ◌∙◌, ap, arith}
use Rattle.ecam_spec.specs.declared.kinds.Key.{Key}
use Rattle.ecam_spec.specs.Past.{Signal, last, start_of}
use Rattle.ecam_spec.specs.Book.{Tree, Trees, constant, discrete, valid, compared, in_phase, alert, press, computer, negation, all, any, at_least, confirmed, held, risen, latched, none, more}
use Rattle.ecam_spec.specs.Term.{World, holds, latch}
use Rattle.ecam_spec.specs.TermSize.{slots}
use Rattle.ecam_spec.specs.TermNames.{AgreeOn, AgreeOnAll}
use Rattle.ecam_spec.proofs.TermNames.{holds-below}
use Rattle.ecam_spec.proofs.PastAgree.{start_of-below, last-below, previous-below, since-below}
use Rattle.term_eval.specs.declared.env.Env.{Env}
use Rattle.term_eval.specs.declared.memory.Cell.{Cell}
use Rattle.term_eval.specs.declared.memory.Cell.TheVariants.{Off, On, At}
use Rattle.term_eval.specs.CellWords.{stretch, lasted, on_if, at_last}
use Rattle.term_eval.specs.CellState.{Stand, StandAll}
use Rattle.term_eval.specs.Due.{staying}
use Rattle.term_eval.specs.Settles.{Still}
use Rattle.term_eval.specs.Shown.{Shows}

pub still-staying : (w : World) (k : ℕ) → Still (staying w k) k
unfolding staying
still-staying w k =
    let end : (m : ℕ) → k ≤ m → min m k ≡ min k k = λ m later. omega arith in
    record {
      values = λ p m later. ap (w.values p) (end m later);
      phase = λ m later. ap w.phase (end m later);
      active = λ a m later. ap (w.active a) (end m later);
      pressed = λ x m later. ap (w.pressed x) (end m later);
      up = λ n m later. ap (w.up n) (end m later);
    }

pub shows-staying : (env : Env) (w : World) (k : ℕ) → Shows env w k → Shows env (staying w k) k
unfolding staying
shows-staying env w k shows =
    let here : k ≡ min k k = omega arith in
    record {
      values = λ p within. shows.values p within ∙ ap (w.values p) here;
      phase = shows.phase ∙ ap w.phase here;
      active = λ a within. shows.active a within ∙ ap (w.active a) here;
      pressed = λ x known. shows.pressed x known ∙ ap (w.pressed x) here;
      one_up = shows.one_up ∙ ap (w.up 1) here;
      two_up = shows.two_up ∙ ap (w.up 2) here;
    }

-- two worlds are the same in a moment
pub record SameIn (v w : World) (i : ℕ) : Type 0 where
  pub values : (p : ℕ) → v.values p i ≡ w.values p i
  pub phase : v.phase i ≡ w.phase i
  pub active : (a : ℕ) → v.active a i ≡ w.active a i
  pub pressed : (x : Key) → v.pressed x i ≡ w.pressed x i
  pub up : (n : ℕ) → v.up n i ≡ w.up n i

mutual
  unfolding AgreeOn

  pub same-agree : (v w : World) (i : ℕ) → SameIn v w i → (c : Tree) → AgreeOn v w i c
  same-agree v w i same (constant b) = tt
  same-agree v w i same (discrete p) = same.values p
  same-agree v w i same (valid p) = same.values p
  same-agree v w i same (compared p op x) = same.values p
  same-agree v w i same (in_phase set) = same.phase
  same-agree v w i same (alert a) = same.active a
  same-agree v w i same (press key) = same.pressed key
  same-agree v w i same (computer n) = same.up n
  same-agree v w i same (negation c) = same-agree v w i same c
  same-agree v w i same (all cs) = same-agree_all v w i same cs
  same-agree v w i same (any cs) = same-agree_all v w i same cs
  same-agree v w i same (at_least n cs) = same-agree_all v w i same cs
  same-agree v w i same (confirmed c n) = same-agree v w i same c
  same-agree v w i same (held c n) = same-agree v w i same c
  same-agree v w i same (risen c) = same-agree v w i same c
  same-agree v w i same (latched s r) = (same-agree v w i same s, same-agree v w i same r)

  pub same-agree_all : (v w : World) (i : ℕ) → SameIn v w i → (cs : Trees) → AgreeOnAll v w i cs
  same-agree_all v w i same none = tt
  same-agree_all v w i same (more c cs) = (same-agree v w i same c, same-agree_all v w i same cs)

pub staying-same : (w : World) (k i : ℕ) → i ≤ k → SameIn (staying w k) w i
unfolding staying
staying-same w k i within =
    let here : min i k ≡ i = omega arith in
    record {
      values = λ p. ap (w.values p) here;
      phase = ap w.phase here;
      active = λ a. ap (w.active a) here;
      pressed = λ x. ap (w.pressed x) here;
      up = λ n. ap (w.up n) here;
    }

pub holds-staying : (w : World) (k : ℕ) (c : Tree) (i : ℕ) → i ≤ k → holds (staying w k) c i ≡ holds w c i
holds-staying w k c i within = holds-below (staying w k) w c i (λ j below. same-agree (staying w k) w j (staying-same w k j (omega arith)) c)

-- what cells hold after k moments rests on these moments alone
stretch-below : (p q : Signal) (k : ℕ) → ((i : ℕ) → i < k → p i ≡ q i) → stretch p k ≡ stretch q k
unfolding stretch
stretch-below p q zero same = refl
stretch-below p q (suc k) same =
    ap (λ b. cond b (At (start_of p k)) Off) (same k (omega arith))
    ∙ ap (λ s. cond (q k) (At s) Off) (start_of-below p q k (λ i below. same i (omega arith)))

lasted-below : (p q : Signal) (k : ℕ) → ((i : ℕ) → i < k → p i ≡ q i) → lasted p k ≡ lasted q k
unfolding lasted
lasted-below p q zero same = refl
lasted-below p q (suc k) same =
    ap (λ b. cond b On (at_last (last p k))) (same k (omega arith))
    ∙ ap (λ l. cond (q k) On (at_last l)) (last-below p q k (λ i below. same i (omega arith)))

latch-below : (s t r u : Signal) (k i : ℕ) → i < k → ((j : ℕ) → j < k → s j ≡ t j) → ((j : ℕ) → j < k → r j ≡ u j) → latch s r i ≡ latch t u i
latch-below s t r u k i within set reset =
    since-below (λ j. s j && not (r j)) (λ j. t j && not (u j)) (λ j. not (r j)) (λ j. not (u j)) i
    (λ j below. ap (λ b. b && not (r j)) (set j (omega arith)) ∙ ap (λ b. t j && not b) (reset j (omega arith)))
    (λ j below. ap not (reset j (omega arith)))

module _ (v w : World) (k : ℕ) (same : (c : Tree) (i : ℕ) → i < k → holds v c i ≡ holds w c i) where
  mutual
    unfolding Stand

    pub Stand-below : (c : Tree) (at : ℕ) (cells : List Cell) → Stand w k c at cells → Stand v k c at cells
    Stand-below (constant b) at cells h = h
    Stand-below (discrete p) at cells h = h
    Stand-below (valid p) at cells h = h
    Stand-below (compared p op x) at cells h = h
    Stand-below (in_phase set) at cells h = h
    Stand-below (alert a) at cells h = h
    Stand-below (press key) at cells h = h
    Stand-below (computer n) at cells h = h
    Stand-below (negation c) at cells h = Stand-below c at cells h
    Stand-below (all cs) at cells h = StandAll-below cs at cells h
    Stand-below (any cs) at cells h = StandAll-below cs at cells h
    Stand-below (at_least n cs) at cells h = StandAll-below cs at cells h
    Stand-below (confirmed c n) at cells h = (h.0 ∙ sym (stretch-below (holds v c) (holds w c) k (same c)), Stand-below c (at + 1) cells h.1)
    Stand-below (held c n) at cells h = (h.0 ∙ sym (lasted-below (holds v c) (holds w c) k (same c)), Stand-below c (at + 1) cells h.1)
    Stand-below (risen c) at cells h = (h.0 ∙ sym (ap on_if (previous-below (holds v c) (holds w c) k (same c))), Stand-below c (at + 1) cells h.1)
    Stand-below (latched s r) at cells h = (
      h.0
          ∙ sym (ap on_if (previous-below (latch (holds v s) (holds v r)) (latch (holds w s) (holds w r)) k
          (λ i within. latch-below (holds v s) (holds w s) (holds v r) (holds w r) k i within (same s) (same r)))),
      Stand-below s (at + 1) cells h.1,
      Stand-below r (at + 1 + slots s) cells h.2,
    )

    pub StandAll-below : (cs : Trees) (at : ℕ) (cells : List Cell) → StandAll w k cs at cells → StandAll v k cs at cells
    StandAll-below none at cells h = h
    StandAll-below (more c cs) at cells h = (Stand-below c at cells h.0, StandAll-below cs (at + slots c) cells h.1)

pub Stand-staying : (w : World) (k : ℕ) (c : Tree) (at : ℕ) (cells : List Cell) → Stand w k c at cells → Stand (staying w k) k c at cells
Stand-staying w k c at cells h = Stand-below (staying w k) w k (λ d i within. holds-staying w k d i (omega arith)) c at cells h
