-- The code of a condition is gone through, and each of its nodes is asked.
use Rattle.std.proofs.Common.{◌≡◌, ℕ, suc, ◌+◌, ◌≤◌, List, [], ◌∷◌, ◌++◌, length, sym, ◌∙◌, ap, subst, arith}
use Rattle.ecam_spec.specs.Book.{Tree, Trees, constant, discrete, valid, compared, in_phase, alert, press, computer, negation, all, any, at_least, confirmed, held, risen, latched, none, more}
use Rattle.ecam_spec.specs.TermSize.{slots, slots_of, nodes, nodes_of, children}
use Rattle.ecam_spec.specs.TermNames.{IsWithin, AreWithin}
use Rattle.ecam_spec.specs.declared.limits.TheConstants.{TERM_NODES}
use Rattle.term_eval.specs.declared.env.Env.{Env}
use Rattle.term_eval.specs.declared.code.Step.{Step}
use Rattle.term_eval.specs.CellWords.{never}
use Rattle.term_eval.specs.Code.{code, codes}
use Rattle.term_eval.specs.Run.{Run}
use Rattle.term_eval.specs.Begin.{ask, ask_over}
use Rattle.term_eval.proofs.Codes.{length-code}
use Rattle.term_eval.proofs.Inside.{inside, code-is, nodes-is, slots-is}
use Rattle.term_eval.proofs.AskedTree.{After, AfterAll, Fits, after-none, after-more, after-node}

ask-append : (env : Env) (i : ℕ) (xs ys : List Step) (s : Run) → ask_over env i (xs ++ ys) s ≡ ask_over env i xs (ask_over env (i + length xs) ys s)
unfolding ask_over
ask-append env i [] ys s = let e : i ≡ i + 0 = omega arith in ap (λ n. ask_over env n ys s) e
ask-append env i (x ∷ xs) ys s =
    let e : i + 1 + length xs ≡ i + suc (length xs) = omega arith in
    ap (ask env i x) (ask-append env (i + 1) xs ys s ∙ ap (λ n. ask_over env (i + 1) xs (ask_over env n ys s)) e)

-- there is room for the slots and states of some conditions, whose parent stands before them, and their nodes can be counted
pub record FitsAll (cs : Trees) (at p up : ℕ) (s : Run) : Type 0 where
  pub range : at + slots_of cs ≤ length s.cells
  pub slot : at + slots_of cs ≤ length s.wakes
  pub room : p + nodes_of cs ≤ length s.states
  pub small : nodes_of cs ≤ TERM_NODES
  pub far : up ≤ p
  pub some : 1 ≤ up
  pub due : s.due ≤ never

module _ (env : Env) where
  node-of : (c : Tree) (at p up : ℕ) (s : Run) → IsWithin (length env.values.now) (length env.active.now) c → Fits c at p up s →
      AfterAll env (children c) (inside at c) (p + 1) 1 s (ask_over env (p + 1) (codes (inside at c) 1 (children c)) s) →
      After env c at p up s (ask_over env p (code at up c) s)
  unfolding ask_over
  node-of c at p up s names fits a =
      subst (After env c at p up s) (sym (ap (λ l. ask_over env p l s) (code-is at up c)))
      (after-node env c at p up s (ask_over env (p + 1) (codes (inside at c) 1 (children c)) s) names fits a)

  more-of : (c : Tree) (cs : Trees) (at p up : ℕ) (s : Run) → 1 ≤ up →
      AfterAll env cs (at + slots c) (p + nodes c) (up + nodes c) s (ask_over env (p + nodes c) (codes (at + slots c) (up + nodes c) cs) s) →
      After env c at p up (ask_over env (p + nodes c) (codes (at + slots c) (up + nodes c) cs) s)
      (ask_over env p (code at up c) (ask_over env (p + nodes c) (codes (at + slots c) (up + nodes c) cs) s)) →
      AfterAll env (more c cs) at p up s (ask_over env p (codes at up (more c cs)) s)
  unfolding codes
  more-of c cs at p up s some rest first =
      let others = codes (at + slots c) (up + nodes c) cs in
      subst (AfterAll env (more c cs) at p up s)
      (sym (ask-append env p (code at up c) others s ∙ ap (λ n. ask_over env p (code at up c) (ask_over env (p + n) others s)) (length-code c at up)))
      (after-more env c cs at p up s (ask_over env (p + nodes c) others s) (ask_over env p (code at up c) (ask_over env (p + nodes c) others s)) some rest first)

  none-of : (at p up : ℕ) (s : Run) → s.due ≤ never → AfterAll env none at p up s (ask_over env p (codes at up none) s)
  unfolding codes ask_over
  none-of at p up s due = after-none env at p up s due

  one-of : (c : Tree) (at p up : ℕ) (s : Run) → 1 ≤ up → s.due ≤ never → After env c at p up s (ask_over env p (code at up c) s) →
      AfterAll env (more c none) at p up s (ask_over env p (codes at up (more c none)) s)
  unfolding codes ask_over
  one-of c at p up s some due first = more-of c none at p up s some (none-of (at + slots c) (p + nodes c) (up + nodes c) s due) first

  -- what fits as a whole fits in its parts
  fits-below : (c : Tree) (at p up : ℕ) (s : Run) → Fits c at p up s → FitsAll (children c) (inside at c) (p + 1) 1 s
  fits-below c at p up s fits = record {
    range = omega (arith, fits.range, slots-is at c);
    slot = omega (arith, fits.slot, slots-is at c);
    room = omega (arith, fits.room, nodes-is c);
    small = omega (arith, fits.small, nodes-is c);
    far = omega arith;
    some = omega arith;
    due = fits.due;
  }

  fits-rest : (c : Tree) (cs : Trees) (at p up : ℕ) (s : Run) → FitsAll (more c cs) at p up s → FitsAll cs (at + slots c) (p + nodes c) (up + nodes c) s
  unfolding slots nodes
  fits-rest c cs at p up s fits = record {
    range = omega (arith, fits.range);
    slot = omega (arith, fits.slot);
    room = omega (arith, fits.room);
    small = omega (arith, fits.small);
    far = omega (arith, fits.far);
    some = omega (arith, fits.some);
    due = fits.due;
  }

  fits-first : (c : Tree) (cs : Trees) (at p up : ℕ) (s m : Run) → FitsAll (more c cs) at p up s → AfterAll env cs (at + slots c) (p + nodes c) (up + nodes c) s m → Fits c at p up m
  unfolding slots nodes
  fits-first c cs at p up s m fits a = record {
    range = omega (arith, fits.range, a.frame.cells);
    slot = omega (arith, fits.slot, a.frame.slots);
    room = omega (arith, fits.room, a.frame.nodes);
    small = omega (arith, fits.small);
    far = fits.far;
    due = omega (arith, fits.due, a.due);
  }

  mutual
    unfolding code codes ask_over children IsWithin

    pub over : (c : Tree) (at p up : ℕ) (s : Run) → IsWithin (length env.values.now) (length env.active.now) c → Fits c at p up s →
        After env c at p up s (ask_over env p (code at up c) s)
    over (constant b) at p up s names fits = node-of (constant b) at p up s names fits (none-of at (p + 1) 1 s fits.due)
    over (discrete x) at p up s names fits = node-of (discrete x) at p up s names fits (none-of at (p + 1) 1 s fits.due)
    over (valid x) at p up s names fits = node-of (valid x) at p up s names fits (none-of at (p + 1) 1 s fits.due)
    over (compared x op n) at p up s names fits = node-of (compared x op n) at p up s names fits (none-of at (p + 1) 1 s fits.due)
    over (in_phase set) at p up s names fits = node-of (in_phase set) at p up s names fits (none-of at (p + 1) 1 s fits.due)
    over (alert a) at p up s names fits = node-of (alert a) at p up s names fits (none-of at (p + 1) 1 s fits.due)
    over (press key) at p up s names fits = node-of (press key) at p up s names fits (none-of at (p + 1) 1 s fits.due)
    over (computer n) at p up s names fits = node-of (computer n) at p up s names fits (none-of at (p + 1) 1 s fits.due)
    over (negation c) at p up s names fits =
        let room = fits-below (negation c) at p up s fits in
        let inner = over c at (p + 1) 1 s names (fits-first c none at (p + 1) 1 s s room (none-of (at + slots c) (p + 1 + nodes c) (1 + nodes c) s fits.due)) in
        node-of (negation c) at p up s names fits (one-of c at (p + 1) 1 s (omega arith) fits.due inner)
    over (all cs) at p up s names fits =
        node-of (all cs) at p up s names fits (over-all cs at (p + 1) 1 s names (fits-below (all cs) at p up s fits))
    over (any cs) at p up s names fits =
        node-of (any cs) at p up s names fits (over-all cs at (p + 1) 1 s names (fits-below (any cs) at p up s fits))
    over (at_least n cs) at p up s names fits =
        node-of (at_least n cs) at p up s names fits (over-all cs at (p + 1) 1 s names (fits-below (at_least n cs) at p up s fits))
    over (confirmed c n) at p up s names fits =
        let room = fits-below (confirmed c n) at p up s fits in
        let inner = over c (at + 1) (p + 1) 1 s names (fits-first c none (at + 1) (p + 1) 1 s s room (none-of (at + 1 + slots c) (p + 1 + nodes c) (1 + nodes c) s fits.due)) in
        node-of (confirmed c n) at p up s names fits (one-of c (at + 1) (p + 1) 1 s (omega arith) fits.due inner)
    over (held c n) at p up s names fits =
        let room = fits-below (held c n) at p up s fits in
        let inner = over c (at + 1) (p + 1) 1 s names (fits-first c none (at + 1) (p + 1) 1 s s room (none-of (at + 1 + slots c) (p + 1 + nodes c) (1 + nodes c) s fits.due)) in
        node-of (held c n) at p up s names fits (one-of c (at + 1) (p + 1) 1 s (omega arith) fits.due inner)
    over (risen c) at p up s names fits =
        let room = fits-below (risen c) at p up s fits in
        let inner = over c (at + 1) (p + 1) 1 s names (fits-first c none (at + 1) (p + 1) 1 s s room (none-of (at + 1 + slots c) (p + 1 + nodes c) (1 + nodes c) s fits.due)) in
        node-of (risen c) at p up s names fits (one-of c (at + 1) (p + 1) 1 s (omega arith) fits.due inner)
    over (latched a b) at p up s names fits =
        let room = fits-below (latched a b) at p up s fits in
        let next = at + 1 + slots a in
        let behind = p + 1 + nodes a in
        let fits-b = fits-rest a (more b none) (at + 1) (p + 1) 1 s room in
        let reset = over b next behind (1 + nodes a) s names.1
        (fits-first b none next behind (1 + nodes a) s s fits-b (none-of (next + slots b) (behind + nodes b) (1 + nodes a + nodes b) s fits.due)) in
        let others = one-of b next behind (1 + nodes a) s fits-b.some fits.due reset in
        let m = ask_over env behind (codes next (1 + nodes a) (more b none)) s in
        let set = over a (at + 1) (p + 1) 1 m names.0 (fits-first a (more b none) (at + 1) (p + 1) 1 s m room others) in
        node-of (latched a b) at p up s names fits (more-of a (more b none) (at + 1) (p + 1) 1 s (omega arith) others set)

    pub over-all : (cs : Trees) (at p up : ℕ) (s : Run) → AreWithin (length env.values.now) (length env.active.now) cs → FitsAll cs at p up s →
        AfterAll env cs at p up s (ask_over env p (codes at up cs) s)
    over-all none at p up s names fits = none-of at p up s fits.due
    over-all (more c cs) at p up s names fits =
        let rest = over-all cs (at + slots c) (p + nodes c) (up + nodes c) s names.1 (fits-rest c cs at p up s fits) in
        let m = ask_over env (p + nodes c) (codes (at + slots c) (up + nodes c) cs) s in
        more-of c cs at p up s fits.some rest (over c at p up m names.0 (fits-first c cs at p up s m fits rest))
