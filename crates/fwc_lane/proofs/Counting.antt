-- The nodes of the conditions that are marked: what one mark more adds, and that those of a moment's are the nodes that it visits.
use Rattle.std.proofs.Common.{◌≡◌, ◌≢◌, ℕ, zero, suc, ◌+◌, ◌-◌, ◌^◌, ◌<◌, ◌≤◌, min, Bool, true, false, ◌||◌, eqb, cond, not, List, length, get_or, Option, None, Some, slice_get, refl, sym, ap, ◌∙◌, inl, inr, arith}
use Rattle.std.specs.Option.{option_map_or}
use Rattle.std.proofs.Math.Nat.{eq-or-lt_of_le}
use Rattle.std.proofs.lemmas.Bool.{cases_eq, eq-eqb, ne_eqb}
use Rattle.std.proofs.lemmas.Option.{slice_get-get_or}
use Rattle.ecam_spec.specs.Book.{constant}
use Rattle.ecam_spec.specs.Term.{World}
use Rattle.ecam_spec.specs.TermSize.{Placed, nodes}
use Rattle.term_eval.specs.Woken.{woken}
use Rattle.wakes.specs.Marks.{is_marked}
use Rattle.condition_codes.specs.Places.{nodes_before}
use Rattle.condition_codes.proofs.Places.{nodes-next}
use Rattle.fwc_lane.specs.Visits.{visits_below, nodes_marked, marked_nodes, IsCounted}

module _ (ps : List Placed) where
  -- what a condition adds where it is marked so
  added : ℕ → Bool → ℕ
  added i on = option_map_or (λ (p : Placed). cond on (nodes p.tree) 0) (slice_get ps i) 0

  pub marked-same : (old new : List ℕ) (n : ℕ) → ((j : ℕ) → j < n → is_marked new j ≡ is_marked old j) → marked_nodes ps new n ≡ marked_nodes ps old n
  unfolding marked_nodes added
  marked-same old new zero same = refl
  marked-same old new (suc n) same =
      ap (λ m. m + nodes_marked ps new n) (marked-same old new n (λ j lt. same j (omega arith)))
      ∙ ap (λ on. marked_nodes ps old n + added n on) (same n (omega arith))

  pub marked-none : (marks : List ℕ) (n : ℕ) → ((j : ℕ) → is_marked marks j ≡ false) → marked_nodes ps marks n ≡ 0
  unfolding marked_nodes added
  marked-none marks zero none = refl
  marked-none marks (suc n) none =
      let below = marked-none marks n none in
      let own : nodes_marked ps marks n ≡ 0 = ap (added n) (none n) ∙ by (slice_get ps n) in
      omega (arith, below, own) where
        by : (found : Option Placed) → option_map_or (λ (p : Placed). cond false (nodes p.tree) 0) found 0 ≡ 0
        by None = refl
        by (Some p) = refl

  -- ---- one mark more

  module _ (old new : List ℕ) (i : ℕ) (p : Placed) (here : slice_get ps i ≡ Some p) (off : is_marked old i ≡ false) (marks : (j : ℕ) → is_marked new j ≡ (eqb j i || is_marked old j)) where
    other : (j : ℕ) → j ≢ i → is_marked new j ≡ is_marked old j
    other j ne = marks j ∙ ap (λ b. b || is_marked old j) (ne_eqb j i ne)

    own : is_marked new i ≡ true
    own = marks i ∙ ap (λ b. b || is_marked old i) (eq-eqb i i refl)

    added-own : (on : Bool) → added i on ≡ cond on (nodes p.tree) 0
    unfolding added
    added-own on = ap (λ found. option_map_or (λ (q : Placed). cond on (nodes q.tree) 0) found 0) here

    marked-more : (n : ℕ) → i < n → marked_nodes ps new n ≡ marked_nodes ps old n + nodes p.tree
    unfolding marked_nodes added
    marked-more zero lt = absurd (omega arith)
    marked-more (suc n) lt = elim (eq-or-lt_of_le (let le : i ≤ n = omega arith in le)) [
      | inl e ↦
          let below : marked_nodes ps new n ≡ marked_nodes ps old n = marked-same old new n (λ j less. other j (λ same. absurd (omega (arith, e, same)))) in
          let now : nodes_marked ps new n ≡ nodes p.tree = ap (nodes_marked ps new) (sym e) ∙ ap (added i) own ∙ added-own true in
          let was : nodes_marked ps old n ≡ 0 = ap (nodes_marked ps old) (sym e) ∙ ap (added i) off ∙ added-own false in
          omega (arith, below, now, was)
      | inr less ↦
          let below = marked-more n less in
          let same : nodes_marked ps new n ≡ nodes_marked ps old n = ap (added n) (other n (λ e. absurd (omega (arith, e)))) in
          omega (arith, below, same)
    ]

  pub counted-same : (old new : List ℕ) (visited count : ℕ) → ((j : ℕ) → is_marked new j ≡ is_marked old j) → IsCounted ps visited old count → IsCounted ps visited new count
  counted-same old new visited count same before = before ∙ ap (λ n. min (visited + n) (2 ^ 64 - 1)) (sym (marked-same old new (length ps) (λ j lt. same j)))

  -- a condition was put in, whose nodes are more where it is new
  pub marked-put : (old new : List ℕ) (i size : ℕ) (is_new : Bool) → i < length ps → ((p : Placed) → slice_get ps i ≡ Some p → size ≡ nodes p.tree)
      → is_new ≡ not (is_marked old i) → ((j : ℕ) → is_marked new j ≡ (eqb j i || is_marked old j))
      → marked_nodes ps new (length ps) ≡ marked_nodes ps old (length ps) + cond is_new size 0
  marked-put old new i size is_new inside sizes is marks = by (is_marked old i) refl where
    none : Placed
    none = record { tree = constant true; at = 0 }

    here : slice_get ps i ≡ Some (get_or ps i none)
    here = slice_get-get_or ps i none inside

    by : (on : Bool) → is_marked old i ≡ on → marked_nodes ps new (length ps) ≡ marked_nodes ps old (length ps) + cond is_new size 0
    by false off =
        let own : cond is_new size 0 ≡ nodes (get_or ps i none).tree = ap (λ b. cond b size 0) (is ∙ ap not off) ∙ sizes (get_or ps i none) here in
        omega (arith, own, marked-more old new i (get_or ps i none) here off marks (length ps) inside)
    by true on =
        let own : cond is_new size 0 ≡ 0 = ap (λ b. cond b size 0) (is ∙ ap not on) in
        omega (arith, own, marked-same old new (length ps) (λ j lt. stays j))
      where
        stays : (j : ℕ) → is_marked new j ≡ is_marked old j
        stays j = marks j ∙ elim (cases_eq j i) [
          | inl e ↦ ap (λ b. b || is_marked old j) (eq-eqb j i e) ∙ sym (ap (is_marked old) e ∙ on)
          | inr ne ↦ ap (λ b. b || is_marked old j) (ne_eqb j i ne)
        ]

  -- and so are counted
  pub counted-put : (old new : List ℕ) (i size visited was now : ℕ) (is_new : Bool) → i < length ps → ((p : Placed) → slice_get ps i ≡ Some p → size ≡ nodes p.tree)
      → is_new ≡ not (is_marked old i) → ((j : ℕ) → is_marked new j ≡ (eqb j i || is_marked old j)) → now ≡ min (was + cond is_new size 0) (2 ^ 64 - 1)
      → IsCounted ps visited old was → IsCounted ps visited new now
  counted-put old new i size visited was now is_new inside sizes is marks counts before =
      let more = marked-put old new i size is_new inside sizes is marks in omega (arith, counts, before, more)

  -- there are no more than all nodes
  pub marked-most : (marks : List ℕ) (n : ℕ) → n ≤ length ps → marked_nodes ps marks n ≤ nodes_before ps n
  unfolding marked_nodes
  marked-most marks zero le = omega arith
  marked-most marks (suc n) le = by (slice_get ps n) refl (is_marked marks n) (marked-most marks n (omega arith)) where
    by : (found : Option Placed) → slice_get ps n ≡ found → (on : Bool) → marked_nodes ps marks n ≤ nodes_before ps n
        → marked_nodes ps marks n + option_map_or (λ (p : Placed). cond on (nodes p.tree) 0) found 0 ≤ nodes_before ps (suc n)
    by None past on below = absurd (let no : Some (get_or ps n (record { tree = constant true; at = 0 })) ≡ None = sym (slice_get-get_or ps n (record { tree = constant true; at = 0 }) (omega arith)) ∙ past in (let w : ⊥ = cc in w))
    by (Some p) is true below = omega (arith, below, nodes-next ps n p is)
    by (Some p) is false below = omega (arith, below, nodes-next ps n p is)

  pub counted-none : (marks : List ℕ) (visited count : ℕ) → ((j : ℕ) → is_marked marks j ≡ false) → count ≡ min visited (2 ^ 64 - 1) → IsCounted ps visited marks count
  counted-none marks visited count none is = let no = marked-none marks (length ps) none in omega (arith, no, is)

  -- ---- where those are marked that a moment wakes

  pub marked-visits : (worlds : ℕ → World) (k : ℕ) (marks : List ℕ) (n : ℕ) → ((j : ℕ) (p : Placed) → j < n → slice_get ps j ≡ Some p → is_marked marks j ≡ woken (worlds j) p.tree k)
      → marked_nodes ps marks n ≡ visits_below ps worlds k n
  unfolding marked_nodes visits_below
  marked-visits worlds k marks zero same = refl
  marked-visits worlds k marks (suc n) same =
      ap (λ m. m + nodes_marked ps marks n) (marked-visits worlds k marks n (λ j p lt. same j p (omega arith)))
      ∙ ap (λ m. visits_below ps worlds k n + m) (by (slice_get ps n) (λ p is. same n p (omega arith) is)) where
        by : (found : Option Placed) → ((p : Placed) → found ≡ Some p → is_marked marks n ≡ woken (worlds n) p.tree k)
            → option_map_or (λ (p : Placed). cond (is_marked marks n) (nodes p.tree) 0) found 0 ≡ option_map_or (λ (p : Placed). cond (woken (worlds n) p.tree k) (nodes p.tree) 0) found 0
        by None is = refl
        by (Some p) is = ap (λ on. cond on (nodes p.tree) 0) (is p refl)

  pub counted-visits : (worlds : ℕ → World) (k : ℕ) (marks : List ℕ) (visited count : ℕ) → ((j : ℕ) (p : Placed) → slice_get ps j ≡ Some p → is_marked marks j ≡ woken (worlds j) p.tree k)
      → IsCounted ps visited marks count → count ≡ min (visited + visits_below ps worlds k (length ps)) (2 ^ 64 - 1)
  counted-visits worlds k marks visited count same counted =
      counted ∙ ap (λ n. min (visited + n) (2 ^ 64 - 1)) (marked-visits worlds k marks (length ps) (λ j p lt is. same j p is))
