-- The nodes of conditions are listed, one behind another.
use Rattle.std.proofs.Common.{◌≡◌, ℕ, zero, suc, ◌+◌, ◌-◌, ◌*◌, ◌<◌, ◌≤◌, List, [], ◌∷◌, ◌++◌, length, slice_get, slice_index, Some, sym, ap, ◌∙◌, inl, inr, arith}
use Rattle.std.proofs.lemmas.Bool.{cases_eq, cases_lt}
use Rattle.ecam_spec.specs.declared.limits.TheConstants.{TERM_NODES}
use Rattle.term_eval.specs.declared.code.Step.{Step}
use Rattle.term_eval.specs.declared.link.Link.{Link}
use Rattle.condition_codes.specs.declared.askers.Asker.{Asker}
use Rattle.condition_codes.specs.Chains.{asker_at, AreNodes}
use Rattle.condition_codes.proofs.Behind.{has-old, has-new, longer}

-- node i of condition j, by where its code starts and ends
abbrev pub node_of : List Step → List Link → List ℕ → ℕ → ℕ → Asker
node_of steps links starts j i = asker_at steps links (slice_index starts j) (slice_index starts (suc j) - slice_index starts j) j i

-- each stands where its condition starts, so far as they are listed
abbrev pub AreNumbered : List ℕ → List Step → List Link → List Asker → Type 0
AreNumbered starts steps links nodes = (j i : ℕ) → suc j < length starts → slice_index starts j + i < slice_index starts (suc j) → slice_index starts j + i < length nodes
    → slice_get nodes (slice_index starts j + i) ≡ Some (node_of steps links starts j i)

-- each starts where the one before it ends, or behind that
abbrev pub AreOrdered : List ℕ → Type 0
AreOrdered starts = (j : ℕ) → suc j < length starts → slice_index starts j ≤ slice_index starts (suc j)

pub starts-grow : (starts : List ℕ) → AreOrdered starts → (i j : ℕ) → i ≤ j → j < length starts → slice_index starts i ≤ slice_index starts j
starts-grow starts ordered i zero le lt = let e : i ≡ 0 = omega arith in omega (arith, ap (slice_index starts) e)
starts-grow starts ordered i (suc j) le lt = elim (cases_lt i (suc j)) [
  | inl less ↦ omega (arith, starts-grow starts ordered i j (omega arith) (omega arith), ordered j lt)
  | inr after ↦ let e : i ≡ suc j = omega arith in omega (arith, ap (slice_index starts) e)
]

-- those before a condition are few where each has few
pub starts-few : (starts : List ℕ) → slice_index starts 0 ≡ 0 → ((j : ℕ) → suc j < length starts → slice_index starts (suc j) - slice_index starts j ≤ TERM_NODES) → (j : ℕ) → j < length starts
    → slice_index starts j ≤ TERM_NODES * j
starts-few starts first small zero lt = omega (arith, first)
starts-few starts first small (suc j) lt = omega (arith, starts-few starts first small j (omega arith), small j lt)

module _ (starts : List ℕ) (ordered : AreOrdered starts) (steps : List Step) (links : List Link) (nodes : List Asker) (term node : ℕ) where
  -- one node more
  pub numbered-next : AreNumbered starts steps links nodes → length nodes ≡ slice_index starts term + node → suc term < length starts
      → slice_index starts term + node < slice_index starts (suc term) → AreNumbered starts steps links (nodes ++ node_of steps links starts term node ∷ [])
  numbered-next old many inside less j i within own lt =
      let x = node_of steps links starts term node in
      elim (cases_lt (slice_index starts j + i) (length nodes)) [
        | inl before ↦ has-old nodes x (slice_index starts j + i) (node_of steps links starts j i) (old j i within own before)
        | inr after ↦
            let here : length nodes ≡ slice_index starts j + i = omega (arith, longer nodes x) in
            elim (cases_eq term j) [
              | inl e ↦
                  let at : slice_index starts term ≡ slice_index starts j = ap (slice_index starts) e in
                  let f : node ≡ i = omega (arith, here, many, at) in
                  ap (slice_get (nodes ++ x ∷ [])) (sym here) ∙ has-new nodes x ∙ ap (λ (t : ℕ). Some (node_of steps links starts t node)) e
                  ∙ ap (λ (k : ℕ). Some (node_of steps links starts j k)) f
              | inr ne ↦ elim (cases_lt j term) [
                | inl low ↦ absurd (omega (arith, here, many, own, starts-grow starts ordered (suc j) term (omega arith) (omega arith)))
                | inr high ↦ absurd (omega (arith, here, many, less, starts-grow starts ordered (suc term) j (omega arith) (omega arith)))
              ]
            ]
      ]

-- all are listed
pub numbered-all : (starts : List ℕ) → AreOrdered starts → (steps : List Step) (links : List Link) (nodes : List Asker) (n : ℕ) → length starts ≡ suc n → length nodes ≡ slice_index starts n
    → AreNumbered starts steps links nodes → AreNodes starts steps links nodes
numbered-all starts ordered steps links nodes n count many numbered = λ j i within own.
    numbered j i within own (omega (arith, many, own, starts-grow starts ordered (suc j) n (omega (arith, count)) (omega (arith, count))))
