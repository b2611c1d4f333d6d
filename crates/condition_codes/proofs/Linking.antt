-- What is read of the codes of a book by a condition's number, or by a node that asks.
use Rattle.std.proofs.Common.{◌≡◌, ℕ, suc, ◌+◌, ◌-◌, ◌<◌, ◌≤◌, List, length, take, drop, slice_get, slice_index, slice_index_or, Some, false, refl, sym, ap, ◌∙◌, inl, inr, arith}
use Rattle.std.proofs.lemmas.List.{length-map, get_or_default}
use Rattle.std.proofs.lemmas.List.FromFn.{get_or-map-range_with_len}
use Rattle.std.proofs.lemmas.Option.{slice_get_within, slice_get_cases}
use Rattle.ecam_spec.specs.Book.{Book}
use Rattle.ecam_spec.specs.TermSize.{Placed}
use Rattle.ecam_spec.specs.declared.limits.TheConstants.{TERM_NODES}
use Rattle.book_model.specs.Conditions.{places}
use Rattle.term_eval.specs.Asked.{asked}
use Rattle.term_eval.specs.Climb.{step_at, link_at}
use Rattle.term_eval.specs.Code.{code}
use Rattle.term_eval.specs.Links.{link_from}
use Rattle.term_eval.specs.declared.code.Step.{Step}
use Rattle.term_eval.specs.declared.code.Node.TheVariants.{Const}
use Rattle.term_eval.proofs.Codes.{length-asked}
use Rattle.condition_codes.specs.declared.askers.Asker.{Asker}
use Rattle.condition_codes.specs.declared.codes.CodeTable.{CodeTable}
use Rattle.condition_codes.specs.declared.starts.Starts.{Starts}
use Rattle.condition_codes.specs.IsAskers.{IsAsking}
use Rattle.condition_codes.specs.IsCodes.{IsCodes, node_starts, owner_starts, slot_starts}
use Rattle.condition_codes.specs.Pieces.{AreCodes, links_of}
use Rattle.condition_codes.specs.Places.{nodes_before}
use Rattle.condition_codes.proofs.Flat.{piece-at, piece-long}
use Rattle.condition_codes.proofs.Places.{nodes-next}
use Rattle.condition_codes.proofs.Starting.{read-at}

-- what stands behind the last step
abbrev no_step : Step
no_step = record { node = Const false; up = 0 }

-- a condition has few nodes
pub few-nodes : (ps : List Placed) (starts : List ℕ) (steps : List Step) → AreCodes ps starts steps → (j : ℕ) → suc j < length starts
    → slice_index starts (suc j) - slice_index starts j ≤ TERM_NODES
few-nodes ps starts steps codes j less =
    let inside : j < length ps = omega (arith, less, codes.pieces.count) in
    elim (slice_get_cases ps j).1 [
      | inl place ↦
          omega (
            arith,
            codes.nodes j (omega (arith, inside)),
            codes.nodes (suc j) (omega (arith, inside)),
            nodes-next ps j place.0 place.2,
            (codes.codes j place.0 place.2).small,
          )
      | inr past ↦ absurd (omega (arith, past.0, inside))
    ]

module _ (b : Book) (c : CodeTable) (coded : IsCodes b c) where
  abbrev starts : List ℕ
  starts = node_starts c.starts.items.items

  -- there is a record for each condition, and one behind the last
  pub many-starts : length c.starts.items.items ≡ suc (length (places b))
  many-starts = sym (length-map c.starts.items.items (λ (s : Starts). s.node)) ∙ coded.codes.pieces.count

  -- what is read of the record of a condition, or of the one behind the last
  module _ (j : ℕ) (s : Starts) (le : j ≤ length (places b)) (is : s ≡ slice_index_or c.starts.items.items j s) where
    pub node-read : s.node ≡ slice_index starts j
    node-read = read-at (λ (x : Starts). x.node) refl c.starts.items.items j s (omega (arith, many-starts)) is

    pub owner-read : s.owner ≡ slice_index (owner_starts c.starts.items.items) j
    owner-read = read-at (λ (x : Starts). x.owner) refl c.starts.items.items j s (omega (arith, many-starts)) is

    pub slot-read : s.slot ≡ slice_index (slot_starts c.starts.items.items) j
    slot-read = read-at (λ (x : Starts). x.slot) refl c.starts.items.items j s (omega (arith, many-starts)) is

    pub start-read : s.node ≡ nodes_before (places b) j
    start-read = node-read ∙ coded.codes.nodes j le

  -- step i of its code
  pub step-at : (j i : ℕ) (p : Placed) → slice_get (places b) j ≡ Some p → slice_index starts j + i < slice_index starts (suc j)
      → step_at c.steps.items.items (slice_index starts j + i) ≡ step_at (code p.at 0 p.tree) i
  step-at j i p is less = sym (piece-at starts c.steps.items.items j i no_step less) ∙ ap (λ l. step_at l i) (coded.codes.codes j p is).is

  -- and its link
  pub link-is : (j i : ℕ) (p : Placed) → slice_get (places b) j ≡ Some p → slice_index starts j + i < slice_index starts (suc j)
      → link_at c.links.items.items (slice_index starts j + i) ≡ link_from (code p.at 0 p.tree) i
  link-is j i p is less =
      let steps = code p.at 0 p.tree in
      let many : length steps ≡ slice_index starts (suc j) - slice_index starts j =
      ap length (sym (coded.codes.codes j p is).is) ∙ piece-long (length (places b)) starts c.steps.items.items coded.codes.pieces j (slice_get_within (places b) j p is) in
      sym (piece-at starts c.links.items.items j i _ less) ∙ ap (λ l. link_at l i) (coded.links.each j p is)
      ∙ get_or-map-range_with_len (link_from steps) 0 (length steps) i i _ (omega (arith, many)) (omega arith)

  pub many-links : length c.links.items.items ≡ length c.steps.items.items
  many-links = sym coded.links.pieces.ends ∙ coded.codes.pieces.ends

  module _ (o : ℕ) (a : Asker) (asks : IsAsking b o a) where
    inside : a.term < length (places b)
    inside = slice_get_within (places b) a.term asks.place asks.there

    -- where the code of its condition starts, and where it ends
    pub starts-at : slice_index starts a.term ≡ a.first
    starts-at = coded.codes.nodes a.term (omega (arith, inside)) ∙ sym asks.first

    pub ends-at : slice_index starts (suc a.term) ≡ a.first + a.size
    ends-at = omega (arith, coded.codes.nodes (suc a.term) (omega (arith, inside)), nodes-next (places b) a.term asks.place asks.there, asks.first, asks.size)

    -- the code is there, and so are its links
    pub within-steps : a.first + a.size ≤ length c.steps.items.items
    within-steps = omega (arith, ends-at, coded.codes.pieces.within (suc a.term) inside)

    pub within-links : a.first + a.size ≤ length c.links.items.items
    within-links = omega (arith, within-steps, many-links)

    -- the node is one of it
    pub within-code : a.node < a.size
    within-code = omega (arith, slice_get_within (asked asks.place.tree) a.node (Some asks.operand) asks.asks, length-asked asks.place.tree, asks.size)

    -- the step that is read for it is its own
    pub own-step : (p : Placed) → slice_get (places b) a.term ≡ Some p → (n : ℕ) (s : Step) → n ≡ a.node → s ≡ slice_index_or c.steps.items.items (a.first + n) s
        → s ≡ step_at (code p.at 0 p.tree) a.node
    own-step p is n s same read =
        read ∙ ap (λ k. slice_index_or c.steps.items.items (a.first + k) s) same
        ∙ get_or_default c.steps.items.items (a.first + a.node) s no_step (omega (arith, within-steps, within-code))
        ∙ ap (λ k. step_at c.steps.items.items (k + a.node)) (sym starts-at) ∙ step-at a.term a.node p is (omega (arith, starts-at, ends-at, within-code))

    -- and so are the links
    pub own-links : (p : Placed) → slice_get (places b) a.term ≡ Some p → take (a.first + a.size - a.first) (drop a.first c.links.items.items) ≡ links_of p
    own-links p is = rw (← ends-at, ← starts-at) (coded.links.each a.term p is)
