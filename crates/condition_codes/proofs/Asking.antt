-- The lists that are made of the codes of a book have each node that asks for an operand, and no other.
use Rattle.std.proofs.Common.{◌≡◌, ℕ, suc, ◌+◌, ◌<◌, List, map, length, slice_get, slice_index, Option, Some, None, refl, sym, ap, subst, ◌∙◌, inl, inr, arith}
use Rattle.std.specs.Option.{option_map}
use Rattle.std.proofs.lemmas.List.{length-map}
use Rattle.std.proofs.lemmas.Option.{same_Some, slice_get_within, slice_get_cases, slice_get-map}
use Rattle.ecam_spec.specs.Book.{Book, Tree}
use Rattle.ecam_spec.specs.TermSize.{Placed}
use Rattle.book_model.specs.Conditions.{places}
use Rattle.book_model.specs.Sealed.{the_book}
use Rattle.book_model.specs.declared.draft.Draft.{Draft}
use Rattle.book_model.proofs.BookLists.{many-parameters, many-alerts}
use Rattle.term_eval.specs.Asked.{asked, node_asks, Asks}
use Rattle.term_eval.specs.Code.{code}
use Rattle.term_eval.specs.Reading.{test_of}
use Rattle.term_eval.specs.Woken.{Operand}
use Rattle.term_eval.specs.declared.code.Step.{Step}
use Rattle.watch_lists.specs.declared.number.Sizes.{Sizes}
use Rattle.watch_lists.specs.Naming.{operand_count, operand_number}
use Rattle.watch_lists.proofs.Lines.{sizes-are}
use Rattle.condition_codes.specs.declared.codes.CodeTable.{CodeTable}
use Rattle.condition_codes.specs.declared.askers.Asker.{Asker}
use Rattle.condition_codes.specs.declared.askers.AskerTable.{AskerTable}
use Rattle.condition_codes.specs.Flat.{piece}
use Rattle.condition_codes.specs.Chains.{wanted, Wants, AreAskers, AreNodes}
use Rattle.condition_codes.specs.IsCodes.{IsCodes, node_starts}
use Rattle.condition_codes.specs.IsAskers.{IsAskers, IsAsking, sizes_in}
use Rattle.condition_codes.specs.Places.{nodes_before}
use Rattle.condition_codes.proofs.Flat.{piece-get, piece-within, piece-has, InPiece, in-piece}
use Rattle.condition_codes.proofs.Linking.{step-at, link-is}
use Rattle.condition_codes.proofs.Numbering.{node_of}
use Rattle.condition_codes.proofs.Places.{nodes-next}

-- the sizes that are read are the book's
pub sizes-read : (d : Draft) (p a : ℕ) → p ≡ length d.params.items → a ≡ length d.alerts.items → (let n : Sizes = record { params = p; alerts = a } in n) ≡ sizes_in (the_book d)
sizes-read d p a params alerts =
    sizes-are d p a params alerts ∙ sym (sizes-are d (length (the_book d).parameters) (length (the_book d).alerts) (many-parameters d) (many-alerts d))

module _ (b : Book) (c : CodeTable) (coded : IsCodes b c) (asks : (t : Tree) (at up : ℕ) → map (λ (s : Step). node_asks s.node) (code at up t) ≡ asked t) where
  abbrev steps : List Step
  steps = c.steps.items.items

  abbrev starts : List ℕ
  starts = node_starts c.starts.items.items

  abbrev own : ℕ → List Step
  own j = piece starts steps j

  abbrev ws : List (Option ℕ)
  ws = map (wanted (sizes_in b)) steps

  -- the steps of a condition ask for what it asks for
  told : (j i : ℕ) (p : Placed) → slice_get (places b) j ≡ Some p → option_map (λ (s : Step). node_asks s.node) (slice_get (own j) i) ≡ slice_get (asked p.tree) i
  told j i p is =
      let all : map (λ (s : Step). node_asks s.node) (own j) ≡ asked p.tree = ap (map (λ (s : Step). node_asks s.node)) (coded.codes.codes j p is).is ∙ asks p.tree p.at 0 in
      sym (slice_get-map (λ (s : Step). node_asks s.node) (own j) i) ∙ ap (λ l. slice_get l i) all

  want : (m : ℕ) (s : Step) → slice_get steps m ≡ Some s → slice_get ws m ≡ Some (wanted (sizes_in b) s)
  want m s is = slice_get-map (wanted (sizes_in b)) steps m ∙ ap (option_map (wanted (sizes_in b))) is

  -- the step of a node that asks for an operand
  record Found (j i : ℕ) (x : Operand) : Type 0 where
    step : Step
    is : slice_get (own j) i ≡ Some step
    asks_for : node_asks step.node ≡ Some x

  find : (j i : ℕ) (p : Placed) (x : Operand) → slice_get (places b) j ≡ Some p → Asks p.tree i x → Found j i x
  find j i p x is atom = by (slice_get (own j) i) refl where
    by : (r : Option Step) → slice_get (own j) i ≡ r → Found j i x
    by None e = let no : None ≡ Some (Some x) = sym (ap (option_map (λ (s : Step). node_asks s.node)) e) ∙ told j i p is ∙ atom in absurd (let w : ⊥ = cc in w)
    by (Some s) e =
        let same : Some (node_asks s.node) ≡ Some (Some x) = sym (ap (option_map (λ (s' : Step). node_asks s'.node)) e) ∙ told j i p is ∙ atom in
        record { step = s; is = e; asks_for = cc }

  -- it wants, among all, what it asks for
  wants : (j i : ℕ) (x : Operand) → Found j i x → Wants ws (slice_index starts j + i) (operand_number (sizes_in b) x)
  wants j i x found =
      want (slice_index starts j + i) found.step (piece-get starts steps j i found.step found.is) ∙ ap (λ o. Some (option_map (operand_number (sizes_in b)) o)) found.asks_for

  -- the node that is noted of a condition
  abbrev node : ℕ → ℕ → Asker
  node = node_of steps c.links.items.items starts

  module _ (nodes : List Asker) (are : AreNodes starts steps c.links.items.items nodes) where
    -- among all nodes, one of a condition has its own number
    numbered : (j i : ℕ) → j < length (places b) → slice_index starts j + i < slice_index starts (suc j) → slice_get nodes (slice_index starts j + i) ≡ Some (node j i)
    numbered j i lt less = are j i (omega (arith, lt, coded.codes.pieces.count)) less

    module _ (o m : ℕ) (wanting : Wants ws m o) where
      -- a node of a condition asks for what it wants
      module _ (j i : ℕ) (is : slice_index starts j + i ≡ m) (less : slice_index starts j + i < slice_index starts (suc j)) where
        by-operand : (p : Placed) (s : Step) (x : Option Operand) → slice_get (places b) j ≡ Some p → slice_get (own j) i ≡ Some s → node_asks s.node ≡ x
            → option_map (operand_number (sizes_in b)) x ≡ Some o → IsAsking b o (node j i)
        by-operand p s None place step none number = absurd (let w : ⊥ = cc in w)
        by-operand p s (Some x) place step some number =
            let inside : j < length (places b) = slice_get_within (places b) j p place in
            let start : slice_index starts j ≡ nodes_before (places b) j = coded.codes.nodes j (omega (arith, inside)) in
            record {
              place = p;
              operand = x;
              there = place;
              asks = sym (told j i p place) ∙ ap (option_map (λ (t : Step). node_asks t.node)) step ∙ ap Some some;
              number = same_Some (operand_number (sizes_in b) x) o number;
              first = start;
              link = link-is b c coded j i p place less;
              size = omega (arith, start, coded.codes.nodes (suc j) (omega (arith, inside)), nodes-next (places b) j p place);
              test = ap (λ (t : Step). test_of t.node) (step-at b c coded j i p place less);
            }

        by-step : (p : Placed) (s : Step) → slice_get (places b) j ≡ Some p → slice_get steps m ≡ Some s → IsAsking b o (node j i)
        by-step p s place step =
            by-operand p s (node_asks s.node) place (piece-has starts steps j i s less (ap (slice_get steps) is ∙ step)) refl
            (same_Some (wanted (sizes_in b) s) (Some o) (sym (want m s step) ∙ wanting))

      -- each node is one of a condition
      in-steps : m < length steps
      in-steps = omega (arith, slice_get_within ws m (Some o) wanting, length-map steps (wanted (sizes_in b)))

      here : InPiece (length (places b)) starts m
      here = in-piece starts coded.codes.pieces.first (length (places b)) m (omega (arith, in-steps, coded.codes.pieces.ends))

      known : IsAsking b o (node here.number here.within)
      known = elim (slice_get_cases (places b) here.number).1 [
        | inl place ↦ elim (slice_get_cases steps m).1 [
          | inl step ↦ by-step here.number here.within here.is here.high place.0 step.0 place.2 step.2
          | inr past ↦ absurd (omega (arith, past.0, in-steps))
        ]
        | inr past ↦ absurd (omega (arith, past.0, here.low))
      ]

      asking : (a : Asker) → slice_get nodes m ≡ Some a → IsAsking b o a
      asking a there =
          let x = node here.number here.within in
          let same : x ≡ a = same_Some x a (sym (numbered here.number here.within here.low here.high) ∙ ap (slice_get nodes) here.is ∙ there) in
          subst (IsAsking b o) same known

    pub askers-of : (a : AskerTable) → AreAskers ws nodes (operand_count (sizes_in b)) a.starts.items.items a.askers.items.items → IsAskers b a
    askers-of a lists = record {
      pieces = lists.pieces;
      each = λ o j i p x lt is atom number.
          let found = find j i p x is atom in
          let m = slice_index starts j + i in
          let own = numbered j i (slice_get_within (places b) j p is) (piece-within starts steps j i found.step found.is) in
          let listed = (lists.lists o lt).each m (node j i) (subst (Wants ws m) number (wants j i x found)) own in
          (listed.0, node j i, listed.1, refl, refl);
      only = λ o k x lt is. let found = (lists.lists o lt).only k x is in asking o found.0 found.1 x found.2;
    }
