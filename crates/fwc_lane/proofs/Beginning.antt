-- How a moment begins: the conditions that are due are marked, and those that name what came with it and is another.
use Rattle.std.proofs.Common.{◌≡◌, ◌≢◌, ℕ, suc, ◌+◌, ◌-◌, ◌^◌, ◌<◌, ◌≤◌, ◌⊎◌, Bool, true, false, not, ◌&&◌, ◌||◌, eqb, leb, ltb, List, length, get_or, slice_index, ℤ, Option, None, Some, slice_get, if◌then◌else◌, refl, sym, ap, subst, ◌∙◌, inl, inr, arith}
use Rattle.std.specs.List.{list_any}
use Rattle.std.specs.Option.{option_eq}
use Rattle.std.specs.Ordering.{int_eq}
use Rattle.std.proofs.lemmas.Bool.{cases_eq, cases_lt, eqb-true, eq-eqb, ne_eqb, le-leb, lt-leb, lt-ltb, le-ltb}
use Rattle.std.proofs.lemmas.Option.{slice_get_within}
use Rattle.ecam_spec.specs.Keys.{key_number, pressed}
use Rattle.ecam_spec.specs.Book.{Book}
use Rattle.ecam_spec.specs.Term.{World}
use Rattle.ecam_spec.specs.TermSize.{Placed, slots}
use Rattle.ecam_spec.specs.History.{Moment}
use Rattle.ecam_spec.specs.Past.{Signal}
use Rattle.ecam_spec.specs.Situation.{value_in, strokes_in, computer_up, world_where}
use Rattle.ecam_kinds.specs.KeyState.{is_pressed}
use Rattle.ecam_kinds.specs.declared.keys.Keys.{Keys}
use Rattle.book_model.specs.declared.draft.Draft.{Draft}
use Rattle.book_model.specs.Sealed.{the_book, IsSealed}
use Rattle.book_model.specs.Conditions.{places, world_of}
use Rattle.param_table.specs.Asked.{is_asked_for}
use Rattle.param_table.specs.declared.table.Params.{Params}
use Rattle.term_eval.specs.Asked.{heard}
use Rattle.term_eval.specs.CellState.{Stand}
use Rattle.term_eval.specs.Memory.{Memory, NodeMemory}
use Rattle.term_eval.specs.NodeState.{NodesStand, first_wake}
use Rattle.term_eval.specs.Due.{staying, IsDue}
use Rattle.term_eval.specs.Reading.{Reads}
use Rattle.term_eval.specs.declared.reading.Reading.{Reading}
use Rattle.term_eval.specs.declared.reading.Reading.TheVariants.{Value, Flag}
use Rattle.term_eval.specs.Woken.{Operand, operands, differ, moved}
use Rattle.term_eval.specs.Woken.Operand.{value, phase, activity, key, health}
use Rattle.watch_lists.specs.Naming.{operand_number}
use Rattle.wakes.specs.Marks.{is_marked}
use Rattle.condition_codes.specs.Places.{nodes_before}
use Rattle.fwc_lane.specs.declared.terms.Terms.{Terms}
use Rattle.fwc_lane.specs.TermsFit.{TermsFit}
use Rattle.fwc_lane.specs.Given.{Came}
use Rattle.fwc_lane.specs.Visits.{IsCounted}
use Rattle.fwc_lane.specs.Waking.{sizes_in, ranged, value_turned, key_turned, key_read, HasWoken}
use Rattle.fwc_lane.specs.Conditions.{TermsStand, IsUnstirred, IsWaiting, HalfStepped, known_world, BookHalf}
use Rattle.fwc_lane.proofs.KeyNumbers.{not-eight, few-keys}
use Rattle.std.proofs.Math.Bool.{and-false, and-true, or-false}
use Rattle.fwc_lane.proofs.Ranges.{ranged-in, ranged-above, ranged-below, ranged-within}
use Rattle.fwc_lane.proofs.Askers.{one-of}
use Rattle.fwc_lane.proofs.Hears.{waits-by, heard-none}
use Rattle.fwc_lane.proofs.Listing.{right-true}
use Rattle.fwc_lane.proofs.NodeFrames.{stands-told}
use Rattle.fwc_lane.proofs.Awake.{awake-then}
use Rattle.fwc_lane.proofs.Worlds.{each-world}
use Rattle.fwc_lane.proofs.Hitting.{any-none}
use Rattle.fwc_lane.proofs.NamedOperands.{IsBookOperand}
use Rattle.fwc_lane.proofs.MoreKnown.{half-more}

-- ---- what is due

-- a due moment has come where it is this one
due-now : (w : World) (p : Placed) (h due : ℕ) → suc h < 2 ^ 63 → IsDue (staying w h) p.tree h due → leb due (suc h) ≡ eqb due (suc h)
due-now w p h due small is = elim (cases_eq due (suc h)) [
  | inl e ↦ le-leb due (suc h) (omega (arith, e)) ∙ sym (eq-eqb due (suc h) e)
  | inr ne ↦ elim is.comes [
    | inl never ↦ lt-leb due (suc h) (omega (arith, small, never)) ∙ sym (ne_eqb due (suc h) ne)
    | inr (later, early, turns) ↦ lt-leb due (suc h) (omega (arith, later, ne)) ∙ sym (ne_eqb due (suc h) ne)
  ]
]

-- no operand is looked at yet
abbrev pub none-hit : Operand → Bool
none-hit x = false

none-any : (xs : List Operand) → list_any none-hit xs ≡ false
none-any xs = any-none none-hit (λ x. refl) xs

module _ (b : Book) (m : ℕ → Moment) (k : ℕ) (small : k < 2 ^ 63) (old : Terms) (marks stirs dues : List ℕ) (cells : Memory) (fits : TermsFit b old) (stands : TermsStand b m k old)
    (first : k ≡ 0 → (j : ℕ) → j < length old.truths.items → is_marked marks j ≡ true)
    (marked : (h : ℕ) → k ≡ suc h → (j : ℕ) → j < length old.truths.items → is_marked marks j ≡ leb (slice_index old.dues j) k)
    (same : (j : ℕ) → j < length old.truths.items → is_marked stirs j ≡ is_marked marks j)
    (kept : (j : ℕ) → j < length old.truths.items → is_marked marks j ≡ false → slice_index dues j ≡ slice_index old.dues j)
    (kept_slots : cells.slots ≡ old.cells.slots) (kept_nodes : cells.nodes ≡ old.cells.nodes) (counted : IsCounted (places b) old.cells.visits marks cells.visits) where
  abbrev begun : Terms
  begun = record old { woken = marks; stirred = stirs; dues = dues; cells = cells }

  -- what is kept of its nodes stands as it stood
  still : (h : ℕ) → k ≡ suc h → (j : ℕ) (p : Placed) → slice_get (places b) j ≡ Some p → NodesStand (world_of b m j) h p.tree p.at (nodes_before (places b) j) cells.nodes
  still h e j p is = subst (NodesStand (world_of b m j) h p.tree p.at (nodes_before (places b) j)) (sym kept_nodes) (stands.nodes h e j p is)

  -- one that isn't stirred is due later
  unstirred : (h : ℕ) → k ≡ suc h → (j : ℕ) (p : Placed) → slice_get (places b) j ≡ Some p → is_marked marks j ≡ false → j < length old.truths.items
      → IsUnstirred (world_of b m j) h (slice_index old.dues j) (nodes_before (places b) j) p begun
  unstirred h e j p is off inside = record {
    later = later (sym (marked h e j inside) ∙ off);
    wakes = ap (λ (n : NodeMemory). first_wake n.wakes p.at (slots p.tree)) kept_nodes ∙ sym (stands.wakes h e j p is);
    told = stands-told (world_of b m j) h p.tree p.at (nodes_before (places b) j) cells.nodes (still h e j p is);
  } where
    later : leb (slice_index old.dues j) k ≡ false → suc h < slice_index old.dues j
    later not-yet = elim (cases_lt k (slice_index old.dues j)) [
      | inl lt ↦ omega (arith, lt, e)
      | inr le ↦ absurd (let w : ⊥ = (let clash : true ≡ false = sym (le-leb (slice_index old.dues j) k le) ∙ not-yet in cc) in w)
    ]

  waiting : (h : ℕ) → k ≡ suc h → (j : ℕ) (p : Placed) → slice_get (places b) j ≡ Some p → j < length old.truths.items
      → IsWaiting (world_of b m j) none-hit h j (nodes_before (places b) j) p begun
  waiting h e j p is inside = record {
    due = slice_index old.dues j;
    told = stands.told h e j p is;
    next = stands.next h e j p is;
    marks =
        marked h e j inside
        ∙ ap (leb (slice_index old.dues j)) e
        ∙ due-now (world_of b m j) p h (slice_index old.dues j) (omega (arith, small, e)) (stands.next h e j p is)
        ∙ sym (ap (λ x. x || eqb (slice_index old.dues j) (suc h)) (none-any (operands p.tree)));
    nodes = waits-by (world_of b m j) h (λ i. false) (heard none-hit p.tree) p.tree p.at (nodes_before (places b) j) cells.nodes (heard-none none-hit p.tree (none-any (operands p.tree)))
        (still h e j p is);
    kept = λ off. kept j inside (sym (same j inside) ∙ off);
    calm = λ off. unstirred h e j p is (sym (same j inside) ∙ off) inside;
  }

  pub half-due : HalfStepped (places b) (world_of b m) none-hit k 0 old.cells.visits begun
  half-due = record {
    stepped = λ j p lt is. absurd (omega arith);
    marks = λ j p lt is. absurd (omega arith);
    left = λ j p le is.
        let within : j < length (places b) = slice_get_within (places b) j p is in
        let inside : j < length old.truths.items = omega (arith, within, fits.truths) in (record {
          short = (fits.codes.codes.codes j p is).short;
          stands = subst (Stand (world_of b m j) k p.tree p.at) (sym kept_slots) (stands.cells j p is);
          first = λ e. first e j inside;
          stirs = λ e. same j inside ∙ first e j inside;
          later = λ h e. waiting h e j p is inside;
        });
    counted = counted;
  }

-- ---- what came and is another

module _ (b : Book) where
  abbrev keys_from : ℕ
  keys_from = length b.parameters + length b.alerts + 1

  -- the operands that are seen to be others, by number
  abbrev pub given : (ℕ → Bool) → (ℕ → Bool) → Bool → Bool → ℕ → Bool
  given values keys one two o =
      (ranged 0 (length b.parameters) values o || ranged keys_from 25 keys o)
      || ((one && eqb o (length b.parameters + length b.alerts + 26)) || (two && eqb o (length b.parameters + length b.alerts + 27)))

  off-one : (one two : Bool) (o : ℕ) → o ≢ length b.parameters + length b.alerts + 26 → o ≢ length b.parameters + length b.alerts + 27
      → ((one && eqb o (length b.parameters + length b.alerts + 26)) || (two && eqb o (length b.parameters + length b.alerts + 27))) ≡ false
  off-one one two o ne ne' =
      ap (λ x. (one && x) || (two && eqb o (length b.parameters + length b.alerts + 27))) (ne_eqb o (length b.parameters + length b.alerts + 26) ne)
      ∙ ap (λ x. x || (two && eqb o (length b.parameters + length b.alerts + 27))) (and-false one)
      ∙ ap (λ x. two && x) (ne_eqb o (length b.parameters + length b.alerts + 27) ne') ∙ and-false two

  given-value : (values keys : ℕ → Bool) (one two : Bool) (p : ℕ) → p < length b.parameters → given values keys one two p ≡ values p
  given-value values keys one two p lt =
      ap (λ x. (ranged 0 (length b.parameters) values p || ranged keys_from 25 keys p) || x) (off-one one two p (λ e. absurd (omega (arith, lt, e))) (λ e. absurd (omega (arith, lt, e))))
      ∙ or-false (ranged 0 (length b.parameters) values p || ranged keys_from 25 keys p)
      ∙ ap (λ x. ranged 0 (length b.parameters) values p || x) (ranged-below keys_from 25 keys p (omega arith))
      ∙ or-false (ranged 0 (length b.parameters) values p)
      ∙ ranged-in 0 (length b.parameters) values p (omega arith) (omega arith)
      ∙ ap values (let z : p - 0 ≡ p = omega arith in z)

  given-key : (values keys : ℕ → Bool) (one two : Bool) (i : ℕ) → i < 25 → given values keys one two (keys_from + i) ≡ keys i
  given-key values keys one two i lt =
      ap (λ x. (ranged 0 (length b.parameters) values (keys_from + i) || ranged keys_from 25 keys (keys_from + i)) || x)
      (off-one one two (keys_from + i) (λ e. absurd (omega (arith, lt, e))) (λ e. absurd (omega (arith, lt, e))))
      ∙ or-false (ranged 0 (length b.parameters) values (keys_from + i) || ranged keys_from 25 keys (keys_from + i))
      ∙ ap (λ x. x || ranged keys_from 25 keys (keys_from + i)) (ranged-above 0 (length b.parameters) values (keys_from + i) (omega arith))
      ∙ ranged-in keys_from 25 keys (keys_from + i) (omega arith) (omega arith)
      ∙ ap keys (let z : keys_from + i - keys_from ≡ i = omega arith in z)

  -- neither a value nor a key
  given-apart : (values keys : ℕ → Bool) (one two : Bool) (o : ℕ) → length b.parameters ≤ o → (o < keys_from) ⊎ (keys_from + 25 ≤ o)
      → given values keys one two o ≡ ((one && eqb o (length b.parameters + length b.alerts + 26)) || (two && eqb o (length b.parameters + length b.alerts + 27)))
  given-apart values keys one two o low apart =
      let last = (one && eqb o (length b.parameters + length b.alerts + 26)) || (two && eqb o (length b.parameters + length b.alerts + 27)) in
      ap (λ x. (x || ranged keys_from 25 keys o) || last) (ranged-above 0 (length b.parameters) values o (omega arith))
      ∙ ap (λ x. x || last) (elim apart [
        | inl below ↦ ranged-below keys_from 25 keys o below
        | inr above ↦ ranged-above keys_from 25 keys o above
      ])

  given-none : (values keys : ℕ → Bool) (one two : Bool) (o : ℕ) → length b.parameters ≤ o → o < keys_from → given values keys one two o ≡ false
  given-none values keys one two o low high =
      given-apart values keys one two o low (inl high) ∙ off-one one two o (λ e. absurd (omega (arith, high, e))) (λ e. absurd (omega (arith, high, e)))

  given-one : (values keys : ℕ → Bool) (one two : Bool) (o : ℕ) → o ≡ length b.parameters + length b.alerts + 26 → given values keys one two o ≡ one
  given-one values keys one two o e =
      given-apart values keys one two o (omega (arith, e)) (inr (omega (arith, e)))
      ∙ ap (λ x. (one && x) || (two && eqb o (length b.parameters + length b.alerts + 27))) (eq-eqb o (length b.parameters + length b.alerts + 26) e)
      ∙ ap (λ x. (one && true) || (two && x)) (ne_eqb o (length b.parameters + length b.alerts + 27) (λ f. absurd (omega (arith, e, f))))
      ∙ ap (λ x. (one && true) || x) (and-false two) ∙ or-false (one && true) ∙ and-true one

  given-two : (values keys : ℕ → Bool) (one two : Bool) (o : ℕ) → o ≡ length b.parameters + length b.alerts + 27 → given values keys one two o ≡ two
  given-two values keys one two o e =
      given-apart values keys one two o (omega (arith, e)) (inr (omega (arith, e)))
      ∙ ap (λ x. (one && x) || (two && eqb o (length b.parameters + length b.alerts + 27))) (ne_eqb o (length b.parameters + length b.alerts + 26) (λ f. absurd (omega (arith, e, f))))
      ∙ ap (λ x. x || (two && eqb o (length b.parameters + length b.alerts + 27))) (and-false one)
      ∙ ap (λ x. two && x) (eq-eqb o (length b.parameters + length b.alerts + 27) e) ∙ and-true two

  module _ (m : ℕ → Moment) (k : ℕ) (old : Terms) (params : Params) (keys : Keys) (up1 up2 : Bool) (was now : List (Option ℤ)) (stands : TermsStand b m k old) (came : Came b m k params keys up1 up2)
      (before : (h : ℕ) → k ≡ suc h → (p : ℕ) → p < length b.parameters → is_asked_for b p ≡ true → get_or was p None ≡ value_in b m p h)
      (told : (p : ℕ) → p < length b.parameters → is_asked_for b p ≡ true → get_or now p None ≡ value_in b m p k) where
    given-is : (h : ℕ) → k ≡ suc h → (x : Operand) → IsBookOperand b x
        → moved (known_world b m 0) k x ≡ given (value_turned was now) (key_turned old.keys keys) (differ up1 old.one_up) (differ up2 old.two_up) (operand_number (sizes_in b) x)
    unfolding moved key_turned
    given-is h e (value p) at =
        let back : k - 1 ≡ h = omega (arith, e) in
        sym (given-value (value_turned was now) (key_turned old.keys keys) (differ up1 old.one_up) (differ up2 old.two_up) p at.within
        ∙ ap (λ v. not (option_eq int_eq v (get_or was p None))) (told p at.within (at.asked p refl))
        ∙ ap (λ v. not (option_eq int_eq (value_in b m p k) v)) (before h e p at.within (at.asked p refl) ∙ ap (value_in b m p) (sym back)))
    given-is h e phase at =
        sym (given-none (value_turned was now) (key_turned old.keys keys) (differ up1 old.one_up) (differ up2 old.two_up) (length b.parameters + length b.alerts) (omega arith) (omega arith))
    given-is h e (activity a) at =
        sym (given-none (value_turned was now) (key_turned old.keys keys) (differ up1 old.one_up) (differ up2 old.two_up) (length b.parameters + a) (omega arith) (omega (arith, at.within)))
    given-is h e (key x) at =
        let back : k - 1 ≡ h = omega (arith, e) in
        sym (given-key (value_turned was now) (key_turned old.keys keys) (differ up1 old.one_up) (differ up2 old.two_up) (key_number x) (few-keys x at.within)
        ∙ ap (λ c. not c && differ (is_pressed keys x) (is_pressed old.keys x)) (ne_eqb (key_number x) 8 (not-eight x at.within))
        ∙ ap (λ c. differ c (is_pressed old.keys x)) (came.strokes.pressed x at.within)
        ∙ ap (λ c. differ (pressed (strokes_in b m) x k) c) (stands.keys h e x at.within ∙ ap (pressed (strokes_in b m) x) (sym back)))
    given-is h e (health c) at = elim (cases_eq c 1) [
      | inl one ↦
          let back : k - 1 ≡ h = omega (arith, e) in
          ap (λ n. differ (computer_up b m n k) (computer_up b m n (k - 1))) one
          ∙ sym (given-one (value_turned was now) (key_turned old.keys keys) (differ up1 old.one_up) (differ up2 old.two_up) (length b.parameters + length b.alerts + 25 + c) (omega (arith, one))
          ∙ ap (λ t. differ t old.one_up) came.one_up
          ∙ ap (λ t. differ (computer_up b m 1 k) t) (stands.one_up h e ∙ ap (computer_up b m 1) (sym back)))
      | inr ne ↦
          let back : k - 1 ≡ h = omega (arith, e) in
          let two : c ≡ 2 = omega (arith, ne, at.within.0, at.within.1) in
          ap (λ n. differ (computer_up b m n k) (computer_up b m n (k - 1))) two
          ∙ sym (given-two (value_turned was now) (key_turned old.keys keys) (differ up1 old.one_up) (differ up2 old.two_up) (length b.parameters + length b.alerts + 25 + c) (omega (arith, two))
          ∙ ap (λ t. differ t old.two_up) came.two_up
          ∙ ap (λ t. differ (computer_up b m 2 k) t) (stands.two_up h e ∙ ap (computer_up b m 2) (sym back)))
    ]

  -- ---- what it reads

  -- what the operand of a number reads, by the values, the keys and the computers
  abbrev pub reads_given : List (Option ℤ) → Keys → Bool → Bool → ℕ → Reading
  reads_given now keys up1 up2 o =
      if ltb o (length b.parameters) then Value (get_or now o None) else (if ltb o (keys_from + 25) then key_read keys (o - keys_from)
      else Flag (if eqb o (length b.parameters + length b.alerts + 26) then up1 else up2))

  reads-value : (now : List (Option ℤ)) (keys : Keys) (up1 up2 : Bool) (o : ℕ) → o < length b.parameters → reads_given now keys up1 up2 o ≡ Value (get_or now o None)
  reads-value now keys up1 up2 o lt =
      ap (λ c. if c then Value (get_or now o None) else (if ltb o (keys_from + 25) then key_read keys (o - keys_from) else Flag (if eqb o (length b.parameters + length b.alerts + 26) then up1 else up2)))
      (lt-ltb o (length b.parameters) lt)

  reads-key : (now : List (Option ℤ)) (keys : Keys) (up1 up2 : Bool) (o : ℕ) → keys_from ≤ o → o < keys_from + 25 → reads_given now keys up1 up2 o ≡ key_read keys (o - keys_from)
  reads-key now keys up1 up2 o low high =
      ap (λ c. if c then Value (get_or now o None) else (if ltb o (keys_from + 25) then key_read keys (o - keys_from) else Flag (if eqb o (length b.parameters + length b.alerts + 26) then up1 else up2)))
      (le-ltb o (length b.parameters) (omega arith))
      ∙ ap (λ c. if c then key_read keys (o - keys_from) else Flag (if eqb o (length b.parameters + length b.alerts + 26) then up1 else up2)) (lt-ltb o (keys_from + 25) high)

  reads-computer : (now : List (Option ℤ)) (keys : Keys) (up1 up2 : Bool) (o : ℕ) → keys_from + 25 ≤ o
      → reads_given now keys up1 up2 o ≡ Flag (if eqb o (length b.parameters + length b.alerts + 26) then up1 else up2)
  reads-computer now keys up1 up2 o low =
      ap (λ c. if c then Value (get_or now o None) else (if ltb o (keys_from + 25) then key_read keys (o - keys_from) else Flag (if eqb o (length b.parameters + length b.alerts + 26) then up1 else up2)))
      (le-ltb o (length b.parameters) (omega arith))
      ∙ ap (λ c. if c then key_read keys (o - keys_from) else Flag (if eqb o (length b.parameters + length b.alerts + 26) then up1 else up2)) (le-ltb o (keys_from + 25) low)

  -- what wakes by the values, by the keys and by the computers, wakes by what is given
  pub awake-given : (values keys : ℕ → Bool) (one two : Bool) (now : List (Option ℤ)) (strokes : Keys) (up1 up2 : Bool) (old read told new : Terms)
      → HasWoken b (ranged 0 (length b.parameters) values) (λ o. Value (get_or now o None)) old read
      → HasWoken b (ranged keys_from 25 keys) (λ o. key_read strokes (o - keys_from)) read told
      → HasWoken b (λ o. (one && eqb o (length b.parameters + length b.alerts + 26)) || (two && eqb o (length b.parameters + length b.alerts + 27)))
      (λ o. Flag (if eqb o (length b.parameters + length b.alerts + 26) then up1 else up2)) told new
      → HasWoken b (given values keys one two) (reads_given now strokes up1 up2) old new
  awake-given values keys one two now strokes up1 up2 old read told new first second third =
      let reads = reads_given now strokes up1 up2 in
      let computers : ℕ → Bool = λ o. (one && eqb o (length b.parameters + length b.alerts + 26)) || (two && eqb o (length b.parameters + length b.alerts + 27)) in
      awake-then b (λ o. ranged 0 (length b.parameters) values o || ranged keys_from 25 keys o) computers (given values keys one two)
      reads (λ o. Flag (if eqb o (length b.parameters + length b.alerts + 26) then up1 else up2)) reads old told new (λ o. refl) (λ o on. refl)
      (λ o on. reads-computer now strokes up1 up2 o (computer-high one two o on))
      (awake-then b (ranged 0 (length b.parameters) values) (ranged keys_from 25 keys) (λ o. ranged 0 (length b.parameters) values o || ranged keys_from 25 keys o)
      (λ o. Value (get_or now o None)) (λ o. key_read strokes (o - keys_from)) reads old read told (λ o. refl)
      (λ o on. reads-value now strokes up1 up2 o (let high = (ranged-within 0 (length b.parameters) values o on).1 in omega (arith, high)))
      (λ o on. let lies = ranged-within keys_from 25 keys o on in reads-key now strokes up1 up2 o lies.0 lies.1)
      first second)
      third where
        computer-high : (one two : Bool) (o : ℕ) → ((one && eqb o (length b.parameters + length b.alerts + 26)) || (two && eqb o (length b.parameters + length b.alerts + 27))) ≡ true → keys_from + 25 ≤ o
        computer-high one two o on = elim (one-of (one && eqb o (length b.parameters + length b.alerts + 26)) (two && eqb o (length b.parameters + length b.alerts + 27)) on) [
          | inl is ↦
              let at : o ≡ length b.parameters + length b.alerts + 26 = eqb-true o (length b.parameters + length b.alerts + 26) (right-true one (eqb o (length b.parameters + length b.alerts + 26)) is) in
              omega (arith, at)
          | inr is ↦
              let at : o ≡ length b.parameters + length b.alerts + 27 = eqb-true o (length b.parameters + length b.alerts + 27) (right-true two (eqb o (length b.parameters + length b.alerts + 27)) is) in
              omega (arith, at)
        ]

  module _ (m : ℕ → Moment) (k : ℕ) (params : Params) (keys : Keys) (up1 up2 : Bool) (now : List (Option ℤ)) (came : Came b m k params keys up1 up2)
      (told : (p : ℕ) → p < length b.parameters → is_asked_for b p ≡ true → get_or now p None ≡ value_in b m p k) (values turned : ℕ → Bool) (one two : Bool) where
    -- an operand that is given reads so, whatever the phase and the alerts
    reads-so : (phases : ℕ → ℕ) (alerts : ℕ → Signal) (x : Operand) → IsBookOperand b x → given values turned one two (operand_number (sizes_in b) x) ≡ true
        → Reads (world_where b m phases alerts) k x (reads_given now keys up1 up2 (operand_number (sizes_in b) x))
    reads-so phases alerts (value p) at on = reads-value now keys up1 up2 p at.within ∙ ap Value (told p at.within (at.asked p refl))
    reads-so phases alerts phase at on =
        absurd (let w : ⊥ = (let clash : false ≡ true = sym (given-none values turned one two (length b.parameters + length b.alerts) (omega arith) (omega arith)) ∙ on in cc) in w)
    reads-so phases alerts (activity a) at on =
        absurd (let w : ⊥ = (let clash : false ≡ true = sym (given-none values turned one two (length b.parameters + a) (omega arith) (omega (arith, at.within))) ∙ on in cc) in w)
    reads-so phases alerts (key x) at on =
        reads-key now keys up1 up2 (keys_from + key_number x) (omega arith) (omega (arith, few-keys x at.within))
        ∙ ap (key_read keys) (let z : keys_from + key_number x - keys_from ≡ key_number x = omega arith in z)
        ∙ ap (λ c. Flag (not c && is_pressed keys x)) (ne_eqb (key_number x) 8 (not-eight x at.within))
        ∙ ap Flag (came.strokes.pressed x at.within)
    reads-so phases alerts (health c) at on =
        reads-computer now keys up1 up2 (length b.parameters + length b.alerts + 25 + c) (omega (arith, at.within.0)) ∙ ap Flag (elim (cases_eq c 1) [
          | inl is ↦
              ap (λ t. if t then up1 else up2) (eq-eqb (length b.parameters + length b.alerts + 25 + c) (length b.parameters + length b.alerts + 26) (omega (arith, is)))
              ∙ came.one_up ∙ ap (λ n. computer_up b m n k) (sym is)
          | inr ne ↦
              let is : 2 ≡ c = omega (arith, ne, at.within.0, at.within.1) in
              ap (λ t. if t then up1 else up2) (ne_eqb (length b.parameters + length b.alerts + 25 + c) (length b.parameters + length b.alerts + 26) (λ e. absurd (omega (arith, e, is))))
              ∙ came.two_up ∙ ap (λ n. computer_up b m n k) is
        ])

    pub reads-given : (j : ℕ) (x : Operand) → IsBookOperand b x → given values turned one two (operand_number (sizes_in b) x) ≡ true
        → Reads (world_of b m j) k x (reads_given now keys up1 up2 (operand_number (sizes_in b) x))
    reads-given j x at on =
        each-world b m (λ w. Reads w k x (reads_given now keys up1 up2 (operand_number (sizes_in b) x))) (λ phases alerts. reads-so phases alerts x at on) j

-- with what came, the moment has begun
pub begins : (d : Draft) → IsSealed d → (m : ℕ → Moment) (k visited : ℕ) (old t new : Terms) (params : Params) (keys : Keys) (up1 up2 : Bool) (was now : List (Option ℤ))
    → TermsStand (the_book d) m k old → Came (the_book d) m k params keys up1 up2
    → ((h : ℕ) → k ≡ suc h → (p : ℕ) → p < length (the_book d).parameters → is_asked_for (the_book d) p ≡ true → get_or was p None ≡ value_in (the_book d) m p h)
    → ((p : ℕ) → p < length (the_book d).parameters → is_asked_for (the_book d) p ≡ true → get_or now p None ≡ value_in (the_book d) m p k)
    → HalfStepped (places (the_book d)) (world_of (the_book d) m) none-hit k 0 visited t
    → HasWoken (the_book d) (given (the_book d) (value_turned was now) (key_turned old.keys keys) (differ up1 old.one_up) (differ up2 old.two_up)) (reads_given (the_book d) now keys up1 up2) t new
    → BookHalf (the_book d) m k 0 0 visited new
begins d sealed m k visited old t new params keys up1 up2 was now stands came before told half wakes =
    let b = the_book d in
    let hit = given b (value_turned was now) (key_turned old.keys keys) (differ up1 old.one_up) (differ up2 old.two_up) in
    half-more d sealed (world_of b m) none-hit (moved (known_world b m 0) k) hit (reads_given b now keys up1 up2) k 0 visited t new wakes
    (given-is b m k old params keys up1 up2 was now stands came before told)
    (λ h e j p le is n x asks at on. reads-given b m k params keys up1 up2 now came told (value_turned was now) (key_turned old.keys keys) (differ up1 old.one_up) (differ up2 old.two_up) j x at on)
    (λ j p lt is. absurd (omega arith))
    half

-- the first moment has begun, whatever is given: it wakes each condition
pub begins-first : (d : Draft) → IsSealed d → (m : ℕ → Moment) (k visited : ℕ) (t new : Terms) (f : ℕ → Bool) (reads : ℕ → Reading) → k ≡ 0
    → HalfStepped (places (the_book d)) (world_of (the_book d) m) none-hit k 0 visited t → HasWoken (the_book d) f reads t new → BookHalf (the_book d) m k 0 0 visited new
begins-first d sealed m k visited t new f reads first half wakes =
    let b = the_book d in
    half-more d sealed (world_of b m) none-hit (moved (known_world b m 0) k) f reads k 0 visited t new wakes
    (λ h e x at. absurd (omega (arith, first, e)))
    (λ h e j p le is n x asks at on. absurd (omega (arith, first, e)))
    (λ j p lt is. absurd (omega arith))
    half
