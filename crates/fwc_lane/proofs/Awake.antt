-- What wakes, one call after another: conditions that are woken by the numbers of operands, whose nodes that ask for them are told.
use Rattle.std.proofs.Common.{◌≡◌, ℕ, suc, ◌-◌, ◌^◌, ◌≤◌, Bool, true, false, ◌&&◌, ◌||◌, eqb, List, length, slice_get, Some, refl, sym, ap, subst, ◌∙◌, arith}
use Rattle.std.specs.List.{list_any}
use Rattle.std.proofs.Math.Bool.{or-false, or-true, or_assoc, or_comm}
use Rattle.ecam_spec.specs.Book.{Book}
use Rattle.ecam_spec.specs.TermSize.{Placed}
use Rattle.book_model.specs.Conditions.{places}
use Rattle.term_eval.specs.Asked.{Asks, heard}
use Rattle.term_eval.specs.Reading.{Reads}
use Rattle.term_eval.specs.Woken.{Operand, operands}
use Rattle.term_eval.specs.declared.reading.Reading.{Reading}
use Rattle.watch_lists.specs.Naming.{operand_number}
use Rattle.wakes.specs.Marks.{is_marked}
use Rattle.condition_codes.specs.IsAskers.{IsAsking, IsAmong}
use Rattle.condition_codes.specs.Places.{nodes_before}
use Rattle.condition_codes.specs.declared.askers.Asker.{Asker}
use Rattle.fwc_lane.specs.declared.terms.Terms.{Terms}
use Rattle.fwc_lane.specs.TermsFit.{TermsFit, AreWoken, OwnsBelow}
use Rattle.fwc_lane.specs.Waking.{sizes_in, HasWoken, CanTurn, TurnsEach, MarksEach, is_listed}
use Rattle.fwc_lane.proofs.FlagSteps.{left-false, right-false}
use Rattle.fwc_lane.proofs.Hears.{waits-by, heard-or, heard-none, asks-heard, atoms-more}
use Rattle.fwc_lane.proofs.Hitting.{any-alike, any-or, any-none, wakes-then}
use Rattle.fwc_lane.proofs.Listing.{heard-listed, asking-named}

or-around : (x y z : Bool) → ((x || y) || z) ≡ (y || (x || z))
or-around x y z = ap (λ c. c || z) (or_comm x y) ∙ or_assoc y x z

or-right : (x y : Bool) → y ≡ true → (x || y) ≡ true
or-right x y on = ap (λ c. x || c) on ∙ or-true x

module _ (b : Book) where
  -- it passes a test by its number
  abbrev passes : (ℕ → Bool) → Operand → Bool
  passes f x = f (operand_number (sizes_in b) x)

  either : (f g h : ℕ → Bool) → ((o : ℕ) → h o ≡ (f o || g o)) → (xs : List Operand) → list_any (passes h) xs ≡ (list_any (passes f) xs || list_any (passes g) xs)
  either f g h both xs = any-alike (passes h) (λ x. passes f x || passes g x) (λ x. both (operand_number (sizes_in b) x)) xs ∙ any-or (passes f) (passes g) xs

  -- ---- nothing is woken

  -- by operands that no condition names
  pub awake-unheard : (f : ℕ → Bool) (reads : ℕ → Reading) (t : Terms) → ((j : ℕ) (p : Placed) → slice_get (places b) j ≡ Some p → list_any (passes f) (operands p.tree) ≡ false)
      → HasWoken b f reads t t
  awake-unheard f reads t none = record {
    rest = refl;
    woken_room = refl;
    stirred_room = refl;
    states = refl;
    wakes = refl;
    slots = refl;
    owners = refl;
    terms = λ j p is. sym (ap (λ x. is_marked t.woken j || x) (none j p is) ∙ or-false (is_marked t.woken j));
    counts = λ visited counted. counted;
    turns = λ j p is w h asked atoms so waits.
        waits-by w h asked (λ i. heard (passes f) p.tree i || asked i) p.tree p.at (nodes_before (places b) j) t.cells.nodes
        (λ i. ap (λ x. x || asked i) (heard-none (passes f) p.tree (none j p is) i)) waits;
    calm = λ j p is off. (record { calm = off; told = refl; due = refl });
    stirs = λ woken. woken;
    same = λ j p is off. refl;
  }

  pub awake-none : (f : ℕ → Bool) (reads : ℕ → Reading) (t : Terms) → ((o : ℕ) → f o ≡ false) → HasWoken b f reads t t
  awake-none f reads t none = awake-unheard f reads t (λ j p is. any-none (passes f) (λ x. none (operand_number (sizes_in b) x)) (operands p.tree))

  pub awake-off : (operand : ℕ) (reads : ℕ → Reading) (t : Terms) (other : Bool) → other ≡ false → HasWoken b (λ o. other && eqb o operand) reads t t
  awake-off operand reads t other off = awake-none (λ o. other && eqb o operand) reads t (λ o. ap (λ c. c && eqb o operand) off)

  -- ---- first by one test, then by another

  pub awake-then : (f g h : ℕ → Bool) (first_reads next_reads reads : ℕ → Reading) (old mid new : Terms) → ((o : ℕ) → h o ≡ (f o || g o))
      → ((o : ℕ) → f o ≡ true → reads o ≡ first_reads o) → ((o : ℕ) → g o ≡ true → reads o ≡ next_reads o)
      → HasWoken b f first_reads old mid → HasWoken b g next_reads mid new → HasWoken b h reads old new
  awake-then f g h first_reads next_reads reads old mid new both alike also first second = record {
    rest = second.rest ∙ ap (λ (t : Terms). record t { woken = new.woken; stirred = new.stirred; cells = new.cells }) first.rest;
    woken_room = second.woken_room ∙ first.woken_room;
    stirred_room = second.stirred_room ∙ first.stirred_room;
    states = second.states ∙ first.states;
    wakes = second.wakes ∙ first.wakes;
    slots = second.slots ∙ first.slots;
    owners = second.owners ∙ first.owners;
    terms = wakes-then b f g h old.woken mid.woken new.woken both first.terms second.terms;
    counts = λ visited counted. second.counts visited (first.counts visited counted);
    turns = λ j p is w k asked atoms so waits.
        let at = nodes_before (places b) j in
        waits-by w k (λ i. heard (passes g) p.tree i || (heard (passes f) p.tree i || asked i)) (λ i. heard (passes h) p.tree i || asked i) p.tree p.at at new.cells.nodes
        (λ i.
        ap (λ x. x || asked i) (heard-or (passes f) (passes g) (passes h) p.tree (λ n x asks. both (operand_number (sizes_in b) x)) i)
        ∙ or-around (heard (passes f) p.tree i) (heard (passes g) p.tree i) (asked i))
        (second.turns j p is w k (λ i. heard (passes f) p.tree i || asked i) (atoms-more (passes f) p.tree asked atoms)
        (λ i x asks on. let o = operand_number (sizes_in b) x in subst (Reads w (suc k) x) (also o on) (so i x asks (both o ∙ or-right (f o) (g o) on)))
        (first.turns j p is w k asked atoms
        (λ i x asks on. let o = operand_number (sizes_in b) x in subst (Reads w (suc k) x) (alike o on) (so i x asks (both o ∙ ap (λ c. c || g o) on)))
        waits));
    calm = λ j p is off.
        let next = second.calm j p is off in
        let before = first.calm j p is next.calm in (record { calm = before.calm; told = next.told ∙ before.told; due = next.due ∙ before.due });
    stirs = λ woken. second.stirs (first.stirs woken);
    same = λ j p is off.
        let none = sym (either f g h both (operands p.tree)) ∙ off in
        second.same j p is (right-false (list_any (passes f) (operands p.tree)) (list_any (passes g) (operands p.tree)) none)
        ∙ first.same j p is (left-false (list_any (passes f) (operands p.tree)) (list_any (passes g) (operands p.tree)) none);
  }

  -- ---- the nodes of a list

  pub awake-listed : (operand : ℕ) (reading : Reading) (asking : List Asker) (old new : Terms) (other : Bool) → other ≡ true
      → new ≡ record old { woken = new.woken; stirred = new.stirred; cells = new.cells }
      → ((j i : ℕ) (p : Placed) (x : Operand) → slice_get (places b) j ≡ Some p → Asks p.tree i x → operand_number (sizes_in b) x ≡ operand → IsAmong asking j i)
      → ((k : ℕ) (a : Asker) → slice_get asking k ≡ Some a → IsAsking b operand a)
      → TurnsEach b asking reading old.cells.nodes old.stirred new.cells.nodes new.stirred → MarksEach b asking old.woken old.cells new.woken new.cells
      → (AreWoken old.woken old.stirred → AreWoken new.woken new.stirred)
      → HasWoken b (λ o. other && eqb o operand) (λ o. reading) old new
  awake-listed operand reading asking old new other on rest each only turned marked stirs =
      let f : ℕ → Bool = λ o. other && eqb o operand in
      let hears = heard-listed b operand asking other on each only in
      record {
        rest = rest;
        woken_room = marked.same;
        stirred_room = turned.same;
        states = turned.states;
        wakes = turned.wakes;
        slots = marked.slots;
        owners = marked.owners;
        terms = λ j p is. marked.marked j ∙ ap (λ c. is_marked old.woken j || c) (asking-named b operand asking other on each only j p is);
        counts = marked.counts;
        turns = λ j p is w h asked atoms so waits.
            waits-by w h (λ i. is_listed asking j i || asked i) (λ i. heard (passes f) p.tree i || asked i) p.tree p.at (nodes_before (places b) j) new.cells.nodes
            (λ i. ap (λ x. x || asked i) (hears j p is i))
            (turned.turns j p is w h asked atoms
            (λ i x asks among. so i x asks (sym (asks-heard (passes f) p.tree i x asks) ∙ hears j p is i ∙ among)) waits);
        calm = turned.calm;
        stirs = stirs;
        same = λ j p is off. turned.due j p is (λ i. sym (hears j p is i) ∙ heard-none (passes f) p.tree off i);
      }

  -- what is kept is made for the book still
  pub fits-woken : (f : ℕ → Bool) (reads : ℕ → Reading) (old new : Terms) → TermsFit b old → HasWoken b f reads old new → new.cells.visits ≤ 2 ^ 64 - 1 → TermsFit b new
  fits-woken f reads old new fits wakes most = subst (TermsFit b) (sym wakes.rest) record {
    codes = fits.codes;
    states = wakes.states ∙ fits.states;
    wakes = wakes.wakes ∙ fits.wakes;
    askers = fits.askers;
    slots = ap length wakes.slots ∙ fits.slots;
    owned = ap length wakes.owners ∙ fits.owned;
    owners = subst (OwnsBelow b (length (places b))) (sym wakes.owners) fits.owners;
    visits = most;
    truths = fits.truths;
    dues = fits.dues;
    woken_room = omega (arith, fits.woken_room, wakes.woken_room);
    stirred_room = omega (arith, fits.stirred_room, wakes.stirred_room);
    stirs = wakes.stirs fits.stirs;
    watch = fits.watch;
    line_alerts = fits.line_alerts;
  }

  -- the nodes of an operand's list can be told
  pub can-turn : (t : Terms) (operand : ℕ) (asking : List Asker) → TermsFit b t → ((k : ℕ) (a : Asker) → slice_get asking k ≡ Some a → IsAsking b operand a)
      → CanTurn b asking t.codes t.cells.nodes t.woken t.stirred
  can-turn t operand asking fits only = record {
    are = fits.codes;
    asks = λ k a is. (operand, only k a is);
    states = fits.states;
    slots = fits.wakes;
    enough = fits.stirred_room;
    also = fits.woken_room;
  }
