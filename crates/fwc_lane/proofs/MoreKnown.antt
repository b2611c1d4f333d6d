-- What is known of a moment grows: the operands that are another wake those that name them.
use Rattle.std.proofs.Common.{◌≡◌, ℕ, suc, ◌<◌, ◌≤◌, Bool, true, false, ◌||◌, eqb, slice_get, Some, refl, sym, ap, subst, ◌∙◌}
use Rattle.std.specs.List.{list_any}
use Rattle.std.proofs.Math.Bool.{or-false, or_assoc, or_comm}
use Rattle.ecam_spec.specs.Term.{World}
use Rattle.ecam_spec.specs.TermSize.{Placed}
use Rattle.book_model.specs.declared.draft.Draft.{Draft}
use Rattle.book_model.specs.Sealed.{the_book, IsSealed}
use Rattle.book_model.specs.Conditions.{places}
use Rattle.term_eval.specs.Asked.{Asks, heard}
use Rattle.term_eval.specs.CellState.{Stand}
use Rattle.term_eval.specs.Reading.{Reads}
use Rattle.term_eval.specs.Woken.{Operand, operands}
use Rattle.term_eval.specs.declared.reading.Reading.{Reading}
use Rattle.watch_lists.specs.Naming.{operand_number}
use Rattle.wakes.specs.Marks.{is_marked}
use Rattle.condition_codes.specs.Places.{nodes_before}
use Rattle.fwc_lane.specs.declared.terms.Terms.{Terms}
use Rattle.fwc_lane.specs.Waking.{sizes_in, HasWoken}
use Rattle.fwc_lane.specs.Conditions.{IsAsked, IsWaiting, IsLeft, HalfStepped}
use Rattle.fwc_lane.proofs.Askers.{asks-named}
use Rattle.fwc_lane.proofs.Hears.{waits-by, heard-none, heard-or, atoms-heard}
use Rattle.fwc_lane.proofs.Hitting.{any-or}
use Rattle.fwc_lane.proofs.NamedOperands.{IsBookOperand, asks-one, any-named}

or-swap : (x y z : Bool) → ((x || y) || z) ≡ ((x || z) || y)
or-swap x y z = or_assoc x y z ∙ ap (λ c. x || c) (or_comm y z) ∙ sym (or_assoc x z y)

-- an operand that passes the test reads so in the worlds of the conditions that are left, and those that were stepped name none
module _ (d : Draft) (sealed : IsSealed d) (worlds : ℕ → World) (hit hit' : Operand → Bool) (f : ℕ → Bool) (reads : ℕ → Reading) (k i visited : ℕ) (t new : Terms)
    (wakes : HasWoken (the_book d) f reads t new)
    (hits : (h : ℕ) → k ≡ suc h → (x : Operand) → IsBookOperand (the_book d) x → hit' x ≡ (hit x || f (operand_number (sizes_in (the_book d)) x)))
    (so : (h : ℕ) → k ≡ suc h → (j : ℕ) (p : Placed) → i ≤ j → slice_get (places (the_book d)) j ≡ Some p → (n : ℕ) (x : Operand) → Asks p.tree n x
    → IsBookOperand (the_book d) x → f (operand_number (sizes_in (the_book d)) x) ≡ true → Reads (worlds j) k x (reads (operand_number (sizes_in (the_book d)) x)))
    (apart : (j : ℕ) (p : Placed) → j < i → slice_get (places (the_book d)) j ≡ Some p
    → list_any (λ x. f (operand_number (sizes_in (the_book d)) x)) (operands p.tree) ≡ false) where
  abbrev passes : Operand → Bool
  passes x = f (operand_number (sizes_in (the_book d)) x)

  either : (h : ℕ) → k ≡ suc h → (j : ℕ) (p : Placed) → slice_get (places (the_book d)) j ≡ Some p
      → list_any hit' (operands p.tree) ≡ (list_any hit (operands p.tree) || list_any passes (operands p.tree))
  either h e j p is =
      any-named d sealed j p is hit' (λ x. hit x || passes x) (hits h e) ∙ any-or hit passes (operands p.tree)

  -- ---- a condition that was stepped

  stepped : (j : ℕ) (p : Placed) → j < i → slice_get (places (the_book d)) j ≡ Some p
      → IsAsked (worlds j) k j (nodes_before (places (the_book d)) j) p t → IsAsked (worlds j) k j (nodes_before (places (the_book d)) j) p (record t { woken = new.woken; stirred = new.stirred; cells = new.cells })
  stepped j p lt is was =
      let none = apart j p lt is in
      let unheard = heard-none passes p.tree none in record {
        stands = subst (Stand (worlds j) (suc k) p.tree p.at) (sym wakes.slots) was.stands;
        nodes = waits-by (worlds j) k (λ n. heard passes p.tree n || false) (λ n. false) p.tree p.at (nodes_before (places (the_book d)) j) new.cells.nodes (λ n. sym (ap (λ a. a || false) (unheard n)))
            (wakes.turns j p is (worlds j) k (λ n. false) (λ n on. absurd (let w : ⊥ = (let clash : false ≡ true = on in cc) in w))
            (λ n x asks on. absurd (let w : ⊥ = (let clash : false ≡ true = sym none ∙ asks-named passes p.tree n x asks on in cc) in w))
            was.nodes);
        wakes = was.wakes ∙ sym (wakes.same j p is none);
        told = was.told;
        next = was.next;
      }

  -- ---- one that is left

  was-calm : (j : ℕ) (p : Placed) → slice_get (places (the_book d)) j ≡ Some p → is_marked new.stirred j ≡ false → is_marked t.stirred j ≡ false
  was-calm j p is off = (wakes.calm j p is off).calm

  still-stirred : (j : ℕ) (p : Placed) → slice_get (places (the_book d)) j ≡ Some p → is_marked t.stirred j ≡ true → is_marked new.stirred j ≡ true
  still-stirred j p is on = by (is_marked new.stirred j) refl where
    by : (now : Bool) → is_marked new.stirred j ≡ now → is_marked new.stirred j ≡ true
    by true now = now
    by false now = absurd (let w : ⊥ = (let clash : false ≡ true = sym (was-calm j p is now) ∙ on in cc) in w)

  waiting : (h : ℕ) → k ≡ suc h → (j : ℕ) (p : Placed) → i ≤ j → slice_get (places (the_book d)) j ≡ Some p
      → IsWaiting (worlds j) hit h j (nodes_before (places (the_book d)) j) p t → IsWaiting (worlds j) hit' h j (nodes_before (places (the_book d)) j) p (record t { woken = new.woken; stirred = new.stirred; cells = new.cells })
  waiting h e j p le is own = record {
    due = own.due;
    told = own.told;
    next = own.next;
    marks =
        wakes.terms j p is ∙ ap (λ a. a || list_any passes (operands p.tree)) own.marks
        ∙ or-swap (list_any hit (operands p.tree)) (eqb own.due (suc h)) (list_any passes (operands p.tree)) ∙ ap (λ a. a || eqb own.due (suc h)) (sym (either h e j p is));
    nodes = waits-by (worlds j) h (λ n. heard passes p.tree n || heard hit p.tree n) (heard hit' p.tree) p.tree p.at (nodes_before (places (the_book d)) j) new.cells.nodes
        (heard-or passes hit hit' p.tree
        (λ n x asks. hits h e x (asks-one d sealed j p is n x asks) ∙ or_comm (hit x) (passes x)))
        (wakes.turns j p is (worlds j) h (heard hit p.tree) (atoms-heard hit p.tree)
        (λ n x asks on.
        subst (λ m. Reads (worlds j) m x (reads (operand_number (sizes_in (the_book d)) x))) e
        (so h e j p le is n x asks (asks-one d sealed j p is n x asks) on))
        own.nodes);
    kept = λ off. own.kept (was-calm j p is off);
    calm = λ off.
        let same = wakes.calm j p is off in
        let before = own.calm same.calm in (record {
          later = before.later;
          wakes = same.due ∙ before.wakes;
          told = same.told ∙ before.told;
        });
  }

  left : (j : ℕ) (p : Placed) → i ≤ j → slice_get (places (the_book d)) j ≡ Some p
      → IsLeft (worlds j) hit k j (nodes_before (places (the_book d)) j) p t → IsLeft (worlds j) hit' k j (nodes_before (places (the_book d)) j) p (record t { woken = new.woken; stirred = new.stirred; cells = new.cells })
  left j p le is was = record {
    short = was.short;
    stands = subst (Stand (worlds j) k p.tree p.at) (sym wakes.slots) was.stands;
    first = λ e. wakes.terms j p is ∙ ap (λ a. a || list_any passes (operands p.tree)) (was.first e);
    stirs = λ e. still-stirred j p is (was.stirs e);
    later = λ h e. waiting h e j p le is (was.later h e);
  }

  pub half-more : HalfStepped (places (the_book d)) worlds hit k i visited t → HalfStepped (places (the_book d)) worlds hit' k i visited new
  half-more half = subst (HalfStepped (places (the_book d)) worlds hit' k i visited) (sym wakes.rest) record {
    stepped = λ j p lt is. stepped j p lt is (half.stepped j p lt is);
    marks = λ j p lt is. wakes.terms j p is ∙ ap (λ a. is_marked t.woken j || a) (apart j p lt is) ∙ or-false (is_marked t.woken j) ∙ half.marks j p lt is;
    left = λ j p le is. left j p le is (half.left j p le is);
    counted = wakes.counts visited half.counted;
  }
