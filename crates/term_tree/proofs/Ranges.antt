-- The ranges of slots of a node's children.
use Rattle.std.proofs.Common.{◌≡◌, ℕ, ◌+◌, ◌≤◌, get_or, refl, arith}
use Rattle.std.specs.Prelude.{All, AllPairs}
use Rattle.std.proofs.lemmas.List.Kept.{AllPairs-cons}
use Rattle.std.proofs.lemmas.List.Elements.{All-cons}
use Rattle.ecam_spec.specs.Book.{Tree, Trees, constant, discrete, valid, compared, in_phase, alert, press, computer, negation, all, any, at_least, confirmed, held, risen, latched, none, more}
use Rattle.ecam_spec.specs.TermSize.{slots, slots_of, own_slots, children, Placed, placed, placed_children, EndsBefore, LiesIn}

wider : (a b c d : ℕ) → a ≤ b → c ≤ d → (p : Placed) → LiesIn b c p → LiesIn a d p
wider a b c d low high p inside = (omega arith, omega arith)

-- the slots of conditions that follow one another lie between the ends
pub placed-LiesIn : (at : ℕ) (cs : Trees) → All (LiesIn at (at + slots_of cs)) (placed at cs)
unfolding placed slots
placed-LiesIn at none = λ i d h. absurd (omega arith)
placed-LiesIn at (more c cs) =
    All-cons (LiesIn at (at + (slots c + slots_of cs))) (record { tree = c; at = at }) (placed (at + slots c) cs) (omega arith, omega arith)
    (λ i d h. wider at (at + slots c) (at + slots c + slots_of cs) (at + (slots c + slots_of cs)) (omega arith) (omega arith) (get_or (placed (at + slots c) cs) i d) (placed-LiesIn (at + slots c) cs i d h))

pub placed-EndsBefore : (at : ℕ) (cs : Trees) → AllPairs EndsBefore (placed at cs)
unfolding placed slots
placed-EndsBefore at none = λ i j d h within. absurd (omega arith)
placed-EndsBefore at (more c cs) =
    AllPairs-cons EndsBefore (record { tree = c; at = at }) (placed (at + slots c) cs)
    (λ i d h. (placed-LiesIn (at + slots c) cs i d h).0)
    (placed-EndsBefore (at + slots c) cs)

slots-children : (c : Tree) → slots c ≡ own_slots c + slots_of (children c)
unfolding slots own_slots children
slots-children (constant b) = refl
slots-children (discrete p) = refl
slots-children (valid p) = refl
slots-children (compared p op x) = refl
slots-children (in_phase set) = refl
slots-children (alert a) = refl
slots-children (press key) = refl
slots-children (computer n) = refl
slots-children (negation c) = omega arith
slots-children (all cs) = omega arith
slots-children (any cs) = omega arith
slots-children (at_least n cs) = omega arith
slots-children (confirmed c n) = omega arith
slots-children (held c n) = omega arith
slots-children (risen c) = omega arith
slots-children (latched s r) = omega arith

pub children-LiesIn : (at : ℕ) (c : Tree) → All (LiesIn (at + own_slots c) (at + slots c)) (placed_children at c)
unfolding placed_children
children-LiesIn at c = λ i d h.
    let whole : slots c ≡ own_slots c + slots_of (children c) = slots-children c in
    wider (at + own_slots c) (at + own_slots c) (at + own_slots c + slots_of (children c)) (at + slots c) (omega arith) (omega arith)
    (get_or (placed (at + own_slots c) (children c)) i d)
    (placed-LiesIn (at + own_slots c) (children c) i d h)

pub children-EndsBefore : (at : ℕ) (c : Tree) → AllPairs EndsBefore (placed_children at c)
unfolding placed_children
children-EndsBefore at c = placed-EndsBefore (at + own_slots c) (children c)
