-- A temporal node that is left, since those right below it keep their truths and it isn't due: it holds where it held, and
-- its cell stands on as it is.
use Rattle.std.proofs.Common.{◌≡◌, ℕ, suc, ◌<◌, ◌^◌, Bool, true, false, List, [], ◌∷◌, sym, ◌∙◌, ap}
use Rattle.ecam_spec.specs.Book.{Tree, constant, discrete, valid, compared, in_phase, alert, press, computer, negation, all, any, at_least, confirmed, held, risen, latched}
use Rattle.ecam_spec.specs.Term.{World, holds, truths}
use Rattle.ecam_spec.specs.TermSize.{children}
use Rattle.term_eval.specs.declared.memory.Cell.{Cell}
use Rattle.term_eval.specs.OwnDue.{own_due}
use Rattle.term_eval.specs.Code.{IsShort}
use Rattle.term_eval.specs.Parts.{is_temporal}
use Rattle.term_eval.proofs.Unturned.{Unturned, unturned-confirmed, unturned-held, unturned-risen, unturned-latched, stretch-stays, lasted-stays, on-stays, latched-stays}
use Rattle.term_eval.proofs.Inside.{OwnCell}

-- the first and the second of some truths
abbrev first_of : List Bool → Bool
first_of [] = false
first_of (b ∷ bs) = b

abbrev second_of : List Bool → Bool
second_of [] = false
second_of (b ∷ bs) = first_of bs

pub left-unturned : (w : World) (h : ℕ) (c : Tree) → is_temporal c ≡ true → suc h < 2 ^ 63 → IsShort c → truths w (children c) (suc h) ≡ truths w (children c) h →
    suc h < own_due w c h → Unturned w h c
unfolding is_temporal holds own_due children IsShort
left-unturned w h (constant b) temporal small short same soon = absurd (let z : ⊥ = cc in z)
left-unturned w h (discrete x) temporal small short same soon = absurd (let z : ⊥ = cc in z)
left-unturned w h (valid x) temporal small short same soon = absurd (let z : ⊥ = cc in z)
left-unturned w h (compared x op n) temporal small short same soon = absurd (let z : ⊥ = cc in z)
left-unturned w h (in_phase set) temporal small short same soon = absurd (let z : ⊥ = cc in z)
left-unturned w h (alert a) temporal small short same soon = absurd (let z : ⊥ = cc in z)
left-unturned w h (press key) temporal small short same soon = absurd (let z : ⊥ = cc in z)
left-unturned w h (computer n) temporal small short same soon = absurd (let z : ⊥ = cc in z)
left-unturned w h (negation c) temporal small short same soon = absurd (let z : ⊥ = cc in z)
left-unturned w h (all cs) temporal small short same soon = absurd (let z : ⊥ = cc in z)
left-unturned w h (any cs) temporal small short same soon = absurd (let z : ⊥ = cc in z)
left-unturned w h (at_least n cs) temporal small short same soon = absurd (let z : ⊥ = cc in z)
left-unturned w h (confirmed c n) temporal small short same soon = unturned-confirmed w h c n small short.0 (ap first_of same) soon
left-unturned w h (held c n) temporal small short same soon = unturned-held w h c n small short.0 (ap first_of same) soon
left-unturned w h (risen c) temporal small short same soon = unturned-risen w h c small (ap first_of same) soon
left-unturned w h (latched s r) temporal small short same soon = unturned-latched w h s r (ap first_of same) (ap second_of same)

pub left-cell : (w : World) (h : ℕ) (c : Tree) (cell : Cell) → truths w (children c) (suc h) ≡ truths w (children c) h → OwnCell w (suc h) c cell → OwnCell w (suc (suc h)) c cell
unfolding holds children
left-cell w h (constant b) cell same own = tt
left-cell w h (discrete x) cell same own = tt
left-cell w h (valid x) cell same own = tt
left-cell w h (compared x op n) cell same own = tt
left-cell w h (in_phase set) cell same own = tt
left-cell w h (alert a) cell same own = tt
left-cell w h (press key) cell same own = tt
left-cell w h (computer n) cell same own = tt
left-cell w h (negation c) cell same own = tt
left-cell w h (all cs) cell same own = tt
left-cell w h (any cs) cell same own = tt
left-cell w h (at_least n cs) cell same own = tt
left-cell w h (confirmed c n) cell same own = own ∙ sym (stretch-stays (holds w c) h (ap first_of same))
left-cell w h (held c n) cell same own = own ∙ sym (lasted-stays (holds w c) h (ap first_of same))
left-cell w h (risen c) cell same own = own ∙ sym (on-stays (holds w c) h (ap first_of same))
left-cell w h (latched s r) cell same own = own ∙ sym (latched-stays (holds w s) (holds w r) h (ap first_of same) (ap second_of same))
