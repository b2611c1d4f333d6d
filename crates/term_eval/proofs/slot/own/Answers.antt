use Rattle.std.proofs.Common.{◌+◌, ◌<◌, ◌≡◌, ℕ, inl, inr, refl, sym, ◌∙◌, ap, length, arith}
use Rattle.std.specs.List.{slice_get}
use Rattle.std.proofs.lemmas.Bool.{cases_lt}
use Rattle.std.proofs.lemmas.Option.{slice_get_within, slice_get-get_or}
use Rattle.std.proofs.Math.Seq.{map-set_same}
use Rattle.term_eval.specs.declared.slot.Slot.{Slot}
use Rattle.term_eval.specs.Slots.{empty}
use Rattle.term_eval.proofs.Slots.{owner-same, owner-other}
use Rattle.term_eval.proofs.slot.own.Goals as goal

pub loop-i-init : goal.loop-i-init
loop-i-init c = record {
  owned = λ j o low is. absurd (let w : ⊥ = omega (arith, low) in w);
  before = λ j low. refl;
  behind = λ j from. refl;
  cells = refl;
  wakes = refl;
}

pub loop-i-preserved : goal.loop-i-preserved
loop-i-preserved c =
    let l = c.loop-i in
    let i = l.invariant in
    let at : ℕ = c.args.at + l.i in
    let within : at < length l.slots = omega (arith, c.requires, c.loop-i-test.true, l.auto.slots) in
    record {
      owned = λ j o low is. elim (cases_lt j l.i) [
        | inl less ↦
            owner-other l.slots at (c.args.at + j) _ (λ e. let w : ⊥ = omega (arith, less, e) in w)
            ∙ i.owned j o less is
        | inr from ↦
            (let same : j ≡ l.i = omega (arith, low, from) in
            owner-same l.slots at (c.args.at + j) _ (omega (arith, same)) within
            ∙ sym (slice_get-get_or c.args.owners.now l.i empty.owner c.loop-i-test.true)
            ∙ ap (slice_get c.args.owners.now) (sym same)
            ∙ is)
      ];
      before = λ j low. owner-other l.slots at j _ (λ e. let w : ⊥ = omega (arith, low, e) in w) ∙ i.before j low;
      behind = λ j from. owner-other l.slots at j _ (λ e. let w : ⊥ = omega (arith, from, e) in w) ∙ i.behind j (omega (arith, from));
      cells = map-set_same (λ (s : Slot). s.cell) l.slots at _ empty refl ∙ i.cells;
      wakes = map-set_same (λ (s : Slot). s.wake) l.slots at _ empty refl ∙ i.wakes;
    }

pub returns-clause-owned : goal.returns-clause-owned
returns-clause-owned c j o is = c.loop-i.invariant.owned j o (let within = slice_get_within c.args.owners.now j o is in omega (arith, within, c.loop-i-test.false)) is

pub returns-clause-behind : goal.returns-clause-behind
returns-clause-behind c j from = c.loop-i.invariant.behind j (omega (arith, from, c.loop-i.auto.i-end))
