use Rattle.std.proofs.Common.{◌≡◌, ℕ, ◌==◌, ◌&&◌, ◌||◌, Bool, true, false, not, refl, sym, ap, ◌∙◌}
use Rattle.std.proofs.Math.Bool.{beq}
use Rattle.std.proofs.lemmas.Bool.{or_parts, eq-eqb}
use Rattle.std.proofs.lemmas.List.{get_or_default}
use Rattle.alert_truth.proofs.truths.Truths.note.Goals as goal

-- flags between which no difference is told are the same
same-flag : (now was : Bool) → not (beq now was) ≡ false → now ≡ was
same-flag true true same = refl
same-flag true false same = absurd (let w : true ≡ false = same in cc)
same-flag false true same = absurd (let w : true ≡ false = same in cc)
same-flag false false same = refl

-- what isn't in the set wasn't put in
not-put : (j a : ℕ) (p was q before on : Bool) → (((j == a) && (not (beq p was) || not (beq q before))) || on) ≡ false → (on ≡ false) × (j ≡ a → (p ≡ was) × (q ≡ before))
not-put j a p was q before on off =
    let parts = or_parts ((j == a) && (not (beq p was) || not (beq q before))) on off in (
      parts.1,
      λ same.
          let both =
          or_parts (not (beq p was)) (not (beq q before)) (sym (ap (λ t. t && (not (beq p was) || not (beq q before))) (eq-eqb j a same)) ∙ parts.0) in
          (same-flag p was both.0, same-flag q before both.1),
    )

pub returns-clause-turns : goal.returns-clause-turns
returns-clause-turns c = λ j off.
    let old = c.args.self.now in
    let a = c.args.alert in
    let parts =
    not-put j a c.args.present c.index-was_present.result.now c.args.active c.index-was_active.result.now _ (sym (c.mark_if-2.ensures.marks j) ∙ off) in (
      parts.0,
      λ same.
          let both = parts.1 same in (
            both.0 ∙ c.index-was_present.ensures ∙ get_or_default old.present.items a c.index-was_present.result.now false c.requires.present,
            both.1 ∙ c.index-was_active.ensures ∙ get_or_default old.active.items a c.index-was_active.result.now false c.requires.active,
          ),
    )
