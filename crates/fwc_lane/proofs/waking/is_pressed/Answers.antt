use Rattle.std.proofs.Common.{◌≡◌, ◌&&◌, not, MatchOption, slice_index_or, false, sym, ap, subst, ◌∙◌}
use Rattle.std.proofs.lemmas.Bool.{eq-eqb, ne_eqb}
use Rattle.ecam_spec.specs.Keys.{IsKey, key_number}
use Rattle.term_eval.specs.declared.reading.Reading.TheVariants.{Flag}
use Rattle.fwc_lane.proofs.KeyNumbers.{not-eight}
use Rattle.fwc_lane.proofs.waking.is_pressed.Goals as goal

pub returns-in-Some : goal.returns-in-Some
returns-in-Some c =
    let is = subst (λ o. MatchOption o (c.args.number ≡ 8) (λ key. IsKey key × (key_number key ≡ c.args.number))) c.in-Some.is c.key_at.ensures in
    ap Flag
    (c.pressed.ensures
    ∙ ap (λ n. slice_index_or c.args.keys.now.pressed n false) is.1
    ∙ sym (ap (λ b. not b && slice_index_or c.args.keys.now.pressed c.args.number false) (ne_eqb c.args.number 8 (λ e. not-eight c.in-Some.key is.0 (is.1 ∙ e)))))

pub returns-in-None : goal.returns-in-None
returns-in-None c =
    let is : c.args.number ≡ 8 = subst (λ o. MatchOption o (c.args.number ≡ 8) (λ key. IsKey key × (key_number key ≡ c.args.number))) c.in-None.is c.key_at.ensures in
    ap Flag (sym (ap (λ b. not b && slice_index_or c.args.keys.now.pressed c.args.number false) (eq-eqb c.args.number 8 is)))
