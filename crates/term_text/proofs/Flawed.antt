-- What stands first of what is wrong with several parts of a text.
use Rattle.std.proofs.Common.{◌≡◌, Bool, true, false, List, [], ◌∷◌, ◌++◌, Option, Some, None, refl, sym, ap, ◌∙◌, arith}
use Rattle.std.proofs.lemmas.Bool.{le-leb, lt-leb, leb-true, leb-false}
use Rattle.std.specs.Prelude.{nat_le}
use Rattle.ecam_spec.specs.TermText.{Flaw, flaw_place, earlier, earliest}
use Rattle.term_text.specs.Flaws.{earlier_of}

-- of two flaws, by the outcome of the test
abbrev chosen : Flaw → Flaw → Bool → Flaw
chosen a b c = elim c [ true ↦ a | false ↦ b ]

takes : (a b : Flaw) (c : Bool) → nat_le (flaw_place a) (flaw_place b) ≡ c → earlier a (Some b) ≡ chosen a b c
unfolding earlier
takes a b c e = ap (chosen a b) e

three : (a b d : Flaw) (ab bd ad : Bool) → nat_le (flaw_place a) (flaw_place b) ≡ ab → nat_le (flaw_place b) (flaw_place d) ≡ bd → nat_le (flaw_place a) (flaw_place d) ≡ ad
    → earlier (earlier a (Some b)) (Some d) ≡ earlier a (Some (earlier b (Some d)))
three a b d true true ad e f g =
    ap (λ (x : Flaw). earlier x (Some d)) (takes a b true e)
    ∙ takes a d true (le-leb _ _ (omega (arith, leb-true _ _ e, leb-true _ _ f)))
    ∙ sym (takes a b true e)
    ∙ ap (λ (x : Flaw). earlier a (Some x)) (sym (takes b d true f))
three a b d true false ad e f g =
    ap (λ (x : Flaw). earlier x (Some d)) (takes a b true e)
    ∙ ap (λ (x : Flaw). earlier a (Some x)) (sym (takes b d false f))
three a b d false true ad e f g =
    ap (λ (x : Flaw). earlier x (Some d)) (takes a b false e)
    ∙ takes b d true f
    ∙ sym (takes a b false e)
    ∙ ap (λ (x : Flaw). earlier a (Some x)) (sym (takes b d true f))
three a b d false false ad e f g =
    ap (λ (x : Flaw). earlier x (Some d)) (takes a b false e)
    ∙ takes b d false f
    ∙ sym (takes a d false (lt-leb _ _ (omega (arith, leb-false _ _ e, leb-false _ _ f))))
    ∙ ap (λ (x : Flaw). earlier a (Some x)) (sym (takes b d false f))

assoc : (a : Flaw) (x y : Option Flaw) → Some (earlier (earlier a x) y) ≡ Some (earlier a (earlier_of x y))
unfolding earlier
assoc a None y = refl
assoc a (Some b) None = refl
assoc a (Some b) (Some d) = ap (λ (f : Flaw). Some f) (three a b d _ _ _ refl refl refl)

pub earliest-append : (xs ys : List Flaw) → earliest (xs ++ ys) ≡ earlier_of (earliest xs) (earliest ys)
earliest-append [] ys = refl
earliest-append (a ∷ xs) ys = ap (λ (o : Option Flaw). Some (earlier a o)) (earliest-append xs ys) ∙ sym (assoc a (earliest xs) (earliest ys))
