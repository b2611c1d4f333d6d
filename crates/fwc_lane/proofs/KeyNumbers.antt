-- The numbers of keys.
use Rattle.std.proofs.Common.{◌≡◌, ◌≢◌, ℕ, zero, suc, ◌+◌, ◌-◌, ◌<◌, ◌≤◌, Bool, true, false, not, ◌&&◌, eqb, leb, ltb, ltb-true, get_or, refl, sym, ap, subst, ◌∙◌, arith}
use Rattle.std.proofs.lemmas.Bool.{and_parts, leb-true, eq-eqb}
use Rattle.ecam_spec.specs.declared.kinds.Key.{Key}
use Rattle.ecam_spec.specs.declared.kinds.Key.TheVariants.{Clr, Rcl, Sts, All, Emer, ToCfg, Mw, Mc, Page}
use Rattle.ecam_spec.specs.Keys.{IsKey, key_number}
use Rattle.ecam_kinds.specs.declared.keys.Keys.{Keys}
use Rattle.term_eval.specs.Woken.{differ}
use Rattle.fwc_lane.specs.Strokes.{NonePressed}
use Rattle.fwc_lane.specs.Waking.{ranged, key_turned}

-- pages count from 1
pub not-eight : (x : Key) → IsKey x → key_number x ≢ 8
not-eight Clr is e = absurd (omega (arith, e))
not-eight Rcl is e = absurd (omega (arith, e))
not-eight Sts is e = absurd (omega (arith, e))
not-eight All is e = absurd (omega (arith, e))
not-eight Emer is e = absurd (omega (arith, e))
not-eight ToCfg is e = absurd (omega (arith, e))
not-eight Mw is e = absurd (omega (arith, e))
not-eight Mc is e = absurd (omega (arith, e))
not-eight (Page i) is e = absurd (omega (arith, e, is.0))

pub few-keys : (x : Key) → IsKey x → key_number x < 25
few-keys Clr is = omega arith
few-keys Rcl is = omega arith
few-keys Sts is = omega arith
few-keys All is = omega arith
few-keys Emer is = omega arith
few-keys ToCfg is = omega arith
few-keys Mw is = omega arith
few-keys Mc is = omega arith
few-keys (Page i) is = omega (arith, is.1)

-- what is so of each key's number is so of each number but 8
pub of-each-key : (P : ℕ → Type 0) → ((x : Key) → IsKey x → P (key_number x)) → (i : ℕ) → i < 25 → i ≢ 8 → P i
of-each-key P each zero lt ne = each Clr tt
of-each-key P each (suc zero) lt ne = each Rcl tt
of-each-key P each (suc (suc zero)) lt ne = each Sts tt
of-each-key P each (suc (suc (suc zero))) lt ne = each All tt
of-each-key P each (suc (suc (suc (suc zero)))) lt ne = each Emer tt
of-each-key P each (suc (suc (suc (suc (suc zero))))) lt ne = each ToCfg tt
of-each-key P each (suc (suc (suc (suc (suc (suc zero)))))) lt ne = each Mw tt
of-each-key P each (suc (suc (suc (suc (suc (suc (suc zero))))))) lt ne = each Mc tt
of-each-key P each (suc (suc (suc (suc (suc (suc (suc (suc n)))))))) lt ne =
    let first : 1 ≤ n = omega (arith, ne) in
    let last : n ≤ 16 = omega (arith, lt) in
    let at : 8 + n ≡ suc (suc (suc (suc (suc (suc (suc (suc n))))))) = omega arith in
    subst P at (each (Page n) (first, last))

-- where no key is pressed in either of two moments, none turned
pub none-turned : (was now : Keys) → NonePressed was → NonePressed now → (from o : ℕ) → ranged from 25 (key_turned was now) o ≡ false
unfolding ranged key_turned
none-turned was now were are from o = by (leb from o && ltb o (from + 25)) refl where
  off : (i : ℕ) → i < 25 → (e : Bool) → eqb i 8 ≡ e → (not e && differ (get_or now.pressed i false) (get_or was.pressed i false)) ≡ false
  off i lt true e = refl
  off i lt false e =
      let ne : i ≢ 8 = λ same. absurd (let w : ⊥ = (let clash : true ≡ false = sym (eq-eqb i 8 same) ∙ e in cc) in w) in
      ap (λ x. differ x (get_or was.pressed i false)) (of-each-key (λ n. get_or now.pressed n false ≡ false) are i lt ne)
      ∙ of-each-key (λ n. get_or was.pressed n false ≡ false) were i lt ne

  by : (inside : Bool) → (leb from o && ltb o (from + 25)) ≡ inside
      → (inside && (not (eqb (o - from) 8) && differ (get_or now.pressed (o - from) false) (get_or was.pressed (o - from) false))) ≡ false
  by false e = refl
  by true e =
      let both = and_parts (leb from o) (ltb o (from + 25)) e in
      off (o - from) (omega (arith, leb-true from o both.0, ltb-true o (from + 25) both.1)) (eqb (o - from) 8) refl
