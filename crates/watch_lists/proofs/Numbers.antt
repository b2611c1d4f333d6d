-- The numbers of operands tell them apart.
use Rattle.std.proofs.Common.{◌≡◌, ℕ, ◌+◌, ◌-◌, ◌<◌, ◌≤◌, ◌==◌, nat_lt, if◌then◌else◌, refl, sym, ap, ◌∙◌, arith}
use Rattle.std.proofs.lemmas.Bool.{lt-ltb}
use Rattle.ecam_spec.specs.declared.kinds.Key.{Key}
use Rattle.ecam_spec.specs.declared.kinds.Key.TheVariants.{Clr, Rcl, Sts, All, Emer, ToCfg, Mw, Mc, Page}
use Rattle.ecam_spec.specs.Keys.{IsKey, key_number}
use Rattle.term_eval.specs.Woken.{Operand}
use Rattle.term_eval.specs.Woken.Operand.{value, phase, activity, key, health}
use Rattle.watch_lists.specs.declared.number.Sizes.{Sizes}
use Rattle.watch_lists.specs.Naming.{operand_number, IsOperand}

-- the key of a number
abbrev few : ℕ → Key
few n =
    if n == 0 then Clr else
    (if n == 1 then Rcl else (if n == 2 then Sts else (if n == 3 then All else (if n == 4 then Emer else (if n == 5 then ToCfg else (if n == 6 then Mw else Mc))))))

abbrev key_of : ℕ → Key
key_of n = if nat_lt 8 n then Page (n - 8) else few n

key_back : (x : Key) → IsKey x → key_of (key_number x) ≡ x
key_back Clr is = refl
key_back Rcl is = refl
key_back Sts is = refl
key_back All is = refl
key_back Emer is = refl
key_back ToCfg is = refl
key_back Mw is = refl
key_back Mc is = refl
key_back (Page i) (low, high) =
    let past : 8 < 8 + i = omega arith in
    let back : 8 + i - 8 ≡ i = omega arith in
    ap (λ b. if b then Page (8 + i - 8) else few (8 + i)) (lt-ltb 8 (8 + i) past) ∙ ap Page back

key_few : (x : Key) → IsKey x → key_number x ≤ 24
key_few Clr is = omega arith
key_few Rcl is = omega arith
key_few Sts is = omega arith
key_few All is = omega arith
key_few Emer is = omega arith
key_few ToCfg is = omega arith
key_few Mw is = omega arith
key_few Mc is = omega arith
key_few (Page i) (low, high) = omega arith

pub number_tells : (n : Sizes) (x y : Operand) → IsOperand n x → IsOperand n y → operand_number n x ≡ operand_number n y → x ≡ y
number_tells n (value p) (value q) a b e = ap value e
number_tells n (value p) (activity q) a b e = absurd (omega arith)
number_tells n (value p) phase a b e = absurd (omega arith)
number_tells n (value p) (key y) a b e = absurd (omega arith)
number_tells n (value p) (health d) a b e = absurd (omega arith)
number_tells n (activity p) (value q) a b e = absurd (omega arith)
number_tells n (activity p) (activity q) a b e = let same : p ≡ q = omega arith in ap activity same
number_tells n (activity p) phase a b e = absurd (omega arith)
number_tells n (activity p) (key y) a b e = absurd (omega arith)
number_tells n (activity p) (health d) a b e = absurd (omega arith)
number_tells n phase (value q) a b e = absurd (omega arith)
number_tells n phase (activity q) a b e = absurd (omega arith)
number_tells n phase phase a b e = refl
number_tells n phase (key y) a b e = absurd (omega arith)
number_tells n phase (health d) a b e = absurd (omega arith)
number_tells n (key x) (value q) a b e = absurd (omega arith)
number_tells n (key x) (activity q) a b e = absurd (omega arith)
number_tells n (key x) phase a b e = absurd (omega arith)
number_tells n (key x) (key y) a b e =
    let same : key_number x ≡ key_number y = omega arith in
    ap key (sym (key_back x a) ∙ ap key_of same ∙ key_back y b)
number_tells n (key x) (health d) a (low, high) e = absurd (omega (arith, key_few x a))
number_tells n (health c) (value q) a b e = absurd (omega arith)
number_tells n (health c) (activity q) a b e = absurd (omega arith)
number_tells n (health c) phase a b e = absurd (omega arith)
number_tells n (health c) (key y) (low, high) b e = absurd (omega (arith, key_few y b))
number_tells n (health c) (health d) a b e = let same : c ≡ d = omega arith in ap health same
