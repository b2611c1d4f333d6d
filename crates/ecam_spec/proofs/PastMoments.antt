-- The words of past-time logic by moments alone: the last moment with p, and the start of its stretch. A program that
-- keeps these moments knows what the words say, and needs no counter.
use Rattle.std.proofs.Common.{◌≡◌, ℕ, zero, suc, ◌+◌, ◌-◌, ◌<◌, ◌≤◌, Bool, true, false, not, ◌&&◌, ◌||◌, inl, inr, Option, Some, None, cond, ltb, leb, refl, sym, ◌∙◌, ap, arith}
use Rattle.std.specs.Option.{option_map_or}
use Rattle.std.proofs.Math.Nat.{le-suc_iff}
use Rattle.std.proofs.lemmas.Bool.Decides.{nat_tests}
use Rattle.std.proofs.Math.Bool.{and-false}
use Rattle.ecam_spec.specs.Past.{Signal, once, historically, once_from, historically_from, once_within, historically_within, since, previous, last, start_of}
use Rattle.ecam_spec.proofs.PastSteps.{since-zero, since-suc, since-now, historically_from-suc, historically_from-after, last-zero, last-suc, start_of-on}
use Rattle.ecam_spec.proofs.PastWithin.{historically_from-start, once_from-last}

-- ---- one more moment

-- p and q are as in the moment before, and so is one since the other
rest-step : (p q s : Bool) → (p || (q && (p || (q && s)))) ≡ (p || (q && s))
rest-step true q s = refl
rest-step false true s = refl
rest-step false false s = refl

pub since-rest : (p q : Signal) (k : ℕ) → p (suc k) ≡ p k → q (suc k) ≡ q k → since p q (suc k) ≡ since p q k
since-rest p q k first second =
    since-suc p q k
    ∙ ap (λ b. b || (q (suc k) && since p q k)) first
    ∙ ap (λ b. p k || (b && since p q k)) second
    ∙ ap (λ b. p k || (q k && b)) (since-now p q k)
    ∙ rest-step (p k) (q k) (previous (since p q) k)
    ∙ sym (since-now p q k)

-- while p goes on, its stretch has one start
pub start_of-kept : (p : Signal) (k m : ℕ) → k ≤ m → ((i : ℕ) → k < i → i ≤ m → p i ≡ true) → start_of p m ≡ start_of p k
start_of-kept p k zero within on = ap (start_of p) (let e : 0 ≡ k = omega arith in e)
start_of-kept p k (suc m) within on =
    elim (le-suc_iff.0 within) [
      | inl h ↦ start_of-on p m (on (suc m) (omega arith) (omega arith)) ∙ start_of-kept p k m h (λ i a b. on i a (omega arith))
      | inr e ↦ ap (start_of p) (sym e)
    ]

-- until p comes again, its last moment stays
pub last-kept : (p : Signal) (k m : ℕ) → k ≤ m → ((i : ℕ) → k < i → i ≤ m → p i ≡ false) → last p m ≡ last p k
last-kept p k zero within off = ap (last p) (let e : 0 ≡ k = omega arith in e)
last-kept p k (suc m) within off =
    elim (le-suc_iff.0 within) [
      | inl h ↦
          last-suc p m ∙ ap (λ b. cond b (Some (suc m)) (last p m)) (off (suc m) (omega arith) (omega arith))
          ∙ last-kept p k m h (λ i a b. off i a (omega arith))
      | inr e ↦ ap (last p) (sym e)
    ]

-- ---- the readings by moments

-- what is asked of the last moment with r is asked of a moment up to now
pub last-told : (p q r : Signal) (k : ℕ) → ((i : ℕ) → i ≤ k → p i ≡ q i) → option_map_or p (last r k) false ≡ option_map_or q (last r k) false
unfolding last
last-told p q r zero same =
    elim (r 0) as (λ b. option_map_or p (elim b [ true ↦ Some 0 | false ↦ None ]) false ≡ option_map_or q (elim b [ true ↦ Some 0 | false ↦ None ]) false)
    [ true ↦ same 0 (omega arith) | false ↦ refl ]
last-told p q r (suc k) same =
    elim (r (suc k)) as (λ b. option_map_or p (elim b [ true ↦ Some (suc k) | false ↦ last r k ]) false ≡ option_map_or q (elim b [ true ↦ Some (suc k) | false ↦ last r k ]) false)
    [ true ↦ same (suc k) (omega arith) | false ↦ last-told p q r k (λ i h. same i (omega arith)) ]

long_since : (n k start : ℕ) → (leb n k && leb start (k - n)) ≡ leb (start + n) k
long_since n k start = grind (arith, nat_tests)

-- p now and in each of n moments before, where its stretch began n moments ago or earlier
pub historically_within-start : (n : ℕ) (p : Signal) (k : ℕ) → historically_within n p k ≡ leb (start_of p k + n) k
unfolding historically_within
historically_within-start n p k =
    ap (λ b. leb n k && b) (historically_from-start (k - n) p k (omega arith)) ∙ long_since n k (start_of p k)

lately : (n k : ℕ) (o : Option ℕ) → option_map_or (leb (k - n)) o false ≡ option_map_or (λ j. ltb k (j + n + 1)) o false
lately n k None = refl
lately n k (Some j) = grind (arith, nat_tests)

-- p now or in one of n moments before, where its last moment is one of these
pub once_within-last : (n : ℕ) (p : Signal) (k : ℕ) → once_within n p k ≡ option_map_or (λ j. ltb k (j + n + 1)) (last p k) false
unfolding once_within
once_within-last n p k = once_from-last (k - n) p k ∙ lately n k (last p k)

and-each : (b : Bool) (f : Signal) (o : Option ℕ) → (b && option_map_or f o false) ≡ option_map_or (λ j. b && f j) o false
and-each b f None = and-false b
and-each b f (Some j) = refl

since-step : (p q : Signal) (k : ℕ) (b : Bool) → since p q k ≡ option_map_or (λ j. historically_from (suc j) q k) (last p k) false
    → (b || (q (suc k) && since p q k)) ≡ option_map_or (λ j. historically_from (suc j) q (suc k)) (cond b (Some (suc k)) (last p k)) false
since-step p q k true earlier = sym (historically_from-after (suc (suc k)) q (suc k) (omega arith))
since-step p q k false earlier =
    ap (λ b. q (suc k) && b) earlier
    ∙ and-each (q (suc k)) (λ j. historically_from (suc j) q k) (last p k)
    ∙ last-told (λ j. q (suc k) && historically_from (suc j) q k) (λ j. historically_from (suc j) q (suc k)) p k
    (λ j h. sym (historically_from-suc (suc j) q k (omega arith)))

-- q since p, where q held in each moment after the last with p
pub since-last : (p q : Signal) (k : ℕ) → since p q k ≡ option_map_or (λ j. historically_from (suc j) q k) (last p k) false
since-last p q zero =
    since-zero p q
    ∙ elim (p 0) as (λ b. b ≡ option_map_or (λ j. historically_from (suc j) q 0) (cond {A = Option ℕ} b (Some 0) None) false)
    [ true ↦ sym (historically_from-after 1 q 0 (omega arith)) | false ↦ refl ]
    ∙ ap (λ o. option_map_or (λ j. historically_from (suc j) q 0) o false) (sym (last-zero p))
since-last p q (suc k) =
    since-suc p q k
    ∙ since-step p q k (p (suc k)) (since-last p q k)
    ∙ ap (λ o. option_map_or (λ j. historically_from (suc j) q (suc k)) o false) (sym (last-suc p k))

-- ---- not once is never

leb-not : (j i : ℕ) → leb j i ≡ not (ltb i j)
leb-not j i = grind (arith, nat_tests)

not-here : (before p : Bool) → not (not before && p) ≡ (before || not p)
not-here true p = refl
not-here false p = refl

not-or : (a b : Bool) → not (a || b) ≡ (not a && not b)
not-or true b = refl
not-or false b = refl

pub not-once_from : (j : ℕ) (p : Signal) (k : ℕ) → not (once_from j p k) ≡ historically_from j (λ i. not (p i)) k
unfolding once_from historically_from once historically
not-once_from j p zero = ap (λ b. not (b && p 0)) (leb-not j 0) ∙ not-here (ltb 0 j) (p 0)
not-once_from j p (suc k) =
    not-or (leb j (suc k) && p (suc k)) (once (λ i. leb j i && p i) k)
    ∙ ap (λ b. not (b && p (suc k)) && not (once (λ i. leb j i && p i) k)) (leb-not j (suc k))
    ∙ ap (λ b. b && not (once (λ i. leb j i && p i) k)) (not-here (ltb (suc k) j) (p (suc k)))
    ∙ ap (λ b. (ltb (suc k) j || not (p (suc k))) && b) (not-once_from j p k)
