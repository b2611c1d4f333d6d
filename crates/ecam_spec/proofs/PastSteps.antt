-- The step of each word of past-time logic: what it says in one more moment. Every proof over histories
-- goes by these.
use Rattle.std.proofs.Common.{◌≡◌, ℕ, zero, suc, ◌+◌, ◌<◌, ◌≤◌, Bool, true, false, not, ◌&&◌, ◌||◌, Option, Some, None, ltb, leb, cond, refl, sym, ◌∙◌, ap, arith}
use Rattle.std.proofs.lemmas.Bool.{or_from, lt-ltb, le-ltb, le-leb, lt-leb, or_left}
use Rattle.std.specs.Prelude.{is_some, unwrap_or}
use Rattle.std.proofs.Math.Bool.{and-false, and-true, or-false}
use Rattle.ecam_spec.specs.Past.{Signal, once, historically, once_from, historically_from, since, previous, rise, last, moment_after, start_of, count_up_to}

pub once-suc : (p : Signal) (k : ℕ) → once p (suc k) ≡ (p (suc k) || once p k)
unfolding once
once-suc p k = refl

pub historically-suc : (p : Signal) (k : ℕ) → historically p (suc k) ≡ (p (suc k) && historically p k)
unfolding historically
historically-suc p k = refl

-- signals that agree up to now agree in what was
pub once-below : (p q : Signal) (k : ℕ) → ((i : ℕ) → i ≤ k → p i ≡ q i) → once p k ≡ once q k
unfolding once
once-below p q zero same = same 0 (omega arith)
once-below p q (suc k) same =
    let earlier : once p k ≡ once q k = once-below p q k (λ i h. same i (omega arith)) in
    let now : p (suc k) ≡ q (suc k) = same (suc k) (omega arith) in
    cc

pub historically-below : (p q : Signal) (k : ℕ) → ((i : ℕ) → i ≤ k → p i ≡ q i) → historically p k ≡ historically q k
unfolding historically
historically-below p q zero same = same 0 (omega arith)
historically-below p q (suc k) same =
    let earlier : historically p k ≡ historically q k = historically-below p q k (λ i h. same i (omega arith)) in
    let now : p (suc k) ≡ q (suc k) = same (suc k) (omega arith) in
    cc

-- what is so in no moment was never so
pub once-nowhere : (p : Signal) (k : ℕ) → ((i : ℕ) → p i ≡ false) → once p k ≡ false
unfolding once
once-nowhere p zero none = none 0
once-nowhere p (suc k) none = or_from (p (suc k)) (once p k) (none (suc k)) (once-nowhere p k none)

-- what holds of no moment in particular comes out
pub once-and : (b : Bool) (p : Signal) (k : ℕ) → once (λ i. b && p i) k ≡ (b && once p k)
once-and true p k = refl
once-and false p k = once-nowhere (λ i. false) k (λ i. refl)

and-swap : (a b c : Bool) → (a && (b && c)) ≡ (b && (a && c))
and-swap true b c = refl
and-swap false true c = refl
and-swap false false c = refl

-- what is true in each moment up to now was historically so
pub historically-true : (p : Signal) (k : ℕ) → ((i : ℕ) → i ≤ k → p i ≡ true) → historically p k ≡ true
unfolding historically
historically-true p zero all = all 0 (omega arith)
historically-true p (suc k) all =
    let earlier : historically p k ≡ true = historically-true p k (λ i h. all i (omega arith)) in
    let now : p (suc k) ≡ true = all (suc k) (omega arith) in
    rw (now, earlier) refl

-- no moment is left
pub historically_from-after : (j : ℕ) (p : Signal) (k : ℕ) → k < j → historically_from j p k ≡ true
unfolding historically_from
historically_from-after j p k after =
    historically-true (λ i. ltb i j || p i) k (λ i h. or_left (ltb i j) (p i) (lt-ltb i j (omega arith)))

-- one more moment, which isn't before j
pub historically_from-suc : (j : ℕ) (p : Signal) (k : ℕ) → j ≤ suc k → historically_from j p (suc k) ≡ (p (suc k) && historically_from j p k)
unfolding historically_from historically
historically_from-suc j p k within =
    let past : ltb (suc k) j ≡ false = le-ltb (suc k) j within in
    ap (λ b. (b || p (suc k)) && historically (λ i. ltb i j || p i) k) past

pub once_from-zero : (p : Signal) → once_from 0 p 0 ≡ p 0
unfolding once_from once
once_from-zero p = refl

-- one more moment, which isn't before j
pub once_from-suc : (j : ℕ) (p : Signal) (k : ℕ) → j ≤ suc k → once_from j p (suc k) ≡ (p (suc k) || once_from j p k)
unfolding once_from once
once_from-suc j p k within =
    ap (λ b. (b && p (suc k)) || once (λ i. leb j i && p i) k) (le-leb j (suc k) within)

-- q since p, in moment 0 and in one more
pub since-zero : (p q : Signal) → since p q 0 ≡ p 0
unfolding since once
since-zero p q = ap (λ b. p 0 && b) (historically_from-after 1 q 0 (omega arith)) ∙ and-true (p 0)

pub since-suc : (p q : Signal) (k : ℕ) → since p q (suc k) ≡ (p (suc k) || (q (suc k) && since p q k))
unfolding since
since-suc p q k =
    once-suc (λ j. p j && historically_from (suc j) q (suc k)) k
    ∙ ap (λ b. (p (suc k) && b) || once (λ j. p j && historically_from (suc j) q (suc k)) k) (historically_from-after (suc (suc k)) q (suc k) (omega arith))
    ∙ ap (λ b. b || once (λ j. p j && historically_from (suc j) q (suc k)) k) (and-true (p (suc k)))
    ∙ ap (λ b. p (suc k) || b)
    (once-below (λ j. p j && historically_from (suc j) q (suc k)) (λ j. q (suc k) && (p j && historically_from (suc j) q k)) k
    (λ j h. ap (λ b. p j && b) (historically_from-suc (suc j) q k (omega arith)) ∙ and-swap (p j) (q (suc k)) (historically_from (suc j) q k))
    ∙ once-and (q (suc k)) (λ j. p j && historically_from (suc j) q k) k)

pub rise-suc : (p : Signal) (k : ℕ) → rise p (suc k) ≡ (p (suc k) && not (p k))
unfolding rise previous
rise-suc p k = refl

pub rise-zero : (p : Signal) → rise p 0 ≡ p 0
unfolding rise previous
rise-zero p = and-true (p 0)

pub last-suc : (p : Signal) (k : ℕ) → last p (suc k) ≡ cond (p (suc k)) (Some (suc k)) (last p k)
unfolding last
last-suc p k = elim (p (suc k)) as (λ b. elim b [ true ↦ Some (suc k) | false ↦ last p k ] ≡ cond b (Some (suc k)) (last p k)) [ true ↦ refl | false ↦ refl ]

-- the last moment with p is there where p holds in some moment
pub last-once : (p : Signal) (k : ℕ) → is_some (last p k) ≡ once p k
unfolding last once
last-once p zero = elim (p 0) as (λ b. is_some {T = ℕ} (elim b [ true ↦ Some 0 | false ↦ None ]) ≡ b) [ true ↦ refl | false ↦ refl ]
last-once p (suc k) = elim (p (suc k)) as (λ b. is_some {T = ℕ} (elim b [ true ↦ Some (suc k) | false ↦ last p k ]) ≡ (b || once p k)) [ true ↦ refl | false ↦ last-once p k ]

-- p in a row up to now, or broken off
pub start_of-suc : (p : Signal) (k : ℕ) → start_of p (suc k) ≡ cond (p (suc k)) (start_of p k) (suc (suc k))
unfolding start_of last
start_of-suc p k =
    elim (p (suc k)) as (λ b. moment_after (elim (not b) [ true ↦ Some (suc k) | false ↦ last (λ i. not (p i)) k ]) ≡ cond b (moment_after (last (λ i. not (p i)) k)) (suc (suc k))) [ true ↦ refl | false ↦ refl ]

pub start_of-zero : (p : Signal) → start_of p 0 ≡ cond (p 0) 0 1
unfolding start_of last
start_of-zero p = elim (p 0) as (λ b. moment_after (elim (not b) [ true ↦ Some 0 | false ↦ None ]) ≡ cond b 0 1) [ true ↦ refl | false ↦ refl ]

-- q since p, now, by the moment before
pub since-now : (p q : Signal) (k : ℕ) → since p q k ≡ (p k || (q k && previous (since p q) k))
unfolding previous
since-now p q zero = since-zero p q ∙ sym (ap (λ b. p 0 || b) (and-false (q 0)) ∙ or-false (p 0))
since-now p q (suc k) = since-suc p q k

-- no moment is left
pub once_from-after : (j : ℕ) (p : Signal) (k : ℕ) → k < j → once_from j p k ≡ false
unfolding once_from
once_from-after j p k after =
    once-below (λ i. leb j i && p i) (λ i. false) k (λ i h. ap (λ b. b && p i) (lt-leb j i (omega arith))) ∙ once-nowhere (λ i. false) k (λ i. refl)

-- from now on there is now alone
pub once_from-here : (p : Signal) (k : ℕ) → once_from k p k ≡ p k
once_from-here p zero = once_from-zero p
once_from-here p (suc k) =
    once_from-suc (suc k) p k (omega arith) ∙ ap (λ b. p (suc k) || b) (once_from-after (suc k) p k (omega arith)) ∙ or-false (p (suc k))

pub historically_from-here : (p : Signal) (k : ℕ) → historically_from k p k ≡ p k
unfolding historically_from historically
historically_from-here p zero = refl
historically_from-here p (suc k) =
    historically_from-suc (suc k) p k (omega arith) ∙ ap (λ b. p (suc k) && b) (historically_from-after (suc k) p k (omega arith)) ∙ and-true (p (suc k))

-- what is so now was so in some moment from j up to now
pub once_from-now : (j : ℕ) (p : Signal) (k : ℕ) → j ≤ k → p k ≡ true → once_from j p k ≡ true
once_from-now j p zero within now =
    let first : j ≡ 0 = omega arith in
    ap (λ i. once_from i p 0) first ∙ once_from-zero p ∙ now
once_from-now j p (suc k) within now = once_from-suc j p k within ∙ or_left (p (suc k)) (once_from j p k) now

pub last-zero : (p : Signal) → last p 0 ≡ cond (p 0) (Some 0) None
unfolding last
last-zero p = elim (p 0) as (λ b. elim b [ true ↦ Some 0 | false ↦ None ] ≡ cond {A = Option ℕ} b (Some 0) None) [ true ↦ refl | false ↦ refl ]

-- the last moment with p is now where p holds now
pub last-here : (p : Signal) (k : ℕ) → p k ≡ true → last p k ≡ Some k
last-here p zero now = last-zero p ∙ ap (λ b. cond b (Some 0) None) now
last-here p (suc k) now = last-suc p k ∙ ap (λ b. cond b (Some (suc k)) (last p k)) now

-- until p comes again, it stays
pub last-skip : (p : Signal) (k : ℕ) → p (suc k) ≡ false → last p (suc k) ≡ last p k
last-skip p k off = last-suc p k ∙ ap (λ b. cond b (Some (suc k)) (last p k)) off

-- what was so in no moment up to now has no last moment
pub last-none : (p : Signal) (k : ℕ) → ((i : ℕ) → i ≤ k → p i ≡ false) → last p k ≡ None
last-none p zero none = last-zero p ∙ ap (λ b. cond b (Some 0) None) (none 0 (omega arith))
last-none p (suc k) none =
    last-suc p k ∙ ap (λ b. cond b (Some (suc k)) (last p k)) (none (suc k) (omega arith)) ∙ last-none p k (λ i h. none i (omega arith))

upto : (b : Bool) (k : ℕ) (o : Option ℕ) → moment_after o ≤ k → moment_after (cond b (Some k) o) ≤ suc k
upto true k o h = omega arith
upto false k o h = omega arith

-- the moment after it comes no later than after now, and now where p doesn't hold
pub last-upto : (p : Signal) (k : ℕ) → moment_after (last p k) ≤ suc k
last-upto p zero = rw last-zero (upto (p 0) 0 None (omega arith))
last-upto p (suc k) = rw last-suc (upto (p (suc k)) (suc k) (last p k) (last-upto p k))

pub last-before : (p : Signal) (k : ℕ) → p k ≡ false → moment_after (last p k) ≤ k
last-before p zero off = rw (last-zero, off) (omega arith)
last-before p (suc k) off = rw (last-skip p k off) (last-upto p k)

-- the last moment with p is no later one
pub last-le : (p : Signal) (k : ℕ) → unwrap_or (last p k) 0 ≤ k
unfolding last
last-le p zero = elim (p 0) as (λ b. unwrap_or {T = ℕ} (elim b [ true ↦ Some 0 | false ↦ None ]) 0 ≤ 0) [ true ↦ omega arith | false ↦ omega arith ]
last-le p (suc k) = elim (p (suc k)) as (λ b. unwrap_or {T = ℕ} (elim b [ true ↦ Some (suc k) | false ↦ last p k ]) 0 ≤ suc k) [ true ↦ omega arith | false ↦ omega (arith, last-le p k) ]

-- the stretch is empty where p doesn't hold now
pub start_of-off : (p : Signal) (k : ℕ) → p k ≡ false → start_of p k ≡ suc k
start_of-off p zero off = start_of-zero p ∙ ap (λ b. cond b 0 1) off
start_of-off p (suc k) off = start_of-suc p k ∙ ap (λ b. cond b (start_of p k) (suc (suc k))) off

-- the stretch goes on
pub start_of-on : (p : Signal) (k : ℕ) → p (suc k) ≡ true → start_of p (suc k) ≡ start_of p k
start_of-on p k on = start_of-suc p k ∙ ap (λ b. cond b (start_of p k) (suc (suc k))) on

-- the stretch begins now
pub start_of-rise : (p : Signal) (k : ℕ) → p k ≡ true → previous p k ≡ false → start_of p k ≡ k
unfolding previous
start_of-rise p zero on before = start_of-zero p ∙ ap (λ b. cond b 0 1) on
start_of-rise p (suc k) on before = start_of-on p k on ∙ start_of-off p k before

cond-le : (b : Bool) (x y n : ℕ) → x ≤ n → y ≤ n → cond b x y ≤ n
cond-le true x y n first second = first
cond-le false x y n first second = second

-- the stretch begins no later than after now
pub start_of-le : (p : Signal) (k : ℕ) → start_of p k ≤ suc k
start_of-le p zero = rw (start_of-zero p) (cond-le (p 0) 0 1 1 (omega arith) (omega arith))
start_of-le p (suc k) =
    let before : start_of p k ≤ suc k = start_of-le p k in
    rw (start_of-suc p k) (cond-le (p (suc k)) (start_of p k) (suc (suc k)) (suc (suc k)) (omega arith) (omega arith))

-- a stretch that is there begins no later than now
pub start_of-on-le : (p : Signal) (k : ℕ) → p k ≡ true → start_of p k ≤ k
start_of-on-le p zero on = rw (start_of-zero p) (rw on (omega arith))
start_of-on-le p (suc k) on = rw (start_of-on p k on) (start_of-le p k)

-- one more moment is counted where p holds in it
pub count_up_to-zero : (p : Signal) → count_up_to p 0 ≡ cond (p 0) 1 0
unfolding count_up_to
count_up_to-zero p = elim (p 0) as (λ b. elim b as (λ v. ℕ) [ true ↦ 1 | false ↦ 0 ] ≡ cond b 1 0) [ true ↦ refl | false ↦ refl ]

pub count_up_to-suc : (p : Signal) (k : ℕ) → count_up_to p (suc k) ≡ cond (p (suc k)) (count_up_to p k + 1) (count_up_to p k)
unfolding count_up_to
count_up_to-suc p k = elim (p (suc k)) as (λ b. elim b [ true ↦ count_up_to p k + 1 | false ↦ count_up_to p k ] ≡ cond b (count_up_to p k + 1) (count_up_to p k)) [ true ↦ refl | false ↦ refl ]
