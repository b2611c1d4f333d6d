-- Past-time temporal logic: what was so up to now. A signal is a truth in each moment, and each word
-- here makes a signal, or a number, of signals. The moments are numbered from 0.
use Rattle.std.specs.Prelude.{ℕ, zero, suc, ◌+◌, ◌-◌, Bool, true, false, not, ◌&&◌, ◌||◌, Option, Some, None, nat_le, nat_lt}

abbrev pub Signal : Type 0
Signal = ℕ → Bool

-- p in some moment up to now
unfoldable pub once : Signal → Signal
once p zero = p zero
once p (suc k) = p (suc k) || once p k

-- p in each moment up to now
unfoldable pub historically : Signal → Signal
historically p zero = p zero
historically p (suc k) = p (suc k) && historically p k

-- p in some moment from j up to now
unfoldable pub once_from : ℕ → Signal → Signal
once_from j p = once (λ i. nat_le j i && p i)

-- p in each moment from j up to now
unfoldable pub historically_from : ℕ → Signal → Signal
historically_from j p = historically (λ i. nat_lt i j || p i)

-- p now or in some of the n moments before; before moment 0 there are none
unfoldable pub once_within : ℕ → Signal → Signal
once_within n p k = once_from (k - n) p k

-- p now and in each of the n moments before, which all have to be there
unfoldable pub historically_within : ℕ → Signal → Signal
historically_within n p k = nat_le n k && historically_from (k - n) p k

-- q in each moment since one with p: p in some moment up to now, and q in each moment after that one
unfoldable pub since : Signal → Signal → Signal
since p q k = once (λ j. p j && historically_from (suc j) q k) k

-- p in the moment before; there is none before moment 0
unfoldable pub previous : Signal → Signal
previous p zero = false
previous p (suc k) = p k

-- p now, and not in the moment before
unfoldable pub rise : Signal → Signal
rise p k = p k && not (previous p k)

-- the last moment up to now in which p holds
unfoldable pub last : Signal → ℕ → Option ℕ
last p zero = elim (p zero) [ true ↦ Some 0 | false ↦ None ]
last p (suc k) = elim (p (suc k)) [ true ↦ Some (suc k) | false ↦ last p k ]

-- the moment after that one, or 0 where there is none
abbrev pub moment_after : Option ℕ → ℕ
moment_after None = 0
moment_after (Some k) = suc k

-- the first moment of the unbroken stretch of moments with p that ends now
unfoldable pub start_of : Signal → ℕ → ℕ
start_of p k = moment_after (last (λ i. not (p i)) k)

-- what f says of the moment before; before moment 0 it says nothing
abbrev pub previously : (ℕ → Option ℕ) → ℕ → Option ℕ
previously f zero = None
previously f (suc k) = f k

-- the first moment of the unbroken stretch of moments with p that ends with the moment before, if p held in it
unfoldable pub running_since : Signal → ℕ → Option ℕ
running_since p = previously (λ k. elim (p k) [ true ↦ Some (start_of p k) | false ↦ None ])

-- the last moment with p since which q has held, in that moment too
unfoldable pub last_since : Signal → Signal → ℕ → Option ℕ
last_since p q k = last (λ j. p j && historically_from j q k) k

-- in how many moments up to now p holds
unfoldable pub count_up_to : Signal → ℕ → ℕ
count_up_to p zero = elim (p zero) [ true ↦ 1 | false ↦ 0 ]
count_up_to p (suc k) = elim (p (suc k)) [ true ↦ count_up_to p k + 1 | false ↦ count_up_to p k ]

-- in how many moments from j up to now p holds
unfoldable pub count_from : ℕ → Signal → ℕ → ℕ
count_from j p = count_up_to (λ i. nat_le j i && p i)
