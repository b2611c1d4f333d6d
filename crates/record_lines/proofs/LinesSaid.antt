-- What the record's definitions say of a text with one more byte.
use Rattle.std.proofs.Common.{◌≡◌, ℕ, zero, suc, ◌+◌, ◌<◌, ◌≤◌, Bool, true, false, not, ◌||◌, ◌==◌, List, [], ◌∷◌, ◌++◌, length, get_or, take, drop, Option, Some, None, cond, refl, sym, ◌∙◌, ap, arith}
use Rattle.std.proofs.Math.Seq.{get_or-append_seam, take-suc}
use Rattle.std.proofs.lemmas.List.{drop-append-le, drop_all, length-take-le}
use Rattle.std.proofs.lemmas.List.Elements.{filter-append, filter_map-append}
use Rattle.std.specs.Option.{option_to_list}
use Rattle.std.specs.List.{filter, filter_map, cons_option}
use Rattle.ecam_spec.specs.declared.kinds.Event.{Event}
use Rattle.ecam_spec.specs.Past.{Signal, once, previous, last, moment_after, count_up_to}
use Rattle.ecam_spec.specs.Places.{below}
use Rattle.ecam_spec.specs.RecordLine.{event_of, is_end_event}
use Rattle.ecam_spec.specs.Record.{is_feed, line_start, line_before, line_number}
use Rattle.ecam_spec.proofs.PastSteps.{last-suc, last-zero, count_up_to-suc, count_up_to-zero}
use Rattle.record_lines.proofs.Prefix.{is_feed-prefix, line_before-prefix}

-- the byte stands at the place after the text
pub is_feed-here : (text : List ℕ) (byte : ℕ) (more : List ℕ) → is_feed (text ++ byte ∷ more) (length text) ≡ (byte == 10)
unfolding is_feed
is_feed-here text byte more = ap (λ b. b == 10) (get_or-append_seam text byte more 0)

-- ---- one more place of a text

-- a number that goes by the last place that passes
next-last : (p : Signal) (start : ℕ → ℕ) (i : ℕ) → start 0 ≡ 0 → ((j : ℕ) → start (suc j) ≡ moment_after (last p j)) → start (suc i) ≡ cond (p i) (suc i) (start i)
next-last p start zero first step =
    step 0 ∙ ap moment_after (last-zero p) ∙ elim (p 0) as (λ b. moment_after (cond b (Some 0) None) ≡ cond b 1 (start 0)) [ true ↦ refl | false ↦ sym first ]
next-last p start (suc i) first step =
    step (suc i) ∙ ap moment_after (last-suc p i) ∙ elim (p (suc i)) as (λ b. moment_after (cond b (Some (suc i)) (last p i)) ≡ cond b (suc (suc i)) (start (suc i))) [ true ↦ refl | false ↦ sym (step i) ]

pub line_start-zero : (text : List ℕ) → line_start text 0 ≡ 0
unfolding line_start
line_start-zero text = refl

-- the next place's line begins there after a line feed, else where this place's line began
pub line_start-suc : (text : List ℕ) (i : ℕ) → line_start text (suc i) ≡ cond (is_feed text i) (suc i) (line_start text i)
unfolding line_start
line_start-suc text i = next-last (is_feed text) (line_start text) i refl (λ j. refl)

-- a line begins at most at its place
pub line_start-le : (text : List ℕ) (i : ℕ) → line_start text i ≤ i
line_start-le text zero = let e : line_start text 0 ≡ 0 = line_start-zero text in omega arith
line_start-le text (suc i) =
    let earlier : line_start text i ≤ i = line_start-le text i in
    cond-le (is_feed text i) (suc i) (line_start text i) (line_start text (suc i)) (line_start-suc text i) (omega arith)
  where
    cond-le : (b : Bool) (n m r : ℕ) → r ≡ cond b n m → m ≤ n → r ≤ n
    cond-le true n m r e h = omega arith
    cond-le false n m r e h = omega arith

-- the line before the next place
pub line_before-suc : (text : List ℕ) (i : ℕ) → i < length text → line_before text (suc i) ≡ cond (is_feed text i) [] (line_before text i ++ get_or text i 0 ∷ [])
unfolding line_before
line_before-suc text i within =
    let le : line_start text i ≤ i = line_start-le text i in
    let len : length (take i text) ≡ i = length-take-le i text (omega arith) in
    let whole : take (suc i) text ≡ take i text ++ get_or text i 0 ∷ [] = take-suc text i 0 within in
    let full : length (take (suc i) text) ≡ suc i = length-take-le (suc i) text (omega arith) in
    ap (λ n. drop n (take (suc i) text)) (line_start-suc text i)
    ∙ elim (is_feed text i) as (λ b. drop (cond b (suc i) (line_start text i)) (take (suc i) text) ≡ cond b [] (drop (line_start text i) (take i text) ++ get_or text i 0 ∷ [])) [
      | true ↦ drop_all (suc i) (take (suc i) text) (omega arith)
      | false ↦ ap (drop (line_start text i)) whole ∙ drop-append-le (line_start text i) (take i text) (get_or text i 0 ∷ []) (omega arith)
    ]

-- the number of the next place's line
pub line_number-suc : (text : List ℕ) (i : ℕ) → line_number text (suc i) ≡ cond (is_feed text i) (line_number text i + 1) (line_number text i)
unfolding line_number
line_number-suc text zero =
    ap (λ n. 1 + n) (count_up_to-zero (is_feed text)) ∙ elim (is_feed text 0) as (λ b. 1 + cond b 1 0 ≡ cond {A = ℕ} b 2 1) [ true ↦ refl | false ↦ refl ]
line_number-suc text (suc i) =
    ap (λ n. 1 + n) (count_up_to-suc (is_feed text) i) ∙ elim (is_feed text (suc i)) as (λ b. 1 + cond b (count_up_to (is_feed text) i + 1) (count_up_to (is_feed text) i) ≡ cond b ((1 + count_up_to (is_feed text) i) + 1) (1 + count_up_to (is_feed text) i)) [ true ↦ omega arith | false ↦ refl ]

-- a signal that held before the next place holds at this one or held before it
pub ended-suc : (p : Signal) (i : ℕ) → previous (once p) (suc i) ≡ (p i || previous (once p) i)
unfolding previous once
ended-suc p zero = elim (p 0) as (λ b. b ≡ (b || false)) [ true ↦ refl | false ↦ refl ]
ended-suc p (suc i) = refl

-- ---- the events of the lines before a place

unfoldable pub said : List ℕ → ℕ → List Event
said text n =
    filter (λ e. not (is_end_event e)) (filter_map (λ i. event_of (line_before text i)) (filter (is_feed text) (below n)))

-- what a line adds to the events
unfoldable pub line_events : List ℕ → List Event
line_events line = filter (λ e. not (is_end_event e)) (option_to_list (event_of line))

pub said-zero : (text : List ℕ) → said text 0 ≡ []
unfolding said below
said-zero text = refl

picked-one : (f : ℕ → Option Event) (n : ℕ) (b : Bool) → filter (λ e. not (is_end_event e)) (filter_map f (cond b (n ∷ []) [])) ≡ cond b (filter (λ e. not (is_end_event e)) (option_to_list (f n))) []
picked-one f n true = elim (f n) as (λ o. filter (λ e. not (is_end_event e)) (cons_option o []) ≡ filter (λ e. not (is_end_event e)) (option_to_list o)) [ Some e ↦ refl | None ↦ refl ]
picked-one f n false = refl

pub said-suc : (text : List ℕ) (n : ℕ) → said text (suc n) ≡ said text n ++ cond (is_feed text n) (line_events (line_before text n)) []
unfolding said below line_events
said-suc text n =
    let keep : Event → Bool = λ e. not (is_end_event e) in
    let f : ℕ → Option Event = λ i. event_of (line_before text i) in
    ap (λ l. filter keep (filter_map f l)) (filter-append (is_feed text) (below n) (n ∷ []))
    ∙ ap (filter keep) (filter_map-append f (filter (is_feed text) (below n)) (filter (is_feed text) (n ∷ [])))
    ∙ filter-append keep (filter_map f (filter (is_feed text) (below n))) (filter_map f (filter (is_feed text) (n ∷ [])))
    ∙ ap (λ l. filter keep (filter_map f (filter (is_feed text) (below n))) ++ l) (picked-one f n (is_feed text n))

-- the bytes from a place on don't matter to the events before it
pub said-prefix : (text more : List ℕ) (n : ℕ) → n ≤ length text → said (text ++ more) n ≡ said text n
said-prefix text more zero within = said-zero (text ++ more) ∙ sym (said-zero text)
said-prefix text more (suc n) within =
    let earlier = said-prefix text more n (omega arith) in
    let feed = is_feed-prefix text more n within in
    let line = line_before-prefix text more n (omega arith) in
    cc (said-suc (text ++ more) n, said-suc text n)
