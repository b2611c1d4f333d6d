-- The text of a moment, and of moments in a row.
use Rattle.std.proofs.Common.{◌≡◌, ℕ, zero, suc, ◌+◌, ◌-◌, ◌*◌, ◌%◌, ◌<◌, ◌≤◌, List, [], ◌∷◌, ◌++◌, length, refl, sym, ◌∙◌, ap, arith, append-nil, append_assoc, add-zero}
use Rattle.std.proofs.lemmas.List.Concat.{flat_map-append}
use Rattle.std.proofs.lemmas.Fmt.{decimal_digit}
use Rattle.std.specs.Prelude.{codes, flat_map}
use Rattle.ecam_spec.specs.Book.{Text}
use Rattle.ecam_spec.specs.Output.{line}
use Rattle.ecam_spec.specs.Places.{below}
use Rattle.record_maker.specs.Draws.{draw_after, draw}
use Rattle.record_maker.specs.Words.{flags_word, drawn_word}
use Rattle.record_maker.specs.Lines.{word_digits, word_line, key_lines, computer_lines, moment_lines}
use Rattle.record_maker.specs.Record.{text_of, moments}
use Rattle.record_maker.proofs.Texts.{text_of-cons, text_of-one, text_of-append}

-- ---- one moment

-- the line of a word on a bus of one digit
pub word_line-bytes : (old one two now digits : List ℕ) (bus word : ℕ) → bus < 10 → one ≡ old ++ 87 ∷ 32 ∷ (48 + bus) ∷ 32 ∷ [] → digits ≡ word_digits word → two ≡ one ++ digits → now ≡ two ++ 10 ∷ []
    → now ≡ old ++ line (word_line bus word)
unfolding word_line
word_line-bytes old one two now digits bus word small first same second third =
    let begin : List ℕ = 87 ∷ 32 ∷ (48 + bus) ∷ 32 ∷ [] in
    third ∙ ap (λ l. l ++ 10 ∷ []) (second ∙ ap (λ l. l ++ digits) first ∙ append_assoc old begin digits) ∙ append_assoc old (begin ++ digits) (10 ∷ [])
    ∙ ap (λ d. old ++ ((begin ++ d) ++ 10 ∷ [])) same
    ∙ ap (λ n. old ++ (((87 ∷ 32 ∷ n) ++ 32 ∷ word_digits word) ++ 10 ∷ [])) (sym (decimal_digit bus small))

pub draw-three : (s one two three : ℕ) → one ≡ draw_after s → two ≡ draw_after one → three ≡ draw_after two → (one ≡ draw s 1) × (two ≡ draw s 2) × (three ≡ draw s 3)
unfolding draw
draw-three s one two three first second third =
    (first, second ∙ ap draw_after first, third ∙ ap draw_after (second ∙ ap draw_after first))

pub moment_text : (m s : ℕ) (old a b c d now : List ℕ) → old ≡ [] → a ≡ old ++ line (word_line 0 (flags_word m)) → b ≡ a ++ line (word_line (1 + draw s 1 % 3) (drawn_word (draw s 1)))
    → c ≡ b ++ text_of (key_lines (draw s 2)) → d ≡ c ++ text_of (computer_lines (draw s 3)) → now ≡ d ++ line (codes "T") → now ≡ text_of (moment_lines m s)
unfolding moment_lines
moment_text m s old a b c d now none first second third fourth fifth =
    let one : Text = word_line 0 (flags_word m) in
    let two : Text = word_line (1 + draw s 1 % 3) (drawn_word (draw s 1)) in
    let keys = key_lines (draw s 2) in
    let computers = computer_lines (draw s 3) in
    let tick : List Text = codes "T" ∷ [] in
    let begin : text_of (one ∷ two ∷ keys) ≡ line one ++ (line two ++ text_of keys) = text_of-cons one (two ∷ keys) ∙ ap (λ t. line one ++ t) (text_of-cons two keys) in
    let lines_are : text_of (((one ∷ two ∷ keys) ++ computers) ++ tick) ≡ ((line one ++ (line two ++ text_of keys)) ++ text_of computers) ++ line (codes "T") =
    text_of-append ((one ∷ two ∷ keys) ++ computers) tick
    ∙ ap (λ t. t ++ text_of tick) (text_of-append (one ∷ two ∷ keys) computers ∙ ap (λ t. t ++ text_of computers) begin)
    ∙ ap (λ t. ((line one ++ (line two ++ text_of keys)) ++ text_of computers) ++ t) (text_of-one (codes "T")) in
    let a_is : a ≡ line one = first ∙ ap (λ l. l ++ line one) none in
    let c_is : c ≡ line one ++ (line two ++ text_of keys) = third ∙ ap (λ l. l ++ text_of keys) (second ∙ ap (λ l. l ++ line two) a_is) ∙ append_assoc (line one) (line two) (text_of keys) in
    fifth ∙ ap (λ l. l ++ line (codes "T")) (fourth ∙ ap (λ l. l ++ text_of computers) c_is) ∙ sym lines_are

-- it has some bytes
pub some_bytes : (m s : ℕ) → 0 < length (text_of (moment_lines m s))
unfolding moment_lines text_of word_line
some_bytes m s = omega arith

-- ---- moments in a row

flat_map-below : {A : Type 0} (f g : ℕ → List A) (n : ℕ) → ((i : ℕ) → f (suc i) ≡ g i) → flat_map f (below (suc n)) ≡ f 0 ++ flat_map g (below n)
unfolding below
flat_map-below f g zero same = refl
flat_map-below f g (suc n) same =
    flat_map-append f (below n ++ n ∷ []) (suc n ∷ [])
    ∙ ap (λ l. l ++ flat_map f (suc n ∷ [])) (flat_map-below f g n same)
    ∙ append_assoc (f 0) (flat_map g (below n)) (flat_map f (suc n ∷ []))
    ∙ ap (λ l. f 0 ++ (flat_map g (below n) ++ (l ++ []))) (same n)
    ∙ ap (λ l. f 0 ++ l) (sym (flat_map-append g (below n) (n ∷ [])))

draw-add : (s n m : ℕ) → draw s (n + m) ≡ draw (draw s n) m
unfolding draw
draw-add s n zero = ap (draw s) (add-zero n)
draw-add s n (suc m) = ap (draw s) (let e : n + suc m ≡ suc (n + m) = omega arith in e) ∙ ap draw_after (draw-add s n m)

pub moments-next : (m s n : ℕ) → moments m s (suc n) ≡ text_of (moment_lines m s) ++ moments (m + 1) (draw s 3) n
unfolding moments draw
moments-next m s n =
    flat_map-below _ (λ i. text_of (moment_lines ((m + 1) + i) (draw (draw s 3) (3 * i)))) n
    (λ i. ap (λ k. text_of (moment_lines k (draw s (3 * suc i)))) (let e : m + suc i ≡ (m + 1) + i = omega arith in e)
    ∙ ap (λ k. text_of (moment_lines ((m + 1) + i) k)) (ap (draw s) (let e : 3 * suc i ≡ 3 + 3 * i = omega arith in e) ∙ draw-add s 3 (3 * i)))
    ∙ ap (λ k. text_of (moment_lines k s) ++ flat_map (λ i. text_of (moment_lines ((m + 1) + i) (draw (draw s 3) (3 * i)))) (below n)) (add-zero m)

pub moments-none : (m s : ℕ) → moments m s 0 ≡ []
unfolding moments below
moments-none m s = refl

-- ---- what is left

-- the next moment was made
pub left-moment : (m s count draw_now : ℕ) (lines rest end : List ℕ) → m < count → lines ≡ text_of (moment_lines m s) → draw_now ≡ draw s 3 → rest ≡ []
    → lines ++ (moments (m + 1) draw_now (count - (m + 1)) ++ end) ≡ rest ++ (moments m s (count - m) ++ end)
left-moment m s count draw_now lines rest end more lines-is draw-is none =
    let one : count - m ≡ suc (count - (m + 1)) = omega arith in
    let later : List ℕ = moments (m + 1) (draw s 3) (count - (m + 1)) in
    ap (λ l. l ++ (moments (m + 1) draw_now (count - (m + 1)) ++ end)) lines-is
    ∙ ap (λ d. text_of (moment_lines m s) ++ (moments (m + 1) d (count - (m + 1)) ++ end)) draw-is
    ∙ sym (append_assoc (text_of (moment_lines m s)) later end)
    ∙ ap (λ l. l ++ end) (sym (ap (moments m s) one ∙ moments-next m s (count - (m + 1))))
    ∙ ap (λ l. l ++ (moments m s (count - m) ++ end)) (sym none)

-- the line that ends the record was made
pub left-end : (m s count : ℕ) (lines rest end : List ℕ) → count ≤ m → lines ≡ end → rest ≡ []
    → lines ++ (moments m s (count - m) ++ []) ≡ rest ++ (moments m s (count - m) ++ end)
left-end m s count lines rest end over lines-is none =
    let zero : count - m ≡ 0 = omega arith in
    let over : moments m s (count - m) ≡ [] = ap (moments m s) zero ∙ moments-none m s in
    rw (over, none) (append-nil lines ∙ lines-is)

-- nothing was made
pub left-none : (m s count : ℕ) (lines : List ℕ) → count ≤ m → lines ≡ [] → lines ++ (moments m s (count - m) ++ []) ≡ []
left-none m s count lines over none =
    let zero : count - m ≡ 0 = omega arith in
    let over : moments m s (count - m) ≡ [] = ap (moments m s) zero ∙ moments-none m s in
    rw (over, none) refl
