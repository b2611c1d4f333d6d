-- The numbers of a line, against the lists of numbers that its form allows.
use Rattle.std.proofs.Common.{◌≡◌, ℕ, zero, suc, ◌+◌, ◌*◌, ◌<◌, Bool, true, false, ◌&&◌, List, [], ◌∷◌, ◌++◌, length, get_or, take, drop, Option, Some, None, cond, eqb, refl, sym, ◌∙◌, ap, arith, inl, inr}
use Rattle.std.proofs.lemmas.Bool.{eqb-true, and_parts, cases_eq, ne_eqb, false≢true, false_from_ne_true}
use Rattle.std.proofs.lemmas.Option.{same_Some}
use Rattle.std.proofs.lemmas.Slice.Eq.{bytes_eq-Decides}
use Rattle.std.proofs.lemmas.List.Folds.{find-append}
use Rattle.std.proofs.lemmas.List.{take-append-drop, get_or-drop, get_or-map}
use Rattle.std.specs.Option.{option_or}
use Rattle.std.specs.Prelude.{find, map, decimal, codes, option_map}
use Rattle.std.specs.Fmt.{digits}
use Rattle.std.specs.Str.{bytes_eq}
use Rattle.std.proofs.Math.Bool.{and-false}
use Rattle.ecam_spec.specs.declared.kinds.Key.{Key}
use Rattle.ecam_spec.specs.declared.kinds.Key.TheVariants.{Clr, Rcl, Sts, All, Emer, ToCfg, Mw, Mc, Page}
use Rattle.ecam_spec.specs.Places.{below}
use Rattle.ecam_spec.specs.RecordLine.{bus_of, computer_of, key_of, key_words}
use Rattle.record_lines.specs.Line.{number_within, named_key_of, worth}

-- ---- two functions that agree at each number below a bound, by computing

same_option : Option ℕ → Option ℕ → Bool
same_option (Some a) (Some b) = eqb a b
same_option None None = true
same_option _ _ = false

same_option-true : (o p : Option ℕ) → same_option o p ≡ true → o ≡ p
unfolding same_option
same_option-true (Some a) (Some b) same = ap Some (eqb-true a b same)
same_option-true (Some a) None same = absurd (false≢true same)
same_option-true None (Some b) same = absurd (false≢true same)
same_option-true None None same = refl

options_agree : (ℕ → Option ℕ) → (ℕ → Option ℕ) → ℕ → Bool
options_agree f g zero = true
options_agree f g (suc n) = same_option (f n) (g n) && options_agree f g n

options_agree-at : (f g : ℕ → Option ℕ) (n k : ℕ) → options_agree f g n ≡ true → k < n → f k ≡ g k
unfolding options_agree
options_agree-at f g zero k same within = absurd (omega arith)
options_agree-at f g (suc n) k same within =
    let parts = and_parts (same_option (f n) (g n)) (options_agree f g n) same in
    elim (cases_eq k n) [
      | inl here ↦ rw here (same_option-true (f n) (g n) parts.0)
      | inr other ↦ options_agree-at f g n k parts.1 (omega arith)
    ]

-- ---- the three lists

-- each byte is below 256
abbrev pub AreBytes : List ℕ → Type 0
AreBytes word = (k : ℕ) → k < length word → get_or word k 0 < 256

bus-one : options_agree (λ d. bus_of (d ∷ [])) (λ d. number_within 0 15 (d ∷ [])) 256 ≡ true
unfolding options_agree same_option bus_of below digits
bus-one = refl

bus-two : options_agree (λ d. bus_of (49 ∷ d ∷ [])) (λ d. number_within 0 15 (49 ∷ d ∷ [])) 256 ≡ true
unfolding options_agree same_option bus_of below digits
bus-two = refl

pub bus_of-within : (word : List ℕ) → AreBytes word → bus_of word ≡ number_within 0 15 word
unfolding bus_of below digits
bus_of-within [] bytes = refl
bus_of-within (d ∷ []) bytes = options_agree-at (λ d. bus_of (d ∷ [])) (λ d. number_within 0 15 (d ∷ [])) 256 d bus-one (bytes 0 (omega arith))
bus_of-within (t ∷ d ∷ []) bytes =
    elim (cases_eq t 49) [
      | inl one ↦ rw one (options_agree-at (λ d. bus_of (49 ∷ d ∷ [])) (λ d. number_within 0 15 (49 ∷ d ∷ [])) 256 d bus-two (bytes 1 (omega arith)))
      | inr other ↦ let no_one = ne_eqb t 49 other in simp (and-false, no_one) refl
    ]
bus_of-within (t ∷ d ∷ e ∷ more) bytes = simp and-false refl

computer-one : options_agree (λ d. computer_of (d ∷ [])) (λ d. number_within 1 2 (d ∷ [])) 256 ≡ true
unfolding options_agree same_option computer_of
computer-one = refl

computer-two : options_agree (λ d. computer_of (49 ∷ d ∷ [])) (λ d. number_within 1 2 (49 ∷ d ∷ [])) 256 ≡ true
unfolding options_agree same_option computer_of
computer-two = refl

pub computer_of-within : (word : List ℕ) → AreBytes word → computer_of word ≡ number_within 1 2 word
unfolding computer_of
computer_of-within [] bytes = refl
computer_of-within (d ∷ []) bytes = options_agree-at (λ d. computer_of (d ∷ [])) (λ d. number_within 1 2 (d ∷ [])) 256 d computer-one (bytes 0 (omega arith))
computer_of-within (t ∷ d ∷ []) bytes =
    elim (cases_eq t 49) [
      | inl one ↦ rw one (options_agree-at (λ d. computer_of (49 ∷ d ∷ [])) (λ d. number_within 1 2 (49 ∷ d ∷ [])) 256 d computer-two (bytes 1 (omega arith)))
      | inr other ↦ let no_one = ne_eqb t 49 other in simp (and-false, no_one) refl
    ]
computer_of-within (t ∷ d ∷ e ∷ more) bytes = simp and-false refl

-- a page's number, 1 to 16
unfoldable pub page_of : List ℕ → Option ℕ
page_of word = find (λ n. bytes_eq word (decimal n)) (map (λ i. i + 1) (below 16))

page-one : options_agree (λ d. page_of (d ∷ [])) (λ d. number_within 1 16 (d ∷ [])) 256 ≡ true
unfolding options_agree same_option page_of below digits
page-one = refl

page-two : options_agree (λ d. page_of (49 ∷ d ∷ [])) (λ d. number_within 1 16 (49 ∷ d ∷ [])) 256 ≡ true
unfolding options_agree same_option page_of below digits
page-two = refl

page_of-within : (word : List ℕ) → AreBytes word → page_of word ≡ number_within 1 16 word
unfolding page_of below digits
page_of-within [] bytes = refl
page_of-within (d ∷ []) bytes = options_agree-at (λ d. page_of (d ∷ [])) (λ d. number_within 1 16 (d ∷ [])) 256 d page-one (bytes 0 (omega arith))
page_of-within (t ∷ d ∷ []) bytes =
    elim (cases_eq t 49) [
      | inl one ↦ rw one (options_agree-at (λ d. page_of (49 ∷ d ∷ [])) (λ d. number_within 1 16 (49 ∷ d ∷ [])) 256 d page-two (bytes 1 (omega arith)))
      | inr other ↦ let no_one = ne_eqb t 49 other in simp (and-false, no_one) refl
    ]
page_of-within (t ∷ d ∷ e ∷ more) bytes = simp and-false refl

-- ---- the keys

named_cond : (b : Bool) (k : List ℕ × Key) (rest : Option (List ℕ × Key)) (more : Option Key) → option_map (λ x. x.1) rest ≡ more → option_map (λ x. x.1) (cond b (Some k) rest) ≡ cond b (Some k.1) more
named_cond true k rest more same = refl
named_cond false k rest more same = same

-- a key that is found by a number
key-cond : (b : Bool) (text : List ℕ) (key : Key) (n : ℕ) (rest : Option (List ℕ × Key)) (numbers : Option ℕ) → key ≡ Page n → option_map (λ k. k.1) rest ≡ option_map Page numbers
    → option_map (λ k. k.1) (cond b (Some (text, key)) rest) ≡ option_map Page (cond b (Some n) numbers)
key-cond true text key n rest numbers same later = ap Some same
key-cond false text key n rest numbers same later = later

-- the keys of pages, by their numbers
page_entries : List ℕ → List (List ℕ × Key)
page_entries ns = map (λ n. (codes "PG" ++ decimal n, Page n)) ns

-- a word and its key
abbrev key_at : List ℕ × Key → Key
key_at k = k.1

page_keys : (word : List ℕ) (ns : List ℕ) → option_map key_at (find (λ k. bytes_eq (80 ∷ 71 ∷ word) k.0) (page_entries ns)) ≡ option_map Page (find (λ n. bytes_eq word (decimal n)) ns)
unfolding page_entries
page_keys word [] = refl
page_keys word (n ∷ ns) = key-cond (bytes_eq word (decimal n)) (codes "PG" ++ decimal n) (Page n) n _ _ refl (page_keys word ns)

-- after the letters of a page's key the number decides
pub key_of-page : (word : List ℕ) → AreBytes word → key_of (80 ∷ 71 ∷ word) ≡ option_map Page (number_within 1 16 word)
unfolding key_of key_words below page_of page_entries
key_of-page word bytes = page_keys word (map (λ i. i + 1) (below 16)) ∙ ap (option_map Page) (page_of-within word bytes)

-- no page's key begins otherwise
other_keys : (word : List ℕ) (ns : List ℕ) → bytes_eq (take 2 word) (codes "PG") ≡ false → find (λ k. bytes_eq word k.0) (page_entries ns) ≡ None
unfolding page_entries
other_keys word [] other = refl
other_keys word (n ∷ ns) other =
    let apart : bytes_eq word (codes "PG" ++ decimal n) ≡ false =
    false_from_ne_true (bytes_eq word (codes "PG" ++ decimal n)) (λ same.
    let is : word ≡ codes "PG" ++ decimal n = (bytes_eq-Decides word (codes "PG" ++ decimal n)).0 same in
    let begins : bytes_eq (take 2 word) (codes "PG") ≡ true = ap (λ w. bytes_eq (take 2 w) (codes "PG")) is in
    false≢true (sym other ∙ begins)) in
    ap (λ b. cond b (Some (codes "PG" ++ decimal n, Page n)) (find (λ k. bytes_eq word k.0) (page_entries ns))) apart ∙ other_keys word ns other

option_or-None : {X : Type 0} (o : Option X) → option_or o None ≡ o
option_or-None (Some x) = refl
option_or-None None = refl

-- a word that doesn't begin as a page's key
pub key_of-named : (word : List ℕ) → bytes_eq (take 2 word) (codes "PG") ≡ false → key_of word ≡ named_key_of word
unfolding key_of named_key_of key_words below page_entries
key_of-named word other =
    let p : List ℕ × Key → Bool = λ k. bytes_eq word k.0 in
    ap (option_map key_at) (find-append p (take 8 key_words) (page_entries (map (λ i. i + 1) (below 16))))
    ∙ ap (λ o. option_map key_at (option_or (find p (take 8 key_words)) o)) (other_keys word (map (λ i. i + 1) (below 16)) other)
    ∙ ap (option_map key_at) (option_or-None (find p (take 8 key_words)))

-- the other keys, by eight tests
pub named_cases : (word : List ℕ) → named_key_of word
    ≡ cond (bytes_eq word (codes "CLR")) (Some Clr) (cond (bytes_eq word (codes "RCL")) (Some Rcl)
    (cond (bytes_eq word (codes "STS")) (Some Sts) (cond (bytes_eq word (codes "ALL")) (Some All)
    (cond (bytes_eq word (codes "EMER")) (Some Emer) (cond (bytes_eq word (codes "TOCFG")) (Some ToCfg)
    (cond (bytes_eq word (codes "MW")) (Some Mw) (cond (bytes_eq word (codes "MC")) (Some Mc) None)))))))
unfolding named_key_of key_words
named_cases word =
    named_cond (bytes_eq word (codes "CLR")) _ _ _ (named_cond (bytes_eq word (codes "RCL")) _ _ _
    (named_cond (bytes_eq word (codes "STS")) _ _ _ (named_cond (bytes_eq word (codes "ALL")) _ _ _
    (named_cond (bytes_eq word (codes "EMER")) _ _ _ (named_cond (bytes_eq word (codes "TOCFG")) _ _ _
    (named_cond (bytes_eq word (codes "MW")) _ _ _ (named_cond (bytes_eq word (codes "MC")) _ _ _ refl)))))))

-- a word that begins as a page's key
pub key_of-prefix : (word number : List ℕ) → bytes_eq (take 2 word) (codes "PG") ≡ true → number ≡ drop 2 word → AreBytes word → key_of word ≡ option_map Page (number_within 1 16 number)
key_of-prefix word number begins is bytes =
    let letters : take 2 word ≡ codes "PG" = (bytes_eq-Decides (take 2 word) (codes "PG")).0 begins in
    let whole : word ≡ 80 ∷ 71 ∷ number = sym (take-append-drop 2 word) ∙ ap (λ l. l ++ drop 2 word) letters ∙ ap (λ l. 80 ∷ 71 ∷ l) (sym is) in
    let len = ap length whole in
    ap key_of whole
    ∙ key_of-page number (λ k h.
    let known : get_or word (2 + k) 0 < 256 = bytes (2 + k) (omega arith) in
    let read : get_or word (2 + k) 0 ≡ get_or number k 0 = sym (get_or-drop 2 word k 0) ∙ ap (λ l. get_or l k 0) (sym is) in
    omega arith)

-- ---- what each byte is worth as a hexadecimal digit at a place

below-all : options_agree (λ c. Some (get_or (below 256) c 0)) (λ c. Some c) 256 ≡ true
unfolding options_agree same_option below
below-all = refl

below-long : length (below 256) ≡ 256
unfolding below
below-long = refl

below_at : (c : ℕ) → c < 256 → get_or (below 256) c 0 ≡ c
below_at c small = same_Some (get_or (below 256) c 0) c (options_agree-at (λ c. Some (get_or (below 256) c 0)) (λ c. Some c) 256 c below-all small)

pub worth_at : (place c : ℕ) → c < 256 → get_or (map (λ d. place * worth d) (below 256)) c 0 ≡ place * worth c
worth_at place c small = get_or-map (λ d. place * worth d) (below 256) c 0 0 (let long = below-long in omega arith) ∙ ap (λ d. place * worth d) (below_at c small)
