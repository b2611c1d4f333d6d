-- What a written name or number is read as: its token, and no flaw.
use Rattle.std.proofs.Common.{◌≡◌, ℕ, ◌+◌, ◌-◌, ◌^◌, ◌<◌, ◌≤◌, Bool, true, false, leb, List, [], ◌∷◌, ◌++◌, length, take, drop, Option, Some, ℤ, pos, negsuc, refl, sym, ◌∙◌, ap, arith, append_assoc, drop-drop, unwrap_or}
use Rattle.std.specs.Prelude.{codes, decimal, neg_ℤ, int_le, is_some}
use Rattle.std.specs.Fmt.{signed_decimal}
use Rattle.std.proofs.lemmas.Bool.{and_parts, and_from, le-leb, leb-true}
use Rattle.std.proofs.lemmas.List.{take_at, drop_at}
use Rattle.ecam_spec.specs.Book.{Text, discrete}
use Rattle.ecam_spec.specs.declared.terms.Span.{Span}
use Rattle.ecam_spec.specs.declared.terms.Reserved.{Reserved}
use Rattle.ecam_spec.specs.declared.terms.Token.TheVariants.{Number}
use Rattle.ecam_spec.specs.Token.{bytes_of}
use Rattle.ecam_spec.specs.TermText.{TermNames, Flaw, unknown_name, out_of_range, name_place, tree_of_name, amount, name_flaw, number_flaw}
use Rattle.ecam_spec.specs.TermNumber.{is_within, magnitude, value}
use Rattle.term_text.specs.Written.{name_at, enclosed}
use Rattle.term_text.proofs.DecimalTexts.{magnitude-decimal, value-decimal, value-negative}
use Rattle.term_text.proofs.PieceReads.{Ended, word_text, number_reads, negative_reads}
use Rattle.term_text.proofs.NamesAlone.{stands_for_parameter}
use Rattle.term_text.specs.Readable.{IsKnownName, IsComparable}

-- the span of a piece at a place
abbrev pub span_of : ℕ → Text → Span
span_of at piece = record { at = at; end = at + length piece }

pub none_at_all : {X : Type 0} (a b : List X) → a ≡ [] → b ≡ [] → a ++ b ≡ []
none_at_all a b e f = ap (λ x. x ++ b) e ∙ f

pub within_range : (low n high : ℕ) → low ≤ n → n ≤ high → is_within (pos low) (pos high) (pos n) ≡ true
within_range low n high above below = and_from (leb low n) (leb n high) (le-leb low n above) (le-leb n high below)

-- ---- signed numbers

pub low_bound : (n : ℕ) → IsComparable (negsuc n) → n ≤ 999999
low_bound n small = leb-true n 999999 (and_parts (leb n 999999) (int_le (negsuc n) (pos 1000000)) small).0

pub high_bound : (n : ℕ) → IsComparable (pos n) → n ≤ 1000000
high_bound n small = leb-true n 1000000 (and_parts (int_le (neg_ℤ (pos 1000000)) (pos n)) (leb n 1000000) small).1

pub signed_reads : (at : ℕ) (x : ℤ) → IsComparable x → Ended at (signed_decimal x) (Number (span_of at (signed_decimal x)) ∷ [])
signed_reads at (pos n) small = let within = high_bound n small in number_reads at n (omega arith)
signed_reads at (negsuc n) small = let within = low_bound n small in negative_reads at n (omega arith)

pub signed_value : (x : ℤ) → IsComparable x → value (signed_decimal x) ≡ x
signed_value (pos n) small = let within = high_bound n small in value-decimal n (omega arith)
signed_value (negsuc n) small = let within = low_bound n small in value-negative n (omega arith)

-- ---- in a text

module _ (text : Text) where
  -- from a place on the text is this
  abbrev pub Stands : ℕ → Text → Type 0
  Stands at rest = drop at text ≡ rest

module _ (text : Text) where
  -- the last piece goes to the rest
  pub front : (at : ℕ) (p q rest : Text) → Stands text at (p ++ q ++ rest) → Stands text at (p ++ (q ++ rest))
  front at p q rest h = h ∙ append_assoc p q rest

  -- behind the first piece
  pub behind : (at : ℕ) (p rest : Text) → Stands text at (p ++ rest) → Stands text (at + length p) rest
  behind at p rest h = sym (drop-drop (length p) at text) ∙ ap (drop (length p)) h ∙ drop_at p rest (length p) refl

  -- within brackets
  pub inside : (at : ℕ) (w : Reserved) (inner rest : Text) → Stands text at (enclosed (word_text w ++ codes "(") inner ++ rest)
      → Stands text (at + length (word_text w ++ codes "(")) (inner ++ (codes ")" ++ rest))
  inside at w inner rest h =
      let first = front at (word_text w ++ codes "(" ++ inner) (codes ")") rest h in
      behind at (word_text w ++ codes "(") (inner ++ (codes ")" ++ rest)) (front at (word_text w ++ codes "(") inner (codes ")" ++ rest) first)

  pub bytes_here : (at : ℕ) (p rest : Text) → Stands text at (p ++ rest) → bytes_of text (span_of at p) ≡ p
  bytes_here at p rest h =
      let e : at + length p - at ≡ length p = omega arith in
      ap (λ (n : ℕ). take n (drop at text)) e ∙ ap (take (length p)) h ∙ take_at p rest (length p) refl

module _ (names : TermNames) (text : Text) where
  pub known_flaw : (list : List Text) (p at : ℕ) (rest : Text) → IsKnownName list p → Stands text at (name_at list p ++ rest) → name_flaw names text list (span_of at (name_at list p)) ≡ []
  unfolding name_flaw
  known_flaw list p at rest known h =
      ap (λ (t : Text). elim (is_some (name_place list t)) as (λ v. List Flaw) [ true ↦ [] | false ↦ unknown_name at ∷ [] ]) (bytes_here text at (name_at list p) rest h)
      ∙ ap (λ (o : Option ℕ). elim (is_some o) as (λ v. List Flaw) [ true ↦ [] | false ↦ unknown_name at ∷ [] ]) known.first

  pub known_place : (list : List Text) (p at : ℕ) (rest : Text) → IsKnownName list p → Stands text at (name_at list p ++ rest) → unwrap_or (name_place list (bytes_of text (span_of at (name_at list p)))) 0 ≡ p
  known_place list p at rest known h =
      ap (λ (t : Text). unwrap_or (name_place list t) 0) (bytes_here text at (name_at list p) rest h) ∙ ap (λ (o : Option ℕ). unwrap_or o 0) known.first

  -- the name of a parameter, by itself
  pub name_stands : (p at : ℕ) (rest : Text) → IsKnownName names.parameters p → Stands text at (name_at names.parameters p ++ rest) → tree_of_name names text (span_of at (name_at names.parameters p)) ≡ Some (discrete p)
  name_stands p at rest known h =
      stands_for_parameter names text (span_of at (name_at names.parameters p)) p
      (ap (name_place names.parameters) (bytes_here text at (name_at names.parameters p) rest h) ∙ known.first)

  pub value_flaw : (low high z : ℤ) (at : ℕ) (p rest : Text) → value p ≡ z → is_within low high z ≡ true → Stands text at (p ++ rest) → number_flaw names text low high (span_of at p) ≡ []
  unfolding number_flaw
  value_flaw low high z at p rest is within h =
      ap (λ (t : Text). elim (is_within low high (value t)) as (λ v. List Flaw) [ true ↦ [] | false ↦ out_of_range at ∷ [] ]) (bytes_here text at p rest h)
      ∙ ap (λ (x : ℤ). elim (is_within low high x) as (λ v. List Flaw) [ true ↦ [] | false ↦ out_of_range at ∷ [] ]) is
      ∙ ap (λ (b : Bool). elim b as (λ v. List Flaw) [ true ↦ [] | false ↦ out_of_range at ∷ [] ]) within

  pub decimal_flaw : (low high n at : ℕ) (rest : Text) → low ≤ n → n ≤ high → n < 2 ^ 64 → Stands text at (decimal n ++ rest) → number_flaw names text (pos low) (pos high) (span_of at (decimal n)) ≡ []
  decimal_flaw low high n at rest above below fits h =
      value_flaw (pos low) (pos high) (pos n) at (decimal n) rest (value-decimal n fits) (within_range low n high above below) h

  pub decimal_amount : (n at : ℕ) (rest : Text) → n < 2 ^ 64 → Stands text at (decimal n ++ rest) → amount names text (span_of at (decimal n)) ≡ n
  decimal_amount n at rest fits h = ap magnitude (bytes_here text at (decimal n) rest h) ∙ magnitude-decimal n fits
