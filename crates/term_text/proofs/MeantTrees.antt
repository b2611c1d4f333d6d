-- A tree that some text means is readable, and is neither too deep nor too large.
use Rattle.std.proofs.Common.{◌≡◌, ℕ, zero, suc, ◌-◌, ◌^◌, ◌<◌, ◌≤◌, Bool, true, false, leb, List, [], ◌∷◌, ◌++◌, map, length, slice_get, Option, Some, None, ℤ, pos, refl, ◌∙◌, ap, subst, arith, unwrap_or}
use Rattle.std.specs.Prelude.{neg_ℤ, is_some, fold, bit_or, option_map, option_and_then}
use Rattle.std.specs.Option.{option_or}
use Rattle.std.specs.List.{All, flat_map, position_from}
use Rattle.std.specs.Str.{bytes_eq}
use Rattle.std.proofs.lemmas.Bool.{and_parts, leb-true}
use Rattle.std.proofs.lemmas.Iterator.Adapters.{position_from-zero}
use Rattle.std.proofs.lemmas.List.Quantifiers.{position-Some}
use Rattle.std.proofs.lemmas.List.Elements.{All-map, All-get_or}
use Rattle.std.proofs.lemmas.Option.{slice_get_within, get_or_from_slice_get}
use Rattle.std.proofs.lemmas.Nat.{or_lt, le_or_l, pow_pos, pow_below}
use Rattle.std.proofs.lemmas.Slice.Eq.{bytes_eq-Decides}
use Rattle.ecam_spec.specs.Book.{Text, Tree, NamedTerm, constant, discrete}
use Rattle.ecam_spec.specs.declared.terms.Span.{Span}
use Rattle.ecam_spec.specs.declared.terms.Token.TheVariants.{Number, Comma, Close}
use Rattle.ecam_spec.specs.KeepsLimits.{count_of}
use Rattle.ecam_spec.specs.Token.{bytes_of}
use Rattle.ecam_spec.specs.Grammar.{Form, Forms, truth, name_of, compare_of, valid_of, phase_of, alert_of, press_of, fwc_of, not_of, rise_of, all_of, any_of, at_least_of, conf_of, hold_of, latch_of, no_more, and_then, how_many, spelling, spellings}
use Rattle.ecam_spec.specs.TermSize.{nodes, nodes_of}
use Rattle.ecam_spec.specs.TermText.{TermNames, Flaw, unknown_name, out_of_range, name_place, tree_named, tree_of_name, amount, name_flaw, lone_flaw, number_flaw, phase_flaw, moments_flaw, compared_flaw, flaws, flaws_of_all, tree_of_form, trees_of_forms}
use Rattle.ecam_spec.specs.TermNumber.{is_within, is_negative, magnitude, value, one_phase}
use Rattle.term_text.specs.Written.{name_at}
use Rattle.term_text.specs.Readable.{IsNameWord}
use Rattle.term_text.specs.Readable.{IsKnownName, IsComparable, IsReadable, AreReadable}
use Rattle.term_text.proofs.FineTokens.{AreFine, fine_parts}

none_of : {X : Type 0} (a b : List X) → a ++ b ≡ [] → (a ≡ []) × (b ≡ [])
none_of [] b e = (refl, e)
none_of (x ∷ a) b e = absurd (let f : (x ∷ (a ++ b)) ≡ [] = e in cc)

-- ---- names

known_of : (o : Option ℕ) (at : ℕ) → elim (is_some o) as (λ v. List Flaw) [ true ↦ [] | false ↦ unknown_name at ∷ [] ] ≡ [] → o ≡ Some (unwrap_or o 0)
known_of (Some p) at e = refl
known_of None at e = absurd (let f : (unknown_name at ∷ []) ≡ [] = e in cc)

short_place : (names : List Text) (name : Text) (p : ℕ) (b : Bool) → leb (length name) 24 ≡ b → elim b as (λ v. Option ℕ) [ true ↦ position_from (bytes_eq name) 0 names | false ↦ None ] ≡ Some p
    → (length name ≤ 24) × (position_from (bytes_eq name) 0 names ≡ Some p)
short_place names name p true short e = (leb-true (length name) 24 short, e)
short_place names name p false short e = absurd (let f : None ≡ Some p = e in cc)

known_name : (names : List Text) (name : Text) (p : ℕ) → IsNameWord name → name_place names name ≡ Some p → IsKnownName names p
unfolding name_place
known_name names name p word is =
    let parts = short_place names name p (leb (length name) 24) refl is in
    let found = position-Some (bytes_eq name) names p [] (position_from-zero (bytes_eq name) names ∙ parts.1) in
    let same : name ≡ name_at names p = (bytes_eq-Decides name (name_at names p)).0 found.1 in
    record {
      within = found.0;
      word = subst IsNameWord same word;
      short = subst (λ (t : Text). length t ≤ 24) same parts.0;
      first = subst (λ (t : Text). name_place names t ≡ Some p) same is;
    }

-- ---- numbers

range_of : (b : Bool) (at : ℕ) → elim b as (λ v. List Flaw) [ true ↦ [] | false ↦ out_of_range at ∷ [] ] ≡ [] → b ≡ true
range_of true at e = refl
range_of false at e = absurd (let f : (out_of_range at ∷ []) ≡ [] = e in cc)

natural_range : (low high m : ℕ) → is_within (pos low) (pos high) (pos m) ≡ true → (low ≤ m) × (m ≤ high)
natural_range low high m is = let parts = and_parts (leb low m) (leb m high) is in (leb-true low m parts.0, leb-true m high parts.1)

signed_range : (low high : ℕ) (negative : Bool) (m : ℕ) → is_within (pos low) (pos high) (elim negative as (λ v. ℤ) [ true ↦ neg_ℤ (pos m) | false ↦ pos m ]) ≡ true → (low ≤ m) × (m ≤ high)
signed_range low high false m is = natural_range low high m is
signed_range low high true zero is = natural_range low high 0 is
signed_range low high true (suc m) is = absurd (let e : false ≡ true = is in cc)

amount_range : (low high : ℕ) (t : Text) → is_within (pos low) (pos high) (value t) ≡ true → (low ≤ magnitude t) × (magnitude t ≤ high)
unfolding value
amount_range low high t is = signed_range low high (is_negative t) (magnitude t) is

-- ---- phases

phase_bits : (p : ℕ) → 1 ≤ p → p ≤ 10 → one_phase p < 2 ^ 10
phase_bits p low high = pow_below (p - 1) 10 (omega arith)

module _ (names : TermNames) (text : Text) where
  number_in_range : (low high : ℕ) (n : Span) → number_flaw names text (pos low) (pos high) n ≡ [] → (low ≤ amount names text n) × (amount names text n ≤ high)
  unfolding number_flaw
  number_in_range low high n clean = amount_range low high (bytes_of text n) (range_of (is_within (pos low) (pos high) (value (bytes_of text n))) n.at clean)

  comparable : (n : Span) → compared_flaw names text n ≡ [] → IsComparable (value (bytes_of text n))
  unfolding number_flaw
  comparable n clean = range_of (is_within (neg_ℤ (pos 1000000)) (pos 1000000) (value (bytes_of text n))) n.at clean

  name_known : (list : List Text) (n : Span) → IsNameWord (bytes_of text n) → name_flaw names text list n ≡ [] → IsKnownName list (unwrap_or (name_place list (bytes_of text n)) 0)
  unfolding name_flaw
  name_known list n word clean = known_name list (bytes_of text n) (unwrap_or (name_place list (bytes_of text n)) 0) word (known_of (name_place list (bytes_of text n)) n.at clean)

  phases_in_range : (set : ℕ) (ns : List Span) → 1 ≤ set → set < 2 ^ 10 → flat_map (phase_flaw names text) ns ≡ []
      → (1 ≤ fold (λ s p. bit_or s (one_phase (amount names text p))) set ns) × (fold (λ s p. bit_or s (one_phase (amount names text p))) set ns < 1024)
  phases_in_range set [] some small clean = (some, small)
  phases_in_range set (n ∷ ns) some small clean =
      let parts = none_of (phase_flaw names text n) (flat_map (phase_flaw names text) ns) clean in
      let range = number_in_range 1 10 n parts.0 in
      let bits = phase_bits (amount names text n) range.0 range.1 in
      phases_in_range (bit_or set (one_phase (amount names text n))) ns
      (omega (arith, le_or_l set (one_phase (amount names text n))))
      (or_lt 10 set (one_phase (amount names text n)) small bits) parts.1

  count_of_forms : (fs : Forms) → count_of (trees_of_forms names text fs) ≡ how_many fs
  unfolding tree_of_form
  count_of_forms no_more = refl
  count_of_forms (and_then f fs) = ap suc (count_of_forms fs)

-- ---- names of conditions

-- the tree at a place, if there is one, is readable
tree_there : (names : TermNames) (terms : List NamedTerm) (place : Option ℕ) (c : Tree) → All (λ t. IsReadable names t.tree) terms → option_and_then (slice_get (map (λ (t : NamedTerm). t.tree) terms)) place ≡ Some c → IsReadable names c
tree_there names terms None c are e = absurd cc
tree_there names terms (Some i) c are e =
    let trees = map (λ (t : NamedTerm). t.tree) terms in
    let all_are = All-map (IsReadable names) (λ (t : NamedTerm). t.tree) terms are in
    subst (IsReadable names) (get_or_from_slice_get trees i c c e) (All-get_or (IsReadable names) trees i c (slice_get_within trees i c e) all_are)

module _ (names : TermNames) (text : Text) where
  -- of what a name by itself stands for, a parameter or a condition
  lone_of : (n : Span) (place : Option ℕ) (other : Option Tree) → name_place names.parameters (bytes_of text n) ≡ place → IsNameWord (bytes_of text n) → ((c : Tree) → other ≡ Some c → IsReadable names c)
      → elim (is_some (option_or (option_map (λ p. discrete p) place) other)) as (λ v. List Flaw) [ true ↦ [] | false ↦ unknown_name n.at ∷ [] ] ≡ []
      → IsReadable names (unwrap_or (option_or (option_map (λ p. discrete p) place) other) (constant false))
  unfolding IsReadable
  lone_of n (Some p) other e word are clean = known_name names.parameters (bytes_of text n) p word e
  lone_of n None (Some c) e word are clean = are c refl
  lone_of n None None e word are clean = tt

  lone_readable : (n : Span) → All (λ t. IsReadable names t.tree) names.terms → IsNameWord (bytes_of text n) → lone_flaw names text n ≡ [] → IsReadable names (tree_of_form names text (name_of n))
  unfolding lone_flaw tree_of_name tree_named tree_of_form
  lone_readable n terms word clean =
      let name = bytes_of text n in
      lone_of n (name_place names.parameters name) (tree_named names.terms name) refl word
      (λ c e. tree_there names names.terms (name_place (map (λ (t : NamedTerm). t.name) names.terms) name) c terms e) clean

module _ (names : TermNames) (text : Text) (terms : All (λ t. IsReadable names t.tree) names.terms) where
  -- what is so of a list's parts
  record ListParts (f : Form) (fs : Forms) : Type 0 where
    first : AreFine text (spelling f)
    others : AreFine text (spellings fs)
    first_clean : flaws names text f ≡ []
    others_clean : flaws_of_all names text fs ≡ []

  list_parts : (f : Form) (fs : Forms) → AreFine text (spelling f ++ spellings fs ++ Close ∷ []) → flaws names text f ++ flaws_of_all names text fs ≡ [] → ListParts f fs
  list_parts f fs fine clean =
      let tokens = fine_parts text (spelling f) (spellings fs) (fine_parts text (spelling f ++ spellings fs) (Close ∷ []) fine).0 in
      let parts = none_of (flaws names text f) (flaws_of_all names text fs) clean in
      record { first = tokens.0; others = tokens.1; first_clean = parts.0; others_clean = parts.1 }

  mutual
    unfolding spelling flaws tree_of_form nodes IsReadable

    pub readable : (f : Form) → AreFine text (spelling f) → flaws names text f ≡ [] → nodes (tree_of_form names text f) ≤ 64 → IsReadable names (tree_of_form names text f)
    readable (truth b) fine clean small = tt
    readable (name_of n) fine clean small = lone_readable names text n terms fine.0 clean
    readable (compare_of n op x) fine clean small =
        let parts = none_of (name_flaw names text names.parameters n) (compared_flaw names text x) clean in
        (name_known names text names.parameters n fine.0 parts.0, comparable names text x parts.1)
    readable (valid_of n) fine clean small = name_known names text names.parameters n fine.1.1.0 clean
    readable (phase_of n ns) fine clean small =
        let parts = none_of (phase_flaw names text n) (flat_map (phase_flaw names text) ns) clean in
        let range = number_in_range names text 1 10 n parts.0 in
        phases_in_range names text (one_phase (amount names text n)) ns (pow_pos (amount names text n - 1)) (phase_bits (amount names text n) range.0 range.1) parts.1
    readable (alert_of n) fine clean small = name_known names text names.alerts n fine.1.1.0 clean
    readable (press_of key) fine clean small = fine.1.1.0
    readable (fwc_of n) fine clean small = number_in_range names text 1 2 n clean
    readable (not_of f) fine clean small = readable f (fine_parts text (spelling f) (Close ∷ []) fine.1.1).0 clean (omega arith)
    readable (rise_of f) fine clean small = readable f (fine_parts text (spelling f) (Close ∷ []) fine.1.1).0 clean (omega arith)
    readable (all_of f fs) fine clean small =
        let parts = list_parts f fs fine.1.1 clean in
        (tt, (readable f parts.first parts.first_clean (omega arith), readable_all fs parts.others parts.others_clean (omega arith)))
    readable (any_of f fs) fine clean small =
        let parts = list_parts f fs fine.1.1 clean in
        (tt, (readable f parts.first parts.first_clean (omega arith), readable_all fs parts.others parts.others_clean (omega arith)))
    readable (at_least_of n f fs) fine clean small =
        let parts = none_of (flaws names text f ++ flaws_of_all names text fs) (number_flaw names text (pos 1) (pos (suc (how_many fs))) n) clean in
        let range = number_in_range names text 1 (suc (how_many fs)) n parts.1 in
        let count = count_of_forms names text fs in
        let list = list_parts f fs fine.1.1.1.1 parts.0 in
        (range.0, omega arith, (readable f list.first list.first_clean (omega arith), readable_all fs list.others list.others_clean (omega arith)))
    readable (conf_of f n) fine clean small =
        let parts = none_of (flaws names text f) (moments_flaw names text n) clean in
        ((number_in_range names text 0 36000 n parts.1).1, readable f (fine_parts text (spelling f) (Comma ∷ Number n ∷ Close ∷ []) fine.1.1).0 parts.0 (omega arith))
    readable (hold_of f n) fine clean small =
        let parts = none_of (flaws names text f) (moments_flaw names text n) clean in
        ((number_in_range names text 0 36000 n parts.1).1, readable f (fine_parts text (spelling f) (Comma ∷ Number n ∷ Close ∷ []) fine.1.1).0 parts.0 (omega arith))
    readable (latch_of s r) fine clean small =
        let parts = none_of (flaws names text s) (flaws names text r) clean in
        let tokens = fine_parts text (spelling s) (Comma ∷ spelling r) (fine_parts text (spelling s ++ Comma ∷ spelling r) (Close ∷ []) fine.1.1).0 in
        (readable s tokens.0 parts.0 (omega arith), readable r tokens.1.1 parts.1 (omega arith))

    readable_all : (fs : Forms) → AreFine text (spellings fs) → flaws_of_all names text fs ≡ [] → nodes_of (trees_of_forms names text fs) ≤ 64 → AreReadable names (trees_of_forms names text fs)
    readable_all no_more fine clean small = tt
    readable_all (and_then f fs) fine clean small =
        let tokens = fine_parts text (spelling f) (spellings fs) fine.1 in
        let parts = none_of (flaws names text f) (flaws_of_all names text fs) clean in
        (readable f tokens.0 parts.0 (omega arith), readable_all fs tokens.1 parts.1 (omega arith))
