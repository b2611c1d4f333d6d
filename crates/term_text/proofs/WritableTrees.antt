-- A tree that some text means has a written text: it names what is there, the text is short, and it means the
-- tree again.
use Rattle.std.proofs.Common.{◌≡◌, ◌≤◌, Bool, true, false, ltb, List, [], ◌∷◌, length, get_or, Some, refl, sym, subst, arith}
use Rattle.std.specs.List.{All}
use Rattle.std.proofs.lemmas.List.Elements.{All-nil, All-cons}
use Rattle.std.proofs.lemmas.Bool.{ltb-false}
use Rattle.ecam_spec.specs.Book.{Text, Tree, Trees, NamedTerm, constant, discrete, valid, compared, in_phase, alert, press, computer, negation, all, any, at_least, confirmed, held, risen, latched, none, more}
use Rattle.ecam_spec.specs.Token.{tokens}
use Rattle.ecam_spec.specs.Grammar.{Form, spelling}
use Rattle.ecam_spec.specs.TermNames.{IsWithin, AreWithin}
use Rattle.ecam_spec.specs.TermSize.{nodes, depth}
use Rattle.ecam_spec.specs.TermText.{TermNames, Flaw, unknown_name, out_of_range, Outcome, unknown, number_error, too_deep, too_large, means, earlier, earliest, flaws, tree_of_form, judged_tree, judged}
use Rattle.ecam_spec.specs.TermVerdict.{words_of, IsVerdict}
use Rattle.term_text.specs.Written.{written}
use Rattle.term_text.specs.Readable.{CanBeRead, without_terms, TermsCanBeRead, IsReadable, AreReadable, IsWritable}
use Rattle.term_text.proofs.FineTokens.{fine_tokens, AreFine}
use Rattle.term_text.proofs.MeantTrees.{readable}
use Rattle.term_text.proofs.VerdictsBack.{means_back}
use Rattle.term_text.proofs.LengthsWritten.{written_length}

module _ (names : TermNames) (text : Text) where
  -- without a flaw, a condition that is judged to be a tree is it, and keeps the limits
  record IsJudged (fs : List Flaw) (t c : Tree) : Type 0 where
    clean : fs ≡ []
    same : t ≡ c
    flat : depth t ≤ 16
    small : nodes t ≤ 64

  judged_size : (t c : Tree) (deep large : Bool) → ltb 16 (depth t) ≡ deep → ltb 64 (nodes t) ≡ large
      → elim deep as (λ v. Outcome) [ true ↦ too_deep | false ↦ elim large as (λ v. Outcome) [ true ↦ too_large | false ↦ means t ] ] ≡ means c → IsJudged [] t c
  judged_size t c true large flat small is = absurd (let e : too_deep ≡ means c = is in cc)
  judged_size t c false true flat small is = absurd (let e : too_large ≡ means c = is in cc)
  judged_size t c false false flat small is = record {
    clean = refl;
    same = (let e : means t ≡ means c = is in cc);
    flat = ltb-false 16 (depth t) flat;
    small = ltb-false 64 (nodes t) small;
  }

  flaw_means_nothing : (flaw : Flaw) (t c : Tree) → judged_tree names text (Some flaw) t ≡ means c → ⊥
  flaw_means_nothing (unknown_name at) t c is = let e : unknown at ≡ means c = is in cc
  flaw_means_nothing (out_of_range at) t c is = let e : number_error at ≡ means c = is in cc

  judged_means : (fs : List Flaw) (t c : Tree) → judged_tree names text (earliest fs) t ≡ means c → IsJudged fs t c
  judged_means [] t c is = judged_size t c (ltb 16 (depth t)) (ltb 64 (nodes t)) refl refl is
  judged_means (f ∷ fs) t c is = absurd (flaw_means_nothing (earlier f (earliest fs)) t c is)

  form_writable : All (λ t. IsReadable names t.tree) names.terms → (f : Form) (c : Tree) → spelling f ≡ words_of (tokens text) → judged names text f ≡ means c → IsWritable names c
  unfolding judged
  form_writable terms f c spells is =
      let j = judged_means (flaws names text f) (tree_of_form names text f) c is in
      let fine : AreFine text (spelling f) = subst (AreFine text) (sym spells) (fine_tokens text 0 0 text refl) in
      let whole : IsWritable names (tree_of_form names text f) = record { readable = readable names text terms f fine j.clean j.small; flat = j.flat; small = j.small } in
      subst (IsWritable names) j.same whole

  verdict_writable : All (λ t. IsReadable names t.tree) names.terms → (c : Tree) → IsVerdict names text (means c) → IsWritable names c
  unfolding IsVerdict
  verdict_writable terms c told = form_writable terms told.0 c told.1 told.2

-- readable by parameters and alerts alone, a condition is readable
mutual
  unfolding IsReadable

  readable_with : (names : TermNames) (c : Tree) → IsReadable (without_terms names) c → IsReadable names c
  readable_with names (constant b) is = tt
  readable_with names (discrete p) is = is
  readable_with names (valid p) is = is
  readable_with names (compared p op x) is = is
  readable_with names (in_phase set) is = is
  readable_with names (alert a) is = is
  readable_with names (press key) is = is
  readable_with names (computer n) is = is
  readable_with names (negation c) is = readable_with names c is
  readable_with names (all cs) is = (is.0, all_readable_with names cs is.1)
  readable_with names (any cs) is = (is.0, all_readable_with names cs is.1)
  readable_with names (at_least n cs) is = (is.0, is.1, all_readable_with names cs is.2)
  readable_with names (confirmed c n) is = (is.0, readable_with names c is.1)
  readable_with names (held c n) is = (is.0, readable_with names c is.1)
  readable_with names (risen c) is = readable_with names c is
  readable_with names (latched s r) is = (readable_with names s is.0, readable_with names r is.1)

  all_readable_with : (names : TermNames) (cs : Trees) → AreReadable (without_terms names) cs → AreReadable names cs
  all_readable_with names none are = tt
  all_readable_with names (more c cs) are = (readable_with names c are.0, all_readable_with names cs are.1)

no_terms : (names : TermNames) → All (λ t. IsReadable (without_terms names) t.tree) (without_terms names).terms
no_terms names i d within = absurd (omega arith)

readable_terms : (names : TermNames) → TermsCanBeRead names → All (λ t. IsReadable names t.tree) names.terms
readable_terms names from i d within =
    let text = from i d within in
    let c = (get_or names.terms i d).tree in
    readable_with names c (verdict_writable (without_terms names) text.text (no_terms names) c text.meaning).readable

module _ (names : TermNames) where
  pub writable : TermsCanBeRead names → (c : Tree) → CanBeRead names c → IsWritable names c
  writable terms c from = verdict_writable names from.text (readable_terms names terms) c from.meaning

  -- one named condition, which can be read without it
  pub one_can_be_read : (t : NamedTerm) → names.terms ≡ t ∷ [] → CanBeRead (without_terms names) t.tree → TermsCanBeRead names
  one_can_be_read t e from = subst (All (λ u. CanBeRead (without_terms names) u.tree)) (sym e) (All-cons (λ u. CanBeRead (without_terms names) u.tree) t [] from (All-nil (λ u. CanBeRead (without_terms names) u.tree)))

  -- what some text means can be read
  pub can_be_read : (text : Text) (c : Tree) → IsVerdict names text (means c) → CanBeRead names c
  can_be_read text c is = record { text = text; meaning = is }

  pub readable_writable : (c : Tree) → IsWritable names c → CanBeRead names c
  readable_writable c w = record { text = written names c; meaning = means_back names c w.readable w.flat w.small }

  mutual
    unfolding IsReadable IsWithin

    readable_within : (c : Tree) → IsReadable names c → IsWithin (length names.parameters) (length names.alerts) c
    readable_within (constant b) is = tt
    readable_within (discrete p) is = is.within
    readable_within (valid p) is = is.within
    readable_within (compared p op x) is = is.0.within
    readable_within (in_phase set) is = tt
    readable_within (alert a) is = is.within
    readable_within (press key) is = is
    readable_within (computer n) is = is
    readable_within (negation c) is = readable_within c is
    readable_within (all cs) is = readable_within_all cs is.1
    readable_within (any cs) is = readable_within_all cs is.1
    readable_within (at_least n cs) is = readable_within_all cs is.2
    readable_within (confirmed c n) is = readable_within c is.1
    readable_within (held c n) is = readable_within c is.1
    readable_within (risen c) is = readable_within c is
    readable_within (latched s r) is = (readable_within s is.0, readable_within r is.1)

    readable_within_all : (cs : Trees) → AreReadable names cs → AreWithin (length names.parameters) (length names.alerts) cs
    readable_within_all none are = tt
    readable_within_all (more c cs) are = (readable_within c are.0, readable_within_all cs are.1)

  -- it names what is there
  pub names_there : TermsCanBeRead names → (c : Tree) → CanBeRead names c → IsWithin (length names.parameters) (length names.alerts) c
  names_there terms c from = readable_within c (writable terms c from).readable

  pub text_short : TermsCanBeRead names → (c : Tree) → CanBeRead names c → length (written names c) ≤ 4096
  text_short terms c from = let w = writable terms c from in omega (arith, written_length names c w.readable w.small, w.small)

  pub text_means : TermsCanBeRead names → (c : Tree) → CanBeRead names c → IsVerdict names (written names c) (means c)
  text_means terms c from = let w = writable terms c from in means_back names c w.readable w.flat w.small
