-- A readable tree that isn't too deep or too large is what its written text means.
use Rattle.std.proofs.Common.{◌≡◌, ◌≤◌, Bool, true, false, ltb, List, [], None, refl, sym, ◌∙◌, ap, append-nil}
use Rattle.std.proofs.lemmas.Bool.{le-ltb}
use Rattle.ecam_spec.specs.Book.{Text, Tree}
use Rattle.ecam_spec.specs.Token.{tokens, tokens_from}
use Rattle.ecam_spec.specs.Grammar.{Form, spelling}
use Rattle.ecam_spec.specs.TermSize.{nodes, depth}
use Rattle.ecam_spec.specs.TermText.{TermNames, Flaw, Outcome, too_deep, too_large, means, earliest, flaws, tree_of_form, judged_tree, judged}
use Rattle.ecam_spec.specs.TermVerdict.{words_of, IsVerdict}
use Rattle.term_text.specs.Written.{written}
use Rattle.term_text.specs.Readable.{IsReadable}
use Rattle.term_text.proofs.TreesRead.{IsSpelt, spelt}

module _ (names : TermNames) (text : Text) where
  sized : (c : Tree) → depth c ≤ 16 → nodes c ≤ 64 → judged_tree names text None c ≡ means c
  sized c flat small =
      ap (λ (x : Bool). elim x as (λ v. Outcome) [ true ↦ too_deep | false ↦ elim (ltb 64 (nodes c)) as (λ v. Outcome) [ true ↦ too_large | false ↦ means c ] ]) (le-ltb 16 (depth c) flat)
      ∙ ap (λ (x : Bool). elim x as (λ v. Outcome) [ true ↦ too_large | false ↦ means c ]) (le-ltb 64 (nodes c) small)

  pub means_tree : (f : Form) (c : Tree) → spelling f ≡ words_of (tokens text) → flaws names text f ≡ [] → tree_of_form names text f ≡ c → depth c ≤ 16 → nodes c ≤ 64 → IsVerdict names text (means c)
  unfolding IsVerdict judged
  means_tree f c spells sound is flat small = (
    f,
    spells,
    ap (λ (fs : List Flaw). judged_tree names text (earliest fs) (tree_of_form names text f)) sound
        ∙ ap (judged_tree names text None) is ∙ sized c flat small,
  )

module _ (names : TermNames) where
  whole_text : (c : Tree) (s : IsSpelt names (written names c) c 0) → spelling s.form ≡ words_of (tokens (written names c))
  unfolding tokens_from
  whole_text c s =
      sym (ap (λ (t : Text). words_of (tokens t)) (sym (append-nil (written names c))) ∙ s.words [] refl ∙ append-nil (spelling s.form))

  -- the written text means the tree
  pub means_back : (c : Tree) → IsReadable names c → depth c ≤ 16 → nodes c ≤ 64 → IsVerdict names (written names c) (means c)
  means_back c is flat small =
      let s = spelt names (written names c) c is small 0 [] (sym (append-nil (written names c))) in
      means_tree names (written names c) s.form c (whole_text c s) s.sound s.tree flat small
