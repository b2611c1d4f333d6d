-- A condition whose names have no flaw names parameters, alerts, keys and computers that are there.
use Rattle.std.proofs.Common.{◌≡◌, ℕ, suc, ◌<◌, pos, Bool, true, false, List, [], ◌∷◌, ◌++◌, length, Option, Some, None, refl, ◌∙◌}
use Rattle.std.specs.List.{All, AllByRecursion}
use Rattle.ecam_spec.specs.declared.terms.Span.{Span}
use Rattle.ecam_spec.specs.declared.terms.Token.{Token}
use Rattle.ecam_spec.specs.declared.terms.Token.TheVariants.{Comma, Close, Number}
use Rattle.ecam_spec.specs.Book.{Text}
use Rattle.ecam_spec.specs.Grammar.{Form, Forms, truth, name_of, compare_of, valid_of, phase_of, alert_of, press_of, fwc_of, not_of, rise_of, all_of, any_of, at_least_of, conf_of, hold_of, latch_of, no_more, and_then, how_many, spelling, spellings}
use Rattle.ecam_spec.specs.TermNames.{IsWithin, AreWithin}
use Rattle.ecam_spec.specs.TermText.{TermNames, unknown_name, name_place, flaws, flaws_of_all, name_flaw, number_flaw, moments_flaw, compared_flaw, tree_of_form, trees_of_forms}
use Rattle.book_spec.proofs.TermKeys.{NamesKey}
use Rattle.book_spec.proofs.TermNames.{name_within, named_so}
use Rattle.book_spec.proofs.TermRanges.{neither, amount_within}

-- ---- the keys of a spelling, and of its parts

abbrev pub Names : List Token → Type 0
Names = AllByRecursion NamesKey

parts : (xs ys : List Token) → Names (xs ++ ys) → Names xs × Names ys
parts [] ys h = (tt, h)
parts (x ∷ xs) ys h = let rest = parts xs ys h.1 in ((h.0, rest.0), rest.1)

-- the conditions of a list, before its bracket
list_keys : (f : Form) (fs : Forms) → Names (spelling f ++ spellings fs ++ Close ∷ []) → Names (spelling f) × Names (spellings fs)
list_keys f fs k =
    parts (spelling f) (spellings fs) (parts (spelling f ++ spellings fs) (Close ∷ []) k).0

module _ (names : TermNames) (text : Text) (known : All (λ t. IsWithin (length names.parameters) (length names.alerts) t.tree) names.terms) where
  abbrev Within : Form → Type 0
  Within f = IsWithin (length names.parameters) (length names.alerts) (tree_of_form names text f)

  abbrev Withins : Forms → Type 0
  Withins fs = AreWithin (length names.parameters) (length names.alerts) (trees_of_forms names text fs)

  mutual
    unfolding flaws tree_of_form IsWithin spelling

    pub form_within : (f : Form) → flaws names text f ≡ [] → Names (spelling f) → Within f
    form_within (truth b) h k = tt
    form_within (name_of n) h k =
        named_so names text (λ t. IsWithin (length names.parameters) (length names.alerts) t) n tt (λ p below. below) known
    form_within (compare_of n op x) h k = name_within names text names.parameters n (neither (name_flaw names text names.parameters n) (compared_flaw names text x) h).0
    form_within (valid_of n) h k = name_within names text names.parameters n h
    form_within (phase_of n ns) h k = tt
    form_within (alert_of n) h k = name_within names text names.alerts n h
    form_within (press_of key) h k = k.1.1.0
    form_within (fwc_of n) h k = amount_within names text 1 2 n h
    form_within (not_of f) h k = form_within f h (parts (spelling f) (Close ∷ []) k.1.1).0
    form_within (rise_of f) h k = form_within f h (parts (spelling f) (Close ∷ []) k.1.1).0
    form_within (all_of f fs) h k =
        let none = neither (flaws names text f) (flaws_of_all names text fs) h in
        let keys = list_keys f fs k.1.1 in
        (form_within f none.0 keys.0, forms_within fs none.1 keys.1)
    form_within (any_of f fs) h k =
        let none = neither (flaws names text f) (flaws_of_all names text fs) h in
        let keys = list_keys f fs k.1.1 in
        (form_within f none.0 keys.0, forms_within fs none.1 keys.1)
    form_within (at_least_of n f fs) h k =
        let number = number_flaw names text (pos 1) (pos (suc (how_many fs))) n in
        let none = neither (flaws names text f) (flaws_of_all names text fs) (neither (flaws names text f ++ flaws_of_all names text fs) number h).0 in
        let keys = list_keys f fs k.1.1.1.1 in
        (form_within f none.0 keys.0, forms_within fs none.1 keys.1)
    form_within (conf_of f n) h k =
        form_within f (neither (flaws names text f) (moments_flaw names text n) h).0 (parts (spelling f) (Comma ∷ Number n ∷ Close ∷ []) k.1.1).0
    form_within (hold_of f n) h k =
        form_within f (neither (flaws names text f) (moments_flaw names text n) h).0 (parts (spelling f) (Comma ∷ Number n ∷ Close ∷ []) k.1.1).0
    form_within (latch_of s r) h k =
        let none = neither (flaws names text s) (flaws names text r) h in
        let keys = parts (spelling s) (Comma ∷ spelling r) (parts (spelling s ++ Comma ∷ spelling r) (Close ∷ []) k.1.1).0 in
        (form_within s none.0 keys.0, form_within r none.1 keys.1.1)

    pub forms_within : (fs : Forms) → flaws_of_all names text fs ≡ [] → Names (spellings fs) → Withins fs
    forms_within no_more h k = tt
    forms_within (and_then f fs) h k =
        let none = neither (flaws names text f) (flaws_of_all names text fs) h in
        let keys = parts (spelling f) (spellings fs) k.1 in
        (form_within f none.0 keys.0, forms_within fs none.1 keys.1)
