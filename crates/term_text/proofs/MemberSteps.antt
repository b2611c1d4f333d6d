-- The texts of a list of conditions as a loop writes them, one after the other.
use Rattle.std.proofs.Common.{◌≡◌, ℕ, Bool, false, ◌++◌, sym, ◌∙◌, ap, subst, append_assoc, append-nil}
use Rattle.ecam_spec.specs.Book.{Text, Tree, Trees, none, more}
use Rattle.ecam_spec.specs.TermText.{TermNames}
use Rattle.ecam_spec.specs.TermNames.{IsWithin, AreWithin}
use Rattle.term_text.specs.Written.{separator, written, listed}

-- one more is written, and the others are left
pub member_written : (names : TermNames) (before : Text) (is_first : Bool) (cs : Trees) (c : Tree) (rest : Trees) → cs ≡ more c rest
    → before ++ listed names is_first cs ≡ before ++ separator is_first ++ written names c ++ listed names false rest
unfolding written
member_written names before is_first cs c rest is =
    ap (λ (x : Trees). before ++ listed names is_first x) is
    ∙ sym (append_assoc before (separator is_first ++ written names c) (listed names false rest))
    ∙ ap (λ (x : Text). x ++ listed names false rest) (sym (append_assoc before (separator is_first) (written names c)))

-- none is left
pub members_written : (names : TermNames) (before : Text) (is_first : Bool) (cs : Trees) → cs ≡ none → before ++ listed names is_first cs ≡ before
unfolding written
members_written names before is_first cs is = ap (λ (x : Trees). before ++ listed names is_first x) is ∙ append-nil before

pub within_next : (params alerts : ℕ) (cs : Trees) (c : Tree) (rest : Trees) → cs ≡ more c rest → AreWithin params alerts cs → IsWithin params alerts c × AreWithin params alerts rest
unfolding IsWithin
within_next params alerts cs c rest is h = subst (AreWithin params alerts) is h
