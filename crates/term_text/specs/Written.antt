-- How a condition is written: the one text of each tree. Words, numbers and names have no blanks in them, one
-- blank follows each comma, and one stands on each side of a comparison's sign.
use Rattle.std.specs.Prelude.{ℕ, zero, suc, Bool, true, false, List, [], ◌∷◌, ◌++◌, get_or, filter, codes, decimal}
use Rattle.std.specs.Fmt.{signed_decimal}
use Rattle.ecam_spec.specs.declared.kinds.Key.{Key}
use Rattle.ecam_spec.specs.declared.kinds.Key.TheVariants.{Clr, Rcl, Sts, All, Emer, ToCfg, Mw, Mc, Page}
use Rattle.ecam_spec.specs.declared.kinds.Op.{Op}
use Rattle.ecam_spec.specs.declared.kinds.Op.TheVariants.{Less, LessEq, More, MoreEq, Equal, Differ}
use Rattle.ecam_spec.specs.Book.{Text, Tree, Trees, constant, discrete, valid, compared, in_phase, alert, press, computer, negation, all, any, at_least, confirmed, held, risen, latched, none, more}
use Rattle.ecam_spec.specs.Term.{in_set}
use Rattle.ecam_spec.specs.TermText.{TermNames}

-- the name at a place of a list
abbrev pub name_at : List Text → ℕ → Text
name_at names p = get_or names p []

-- the sign of a comparison
abbrev pub sign_of : Op → Text
sign_of Less = codes "<"
sign_of LessEq = codes "<="
sign_of More = codes ">"
sign_of MoreEq = codes ">="
sign_of Equal = codes "="
sign_of Differ = codes "!="

-- a key's word
abbrev pub key_word : Key → Text
key_word Clr = codes "CLR"
key_word Rcl = codes "RCL"
key_word Sts = codes "STS"
key_word All = codes "ALL"
key_word Emer = codes "EMER"
key_word ToCfg = codes "TOCFG"
key_word Mw = codes "MW"
key_word Mc = codes "MC"
key_word (Page p) = codes "PG" ++ decimal p

-- so many numbers, rising by one from the first
unfoldable pub numbers_from : ℕ → ℕ → List ℕ
numbers_from zero first = []
numbers_from (suc n) first = first ∷ numbers_from n (suc first)

-- the phases of a set, rising, each once
abbrev pub phases_of : ℕ → List ℕ
phases_of set = filter (in_set set) (numbers_from 10 1)

-- what stands before the first of a list, and before each other
abbrev pub separator : Bool → Text
separator true = []
separator false = codes ", "

-- numbers with commas between them, of which the first is the list's first or not
unfoldable pub numbers_after : Bool → List ℕ → Text
numbers_after is_first [] = []
numbers_after is_first (n ∷ ns) = separator is_first ++ decimal n ++ numbers_after false ns

-- numbers with commas between them
abbrev pub listed_numbers : List ℕ → Text
listed_numbers = numbers_after true

-- a sign with one blank on each side
abbrev pub spaced : Text → Text
spaced sign = codes " " ++ sign ++ codes " "

-- what stands in brackets behind a word, which comes with the opening one
abbrev pub enclosed : Text → Text → Text
enclosed opening inside = opening ++ inside ++ codes ")"

module _ (names : TermNames) where
  unfoldable mutual
    -- a condition's text
    pub written : Tree → Text
    written (constant true) = codes "true"
    written (constant false) = codes "false"
    written (discrete p) = name_at names.parameters p
    written (valid p) = enclosed (codes "valid(") (name_at names.parameters p)
    written (compared p op x) = name_at names.parameters p ++ spaced (sign_of op) ++ signed_decimal x
    written (in_phase set) = enclosed (codes "phase(") (listed_numbers (phases_of set))
    written (alert a) = enclosed (codes "alert(") (name_at names.alerts a)
    written (press key) = enclosed (codes "press(") (key_word key)
    written (computer n) = enclosed (codes "fwc(") (decimal n)
    written (negation c) = enclosed (codes "not(") (written c)
    written (all cs) = enclosed (codes "all(") (listed true cs)
    written (any cs) = enclosed (codes "any(") (listed true cs)
    written (at_least n cs) = enclosed (codes "atleast(") (decimal n ++ codes ", " ++ listed true cs)
    written (confirmed c n) = enclosed (codes "conf(") (written c ++ codes ", " ++ decimal n)
    written (held c n) = enclosed (codes "hold(") (written c ++ codes ", " ++ decimal n)
    written (risen c) = enclosed (codes "rise(") (written c)
    written (latched s r) = enclosed (codes "latch(") (written s ++ codes ", " ++ written r)

    -- conditions with commas between them, of which the first is the list's first or not
    pub listed : Bool → Trees → Text
    listed is_first none = []
    listed is_first (more c cs) = separator is_first ++ written c ++ listed false cs
