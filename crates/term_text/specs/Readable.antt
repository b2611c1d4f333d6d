-- Which trees some text means: those whose names are known, each by the first place at which it stands, whose
-- numbers are in their ranges, and which are neither too deep nor too large.
use Rattle.std.specs.Prelude.{◌≡◌, ℕ, ◌<◌, ◌≤◌, true, List, [], length, Some, None, slice_index, ℤ, pos, neg_ℤ, All}
use Rattle.std.specs.List.{list_all}
use Rattle.ecam_spec.specs.declared.limits.TheConstants.{NAME, NUMBER, WAIT, PHASE_SETS, TERM_DEPTH, TERM_NODES}
use Rattle.ecam_spec.specs.Book.{Text, Tree, Trees, constant, discrete, valid, compared, in_phase, alert, press, computer, negation, all, any, at_least, confirmed, held, risen, latched, none, more}
use Rattle.ecam_spec.specs.Keys.{IsKey}
use Rattle.ecam_spec.specs.KeepsLimits.{count_of}
use Rattle.ecam_spec.specs.TermSize.{nodes, depth}
use Rattle.ecam_spec.specs.Token.{reserved_of}
use Rattle.ecam_spec.specs.Bytes.{is_letter, is_name_byte}
use Rattle.ecam_spec.specs.TermText.{TermNames, name_place, means}
use Rattle.ecam_spec.specs.TermNumber.{is_within}
use Rattle.ecam_spec.specs.TermVerdict.{IsVerdict}
use Rattle.term_text.specs.Written.{name_at}

-- some text means this tree
pub record CanBeRead (names : TermNames) (c : Tree) : Type 0 where
  pub text : Text
  pub meaning : IsVerdict names text (means c)

-- the parameters and the alerts alone
abbrev pub without_terms : TermNames → TermNames
without_terms names = record { parameters = names.parameters; alerts = names.alerts; terms = [] }

-- each named condition is what some text means by parameters and alerts alone
abbrev pub TermsCanBeRead : TermNames → Type 0
TermsCanBeRead names = All (λ t. CanBeRead (without_terms names) t.tree) names.terms

-- a name that a condition may use: it begins with a letter, has small letters, digits and low lines alone, and
-- isn't reserved
pub record IsNameWord (t : Text) : Type 0 where
  pub first : is_letter (slice_index t 0) ≡ true
  pub bytes : list_all is_name_byte t ≡ true
  pub free : reserved_of t ≡ None

-- the name at a place can be written in a condition, and stands there first
pub record IsKnownName (list : List Text) (p : ℕ) : Type 0 where
  pub within : p < length list
  pub word : IsNameWord (name_at list p)
  pub short : length (name_at list p) ≤ NAME
  pub first : name_place list (name_at list p) ≡ Some p

-- a number that a condition may compare a parameter with
abbrev pub IsComparable : ℤ → Type 0
IsComparable x = is_within (neg_ℤ (pos NUMBER)) (pos NUMBER) x ≡ true

-- some conditions, and not none
abbrev pub IsFull : Trees → Type 0
IsFull none = ⊥
IsFull (more c cs) = Unit {0}

module _ (names : TermNames) where
  unfoldable mutual
    -- its names are known, and its numbers are in their ranges
    pub IsReadable : Tree → Type 0
    IsReadable (constant b) = Unit {0}
    IsReadable (discrete p) = IsKnownName names.parameters p
    IsReadable (valid p) = IsKnownName names.parameters p
    IsReadable (compared p op x) = IsKnownName names.parameters p × IsComparable x
    IsReadable (in_phase set) = (1 ≤ set) × (set < PHASE_SETS)
    IsReadable (alert a) = IsKnownName names.alerts a
    IsReadable (press key) = IsKey key
    IsReadable (computer n) = (1 ≤ n) × (n ≤ 2)
    IsReadable (negation c) = IsReadable c
    IsReadable (all cs) = IsFull cs × AreReadable cs
    IsReadable (any cs) = IsFull cs × AreReadable cs
    IsReadable (at_least n cs) = (1 ≤ n) × (n ≤ count_of cs) × AreReadable cs
    IsReadable (confirmed c n) = (n ≤ WAIT) × IsReadable c
    IsReadable (held c n) = (n ≤ WAIT) × IsReadable c
    IsReadable (risen c) = IsReadable c
    IsReadable (latched s r) = IsReadable s × IsReadable r

    pub AreReadable : Trees → Type 0
    AreReadable none = Unit {0}
    AreReadable (more c cs) = IsReadable c × AreReadable cs

  -- it is also neither too deep nor too large
  pub record IsWritable (c : Tree) : Type 0 where
    pub readable : IsReadable c
    pub flat : depth c ≤ TERM_DEPTH
    pub small : nodes c ≤ TERM_NODES
