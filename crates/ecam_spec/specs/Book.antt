-- A book of alerts as plain data, with its names resolved to places: what the other definitions speak of.
-- Texts and names are lists of ASCII bytes.
use Rattle.std.specs.Prelude.{ℕ, ℤ, Bool, List, Option}
use Rattle.ecam_spec.specs.declared.kinds.Key.{Key}
use Rattle.ecam_spec.specs.declared.kinds.Op.{Op}
use Rattle.ecam_spec.specs.declared.kinds.Kind.{Kind}
use Rattle.ecam_spec.specs.declared.kinds.Level.{Level}
use Rattle.ecam_spec.specs.declared.kinds.Sound.{Sound}
use Rattle.ecam_spec.specs.declared.kinds.Colour.{Colour}

abbrev pub Text : Type 0
Text = List ℕ

-- A condition. Parameters and alerts go by their places in the book, computers by 1 and 2, and a set of
-- phases is a number in which phase p has the bit that is worth 2 ^ (p - 1).
mutual
  pub data Tree : Type 0 where
    constant : Bool → Tree
    discrete : ℕ → Tree
    valid : ℕ → Tree
    compared : ℕ → Op → ℤ → Tree
    in_phase : ℕ → Tree
    alert : ℕ → Tree
    press : Key → Tree
    computer : ℕ → Tree
    negation : Tree → Tree
    all : Trees → Tree
    any : Trees → Tree
    at_least : ℕ → Trees → Tree
    confirmed : Tree → ℕ → Tree
    held : Tree → ℕ → Tree
    risen : Tree → Tree
    latched : Tree → Tree → Tree

  pub data Trees : Type 0 where
    none : Trees
    more : Tree → Trees → Trees

-- a condition that has a name, by which others may ask for it
pub record NamedTerm : Type 0 where
  pub name : Text
  pub tree : Tree

-- where a parameter's words come from, and how their data are read
pub record Source : Type 0 where
  pub bus : ℕ
  pub label : ℕ
  pub sdi : Option ℕ
  pub bit : ℕ
  pub low : ℕ
  pub range : ℕ

-- a parameter, whose words stay fresh for `stale` moments
pub record Parameter : Type 0 where
  pub name : Text
  pub kind : Kind
  pub stale : ℕ
  pub sources : List Source

-- the six conditions that the flight phase goes by
pub record PhaseTerms : Type 0 where
  pub gnd : Tree
  pub run : Tree
  pub tp : Tree
  pub fast : Tree
  pub high : Tree
  pub low : Tree

-- a line of a procedure: it stands while `when` holds and `done` doesn't
pub record Line : Type 0 where
  pub text : Text
  pub colour : Colour
  pub when : Tree
  pub done : Tree

-- a line of the status page, in section 0 to 4: limitations, approach, procedure, information, inop
pub record StatusLine : Type 0 where
  pub section : ℕ
  pub text : Text

pub record Alert : Type 0 where
  pub name : Text
  pub title : Text
  pub system : ℕ
  pub level : Level
  pub when : Tree
  pub page : Option ℕ
  pub confirm : ℕ
  pub sound : Sound
  pub inhibit : ℕ
  pub secondary : List ℕ
  pub lines : List Line
  pub status : List StatusLine

-- a memo of the left zone, or of the right
pub record Memo : Type 0 where
  pub name : Text
  pub text : Text
  pub left : Bool
  pub when : Tree
  pub colour : Colour

-- a row of a page, with the value of the parameter that it shows
pub record PageRow : Type 0 where
  pub text : Text
  pub show : Option ℕ
  pub unit : Option Text
  pub colour : Colour

pub record Page : Type 0 where
  pub name : Text
  pub title : Text
  pub phases : ℕ
  pub rows : List PageRow

pub record Book : Type 0 where
  pub systems : List Text
  pub pages : List Page
  pub parameters : List Parameter
  pub phase : PhaseTerms
  pub alerts : List Alert
  pub memos : List Memo
