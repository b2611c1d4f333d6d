-- What a table keeps of each source, by its place, and which sources share a mailbox.
use Rattle.std.specs.Prelude.{◌≡◌, ℕ, zero, suc, ◌+◌, ◌*◌, ◌<◌, ◌≤◌, Bool, false, ◌&&◌, ◌==◌, ◌++◌, is_none, List, [], ◌∷◌, length, get_or, Option, Some, None, if◌then◌else◌}
use Rattle.std.specs.Option.{option_map_or}
use Rattle.ecam_spec.specs.Book.{Source, Parameter}
use Rattle.book_model.specs.SourcePlaces.{parameter_with, source_at, passes}
use Rattle.param_table.specs.HeldValues.{mailbox_at}
use Rattle.param_table.specs.Words.{low_of}
use Rattle.param_table.specs.declared.rules.Rule.{Rule}
use Rattle.param_table.specs.declared.rules.Numbered.{Numbered}

-- how the words of the source at a place are read, by its parameter's kind, and its freshness
pub record RuleIs (params : List Parameter) (place : ℕ) (r : Rule) : Type 0 where
  pub source : Source
  pub there : source_at params place ≡ Some source
  pub low : r.low ≡ low_of r.kind source
  pub range : r.range ≡ source.range
  pub kind : r.kind ≡ (parameter_with params place).kind
  pub stale : r.stale ≡ (parameter_with params place).stale

abbrev pub IsRule : List Parameter → ℕ → Option Rule → Type 0
IsRule params place None = source_at params place ≡ None
IsRule params place (Some r) = RuleIs params place r

-- ---- which mailbox a source has

-- by what it names as SDI
abbrev pub slot_of : Option ℕ → ℕ
slot_of None = 0
slot_of (Some n) = 1 + n

-- it is of the sources of this bus and label that name such an SDI
abbrev pub is_of : ℕ → ℕ → ℕ → Source → Bool
is_of bus label slot s = (bus == s.bus && label == s.label) && slot == slot_of s.sdi

-- the first number below n that passes
unfoldable pub first_below : (ℕ → Bool) → ℕ → Option ℕ
first_below p zero = None
first_below p (suc n) = first_or (first_below p n) where
  first_or : Option ℕ → Option ℕ
  first_or (Some f) = Some f
  first_or None = if p n then Some n else None

-- the first place below n whose source has this mailbox
abbrev pub first_of : List Parameter → ℕ → ℕ → ℕ → ℕ → Option ℕ
first_of params bus label slot n = first_below (passes (is_of bus label slot) params) n

-- none before the source at a place has its mailbox
abbrev pub opens : List Parameter → ℕ → Bool
opens params place = option_map_or (λ (s : Source). is_none (first_of params s.bus s.label (slot_of s.sdi) place)) (source_at params place) false

-- how many mailboxes the sources of the places below n have
unfoldable pub openers : List Parameter → ℕ → ℕ
openers params zero = 0
openers params (suc n) = if opens params n then suc (openers params n) else openers params n

-- the mailbox of the sources of this bus and label that name such an SDI, of the places below n: from 1 on in the order of
-- their first places, and 0 where there is none
abbrev pub number_of : List Parameter → ℕ → ℕ → ℕ → ℕ → ℕ
number_of params bus label slot n = option_map_or (λ f. suc (openers params f)) (first_of params bus label slot n) 0

-- the rules of the places below n
pub record AreRules (params : List Parameter) (n : ℕ) (rules : List (Option Rule)) : Type 0 where
  pub count : length rules ≡ n
  pub each : (q : ℕ) → q < n → IsRule params q (get_or rules q None)
  pub mailbox : (q : ℕ) (s : Source) → q < n → source_at params q ≡ Some s
      → mailbox_at rules q ≡ number_of params s.bus s.label (slot_of s.sdi) n

-- the routes of the places below n: five for each
pub record AreRoutes (params : List Parameter) (n : ℕ) (routes : List ℕ) : Type 0 where
  pub count : length routes ≡ 5 * n
  pub each : (q : ℕ) (s : Source) → q < n → source_at params q ≡ Some s → (slot : ℕ) → slot < 5
      → get_or routes (5 * q + slot) 0 ≡ number_of params s.bus s.label slot (suc q)

-- the last place of each mailbox
pub record AreLatest (params : List Parameter) (n : ℕ) (rules : List (Option Rule)) (latest : List (Option ℕ)) : Type 0 where
  pub count : length latest ≡ suc (openers params n)
  pub none : get_or latest 0 None ≡ None
  pub there : (m l : ℕ) → get_or latest m None ≡ Some l → (l < n) × (mailbox_at rules l ≡ m)
  pub last : (q : ℕ) (r : Rule) → q < n → get_or rules q None ≡ Some r → (l : ℕ) × (get_or latest r.mailbox None ≡ Some l) × (q ≤ l)

pub record AreNumbered (params : List Parameter) (n : ℕ) (numbered : Numbered) : Type 0 where
  pub rules : AreRules params n numbered.rules.items
  pub routes : AreRoutes params n numbered.routes.items
  pub latest : AreLatest params n numbered.rules.items numbered.latest.items

-- ---- one more place

-- the mailbox of an earlier place's route
abbrev pub earlier_in : List ℕ → Option ℕ → ℕ → ℕ
earlier_in routes before slot = option_map_or (λ b. get_or routes (5 * b + slot) 0) before 0

-- that route
abbrev pub route_of : List ℕ → Option ℕ → List ℕ
route_of routes before =
    earlier_in routes before 0 ∷ earlier_in routes before 1 ∷ earlier_in routes before 2 ∷ earlier_in routes before 3 ∷ earlier_in routes before 4 ∷ []

-- the mailbox of a route, which is a new one where it has none
abbrev pub mailbox_in : List ℕ → ℕ → ℕ → ℕ
mailbox_in routes route new = if get_or routes route 0 == 0 then new else get_or routes route 0

-- and the last places of the mailboxes
abbrev pub with_mailbox : List ℕ → ℕ → List (Option ℕ) → List (Option ℕ)
with_mailbox routes route latest = if get_or routes route 0 == 0 then latest ++ None ∷ [] else latest
