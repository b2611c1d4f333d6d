-- The keys in each moment: pressed, and held. The keys are the A320's (DSC-31); what counts as a press is this
-- project's own.
use Rattle.std.specs.Prelude.{ℕ, ◌+◌, ◌<◌, ◌≤◌, Bool, false, ◌&&◌, ◌==◌, List, [], ◌∷◌, Option, Some, None, is_none, unwrap_or, if◌then◌else◌}
use Rattle.std.specs.List.{list_any}
use Rattle.std.specs.Option.{option_or}
use Rattle.ecam_spec.specs.declared.kinds.Event.{Event}
use Rattle.ecam_spec.specs.declared.kinds.Event.TheVariants.{Word, Press, Release, Fail, Up}
use Rattle.ecam_spec.specs.declared.kinds.Key.{Key}
use Rattle.ecam_spec.specs.declared.kinds.Key.TheVariants.{Clr, Rcl, Sts, All, Emer, ToCfg, Mw, Mc, Page}
use Rattle.ecam_spec.specs.declared.limits.TheConstants.{BUSES, PAGES}
use Rattle.ecam_spec.specs.Past.{Signal, since}
use Rattle.ecam_spec.specs.History.{Stroke}

-- a page's key has a number from 1 to 16
abbrev pub IsKey : Key → Type 0
IsKey (Page i) = (1 ≤ i) × (i ≤ PAGES)
IsKey _ = Unit {0}

-- an event of a record: a word's bus is 0 to 15, a key is one, and a computer is 1 or 2
abbrev pub IsEvent : Event → Type 0
IsEvent (Word bus bits) = bus < BUSES
IsEvent (Press key) = IsKey key
IsEvent (Release key) = IsKey key
IsEvent (Fail n) = (1 ≤ n) × (n ≤ 2)
IsEvent (Up n) = (1 ≤ n) × (n ≤ 2)
IsEvent _ = Unit {0}

-- each key has a number of its own
abbrev pub key_number : Key → ℕ
key_number Clr = 0
key_number Rcl = 1
key_number Sts = 2
key_number All = 3
key_number Emer = 4
key_number ToCfg = 5
key_number Mw = 6
key_number Mc = 7
key_number (Page i) = 8 + i

abbrev pub same_key : Key → Key → Bool
same_key a b = key_number a == key_number b

-- the last stroke of a key among some: whether it went down
unfoldable pub last_stroke : Key → List Stroke → Option Bool
last_stroke key [] = None
last_stroke key (s ∷ ss) = option_or (last_stroke key ss) (if same_key key s.key then Some s.down else None)

module _ (strokes : ℕ → List Stroke) where
  -- the key goes down in the moment
  unfoldable pub pressed : Key → Signal
  pressed key k = list_any (λ s. same_key key s.key && s.down) (strokes k)

  -- the last stroke of the key went down
  unfoldable pub held : Key → Signal
  held key = since (λ j. unwrap_or (last_stroke key (strokes j)) false) (λ j. is_none (last_stroke key (strokes j)))
