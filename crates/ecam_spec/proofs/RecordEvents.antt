-- What a line says is an event of a record.
use Rattle.std.proofs.Common.{◌≡◌, ℕ, ◌<◌, ◌≤◌, Bool, true, false, ◌&&◌, cond, leb, List, [], ◌∷◌, drop, Option, Some, None, option_map, refl, subst, arith}
use Rattle.std.specs.Prelude.{find, nat_lt, option_and_then}
use Rattle.std.specs.List.{list_all}
use Rattle.std.proofs.lemmas.Bool.{and_parts, leb-true, ltb-true}
use Rattle.ecam_spec.specs.declared.kinds.Event.{Event}
use Rattle.ecam_spec.specs.declared.kinds.Event.TheVariants.{Word, Tick, Press, Release, Fail, Up, End}
use Rattle.ecam_spec.specs.declared.kinds.Key.{Key}
use Rattle.ecam_spec.specs.declared.kinds.Key.TheVariants.{Page}
use Rattle.ecam_spec.specs.Book.{Text}
use Rattle.ecam_spec.specs.Keys.{IsKey, IsEvent}
use Rattle.ecam_spec.specs.Bytes.{same_text}
use Rattle.ecam_spec.specs.Places.{below}
use Rattle.ecam_spec.specs.RecordLine.{key_words, key_of, computer_of, bus_of, bits_of, word_event, event_of}

-- each that an option may have is so
abbrev Each : {X : Type 0} → (X → Type 0) → Option X → Type 0
Each P o = (x : _) → o ≡ Some x → P x

module _ {X : Type 0} (P : X → Type 0) where
  each-none : Each P None
  each-none x is = cc

  each-some : (y : X) → P y → Each P (Some y)
  each-some y so x is = let same : y ≡ x = cc in subst P same so

  each-cond : (b : Bool) (o u : Option X) → Each P o → Each P u → Each P (cond b o u)
  each-cond true o u one other = one
  each-cond false o u one other = other

  each-map : {Y : Type 0} (Q : Y → Type 0) (f : Y → X) (o : Option Y) → ((y : Y) → Q y → P (f y)) → Each Q o → Each P (option_map f o)
  each-map Q f None then each = each-none
  each-map Q f (Some y) then each = each-some (f y) (then y (each y refl))

  -- what is found passes a test that all pass
  each-found : (p q : X → Bool) → ((x : X) → p x ≡ true → P x) → (xs : List X) → list_all p xs ≡ true → Each P (find q xs)
  each-found p q then [] all = each-none
  each-found p q then (x ∷ xs) all =
      let parts = and_parts (p x) (list_all p xs) all in
      each-cond (q x) (Some x) (find q xs) (each-some x (then x parts.0)) (each-found p q then xs parts.1)

-- ---- the parts of a line

is_known : Key → Bool
is_known (Page i) = leb 1 i && leb i 16
is_known _ = true

known_key : (key : Key) → is_known key ≡ true → IsKey key
unfolding is_known
known_key (Page i) is = let parts = and_parts (leb 1 i) (leb i 16) is in (leb-true 1 i parts.0, leb-true i 16 parts.1)
known_key _ is = tt

all_known : list_all (λ x. is_known x.1) key_words ≡ true
unfolding is_known key_words below
all_known = refl

pub key_of-IsKey : (word : Text) → Each IsKey (key_of word)
unfolding key_of
key_of-IsKey word =
    each-map IsKey (λ (x : Text × Key). IsKey x.1) (λ x. x.1) (find (λ x. same_text word x.0) key_words) (λ x so. so)
    (each-found (λ (x : Text × Key). IsKey x.1) (λ x. is_known x.1) (λ x. same_text word x.0) (λ x. known_key x.1) key_words all_known)

all_buses : list_all (λ b. nat_lt b 16) (below 16) ≡ true
unfolding below
all_buses = refl

bus_of-within : (word : Text) → Each (λ b. b < 16) (bus_of word)
unfolding bus_of
bus_of-within word = each-found (λ b. b < 16) (λ b. nat_lt b 16) _ (λ b. ltb-true b 16) (below 16) all_buses

computer_of-within : (word : Text) → Each (λ n. (1 ≤ n) × (n ≤ 2)) (computer_of word)
unfolding computer_of
computer_of-within word =
    let P : ℕ → Type 0 = λ n. (1 ≤ n) × (n ≤ 2) in
    each-cond P _ (Some 1) _ (each-some P 1 (omega arith, omega arith)) (each-cond P _ (Some 2) None (each-some P 2 (omega arith, omega arith)) (each-none P))

word-within : (bus bits : Option ℕ) → Each (λ b. b < 16) bus → Each IsEvent (option_and_then (λ b. option_map (λ w. Word b w) bits) bus)
word-within None bits within = each-none IsEvent
word-within (Some b) bits within = each-map IsEvent (λ w. Unit {0}) (λ w. Word b w) bits (λ w so. within b refl) (λ w is. tt)

word_event-IsEvent : (words : Text) → Each IsEvent (word_event words)
unfolding word_event
word_event-IsEvent words = word-within (bus_of _) (bits_of _) (bus_of-within _)

-- ---- a line

pub event_of-IsEvent : (line : Text) (e : Event) → event_of line ≡ Some e → IsEvent e
unfolding event_of
event_of-IsEvent line =
    let Computer : ℕ → Type 0 = λ n. (1 ≤ n) × (n ≤ 2) in
    let rest = drop 2 line in
    each-cond IsEvent _ (Some Tick) _ (each-some IsEvent Tick tt)
    (each-cond IsEvent _ (Some End) _ (each-some IsEvent End tt)
    (each-cond IsEvent _ (word_event rest) _ (word_event-IsEvent rest)
    (each-cond IsEvent _ (option_map Press (key_of rest)) _ (each-map IsEvent IsKey Press (key_of rest) (λ k so. so) (key_of-IsKey rest))
    (each-cond IsEvent _ (option_map Release (key_of rest)) _ (each-map IsEvent IsKey Release (key_of rest) (λ k so. so) (key_of-IsKey rest))
    (each-cond IsEvent _ (option_map Fail (computer_of rest)) _ (each-map IsEvent Computer Fail (computer_of rest) (λ n so. so) (computer_of-within rest))
    (each-cond IsEvent _ (option_map Up (computer_of rest)) None (each-map IsEvent Computer Up (computer_of rest) (λ n so. so) (computer_of-within rest)) (each-none IsEvent)))))))
