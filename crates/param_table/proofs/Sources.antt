-- Which sources take a word.
use Rattle.std.proofs.Common.{◌≡◌, ℕ, Bool, true, false, ◌==◌, ◌&&◌, List, Option, Some, None, refl, sym, ap}
use Rattle.std.specs.Option.{option_map_or}
use Rattle.std.proofs.lemmas.Bool.{false≢true}
use Rattle.ecam_spec.specs.Book.{Source, Parameter}
use Rattle.ecam_spec.specs.Word.{label, is_odd}
use Rattle.ecam_spec.specs.Value.{BusWord, takes, has_sdi}
use Rattle.book_model.specs.SourcePlaces.{source_at, listens}
use Rattle.param_table.specs.Taking.{takes_at}

-- a source that passes is there
pub source_there : (p : Source → Bool) (o : Option Source) → option_map_or p o false ≡ true → (s : Source) × (o ≡ Some s) × (p s ≡ true)
source_there p None h = absurd (false≢true h)
source_there p (Some s) h = (s, refl, h)

not_both : (a b c d : Bool) → (b && c) ≡ false → (((a && b) && c) && d) ≡ false
not_both true true true d h = absurd (false≢true (sym h))
not_both true true false d h = refl
not_both true false c d h = refl
not_both false b c d h = refl

by_last : (a b c d : Bool) → a ≡ true → (b && c) ≡ true → (((a && b) && c) && d) ≡ d
by_last true true true d h k = refl
by_last true true false d h k = absurd (false≢true k)
by_last true false c d h k = absurd (false≢true k)
by_last false b c d h k = absurd (false≢true h)

not_taken : (w : BusWord) (s : Source) → (w.bus == s.bus && label w.bits == s.label) ≡ false → takes s w ≡ false
unfolding takes
not_taken w s h = not_both (is_odd w.bits) (w.bus == s.bus) (label w.bits == s.label) (has_sdi s.sdi w.bits) h

-- a source that takes a word listens to its bus and label
pub takes_listens : (params : List Parameter) (w : BusWord) (q : ℕ) → listens params w.bus (label w.bits) q ≡ false → takes_at params w q ≡ false
takes_listens params w q = at_some w (source_at params q) where
  at_some : (w : BusWord) (o : Option Source) → option_map_or (λ (s : Source). w.bus == s.bus && label w.bits == s.label) o false ≡ false → option_map_or (λ s. takes s w) o false ≡ false
  at_some w None h = refl
  at_some w (Some s) h = not_taken w s h

-- one that listens takes a word of odd parity by its SDI alone
pub takes_sdi : (w : BusWord) (s : Source) → is_odd w.bits ≡ true → (w.bus == s.bus && label w.bits == s.label) ≡ true → takes s w ≡ has_sdi s.sdi w.bits
unfolding takes
takes_sdi w s odd h = by_last (is_odd w.bits) (w.bus == s.bus) (label w.bits == s.label) (has_sdi s.sdi w.bits) odd h

-- a word of even parity is taken by none
pub not_even : (s : Source) (w : BusWord) → is_odd w.bits ≡ false → takes s w ≡ false
unfolding takes
not_even s w even = ap (λ b. ((b && w.bus == s.bus) && label w.bits == s.label) && has_sdi s.sdi w.bits) even
