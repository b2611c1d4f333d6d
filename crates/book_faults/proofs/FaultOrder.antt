-- The order in which faults are searched for.
use Rattle.std.proofs.Common.{◌≡◌, ℕ, List, [], ◌∷◌, ◌++◌, map, not, Option, Some, None, is_some, true, false, refl, ap, ◌∙◌}
use Rattle.std.specs.Option.{option_or}
use Rattle.std.specs.Prelude.{is_none}
use Rattle.toml.specs.Data.{Members}
use Rattle.ecam_spec.specs.Faults.{fault_at, whole}
use Rattle.ecam_spec.specs.Places.{first_of}
use Rattle.ecam_spec.specs.declared.kinds.Section.TheVariants as section
use Rattle.book_spec.specs.Fields.{has_only}
use Rattle.ecam_spec.specs.declared.kinds.BookFault.{BookFault}
use Rattle.book_spec.specs.Document.{top_keys, rule_fault, repeated_fault, table_fault, version, is_second}
use Rattle.book_spec.specs.declared.schema.Rule.{Rule}
use Rattle.book_faults.specs.declared.rules.Asked.TheVariants.{One}
use Rattle.book_faults.specs.FaultParts.{asked_fault, ordered_fault, top_fault, before_names, after_names}

-- the last of several
pub or_none : (f : Option BookFault) → option_or f None ≡ f
or_none None = refl
or_none (Some x) = refl

-- what is there comes before what follows it
pub or_some : (f g : Option BookFault) → is_some f ≡ true → option_or f g ≡ f
or_some None g h = absurd (cc)
or_some (Some x) g h = refl

pub or_other : (f g : Option BookFault) → is_some f ≡ false → option_or f g ≡ g
or_other None g h = refl
or_other (Some x) g h = absurd (cc)

or_or : (f g h : Option BookFault) → option_or f (option_or g h) ≡ option_or (option_or f g) h
or_or None g h = refl
or_or (Some x) g h = refl

first_of-append : (fs gs : List (Option BookFault)) → first_of (fs ++ gs) ≡ option_or (first_of fs) (first_of gs)
first_of-append [] gs = refl
first_of-append (f ∷ fs) gs = ap (option_or f) (first_of-append fs gs) ∙ or_or f (first_of fs) (first_of gs)

module _ (top : Members) where
  -- a rule with its code
  abbrev one : ℕ × Rule → Option BookFault
  one r = asked_fault top r.0 (One r.1) (One r.1)

  -- the first fault is that of the top, or the first below it
  pub fault_parts : table_fault top ≡ option_or (top_fault top) (ordered_fault top)
  unfolding table_fault rule_fault asked_fault
  fault_parts =
      first_of-append (
      fault_at 3 section.Top (whole (is_none (version top)))
      ∷ fault_at 4 section.Top (whole (not (has_only (top_keys (is_second top)) top)))
      ∷ [])
      (map one before_names ++ (repeated_fault top ∷ map one after_names))
      ∙ ap (option_or (top_fault top)) (first_of-append (map one before_names) (repeated_fault top ∷ map one after_names))
