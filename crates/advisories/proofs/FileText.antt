-- The fault and the limits that bytes are, by their length and what they parse to.
use Rattle.std.proofs.Common.{◌≡◌, ℕ, ◌<◌, ◌≤◌, true, false, leb, List, length, Some, None, refl, ap, ◌∙◌, arith}
use Rattle.std.proofs.lemmas.Bool.Decides.{nat_tests}
use Rattle.toml.specs.Data.{Members}
use Rattle.ecam_spec.specs.Book.{Book}
use Rattle.book_spec.specs.BookBytes.{table_of_text}
use Rattle.limits_spec.specs.declared.form.TheConstants.{LIMITS_BYTES}
use Rattle.limits_spec.specs.declared.form.LimitsFault.{LimitsFault}
use Rattle.limits_spec.specs.Document.{table_fault}
use Rattle.limits_spec.specs.LimitsOf.{limits_of}
use Rattle.limits_spec.specs.LimitsBytes.{top_fault, document_fault, limits_fault, document_limits, limits}

is_short : (n : ℕ) → n ≤ LIMITS_BYTES → leb n LIMITS_BYTES ≡ true
is_short n h = grind (arith, nat_tests)

is_long : (n : ℕ) → LIMITS_BYTES < n → leb n LIMITS_BYTES ≡ false
is_long n h = grind (arith, nat_tests)

module _ (b : Book) (bytes : List ℕ) where
  pub too_long : LIMITS_BYTES < length bytes → limits_fault b bytes ≡ Some (top_fault 1)
  unfolding limits_fault
  too_long long = rw (is_long (length bytes) long) refl

  short_fault : length bytes ≤ LIMITS_BYTES → limits_fault b bytes ≡ document_fault b (table_of_text bytes)
  unfolding limits_fault
  short_fault short = rw (is_short (length bytes) short) refl

  short_limits : length bytes ≤ LIMITS_BYTES → limits b bytes ≡ document_limits b (table_of_text bytes)
  unfolding limits
  short_limits short = rw (is_short (length bytes) short) refl

  pub no_document : length bytes ≤ LIMITS_BYTES → table_of_text bytes ≡ None → limits_fault b bytes ≡ Some (top_fault 2)
  no_document short none = short_fault short ∙ ap (document_fault b) none

  module _ (short : length bytes ≤ LIMITS_BYTES) (top : Members) (is : table_of_text bytes ≡ Some top) where
    pub faulty : (f : LimitsFault) → table_fault b top ≡ Some f → limits_fault b bytes ≡ Some f
    faulty f told = short_fault short ∙ ap (document_fault b) is ∙ told

    faultless_limits : table_fault b top ≡ None → document_limits b (Some top) ≡ Some (limits_of b top)
    faultless_limits none = rw none refl

    pub faultless : table_fault b top ≡ None → limits b bytes ≡ Some (limits_of b top)
    faultless none = short_limits short ∙ ap (document_limits b) is ∙ faultless_limits none
