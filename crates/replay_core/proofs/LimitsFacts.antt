-- What the bytes of a limits file tell.
use Rattle.std.proofs.Common.{◌≡◌, ◌≤◌, true, false, List, Option, Some, None, length, take, cond, leb, refl, arith}
use Rattle.std.specs.Prelude.{is_none, if◌then◌else◌}
use Rattle.std.proofs.lemmas.Bool.{lt-leb}
use Rattle.ecam_spec.specs.Book.{Text, Book}
use Rattle.book_spec.specs.BookBytes.{table_of_text}
use Rattle.view_spec.specs.Advisories.{Advisory}
use Rattle.limits_spec.specs.Document.{table_fault}
use Rattle.limits_spec.specs.LimitsOf.{limits_of}
use Rattle.limits_spec.specs.LimitsBytes.{top_fault, document_fault, limits_fault, document_limits, limits}
use Rattle.limits_spec.specs.declared.form.LimitsFault.{LimitsFault}
use Rattle.limits_spec.specs.declared.form.TheConstants.{LIMITS_BYTES}
use Rattle.replay_core.specs.Loading.{past_limits}
use Rattle.replay_core.proofs.Files.{front-same}

module _ (b : Book) where
  -- limits that are too long are told by their first bytes
  long-fault : (bytes : Text) → past_limits ≤ length bytes → limits_fault b bytes ≡ Some (top_fault 1)
  unfolding limits_fault
  long-fault bytes long = rw (lt-leb (length bytes) LIMITS_BYTES (omega (arith, long))) refl

  long-limits : (bytes : Text) → past_limits ≤ length bytes → limits b bytes ≡ None
  unfolding limits
  long-limits bytes long = rw (lt-leb (length bytes) LIMITS_BYTES (omega (arith, long))) refl

  pub limits_fault-front : (bytes : Text) → limits_fault b (take past_limits bytes) ≡ limits_fault b bytes
  limits_fault-front = front-same past_limits (limits_fault b) (Some (top_fault 1)) long-fault

  pub limits-front : (bytes : Text) → limits b (take past_limits bytes) ≡ limits b bytes
  limits-front = front-same past_limits (limits b) None long-limits

  -- limits have no fault
  faultless-in : (o : _) (ls : List Advisory) → document_limits b o ≡ Some ls → document_fault b o ≡ None
  faultless-in None ls is = absurd (let w : ⊥ = cc in w)
  faultless-in (Some top) ls is = by (table_fault b top) is where
    by : (o : Option LimitsFault) → cond (is_none o) (Some (limits_of b top)) None ≡ Some ls → o ≡ None
    by None is = refl
    by (Some g) is = absurd (let w : ⊥ = cc in w)

  pub limits-faultless : (bytes : Text) (ls : List Advisory) → limits b bytes ≡ Some ls → limits_fault b bytes ≡ None
  unfolding limits limits_fault
  limits-faultless bytes ls is =
      (elim (leb (length bytes) LIMITS_BYTES) as (λ c. (if c then document_limits b (table_of_text bytes) else None) ≡ Some ls
      → (if c then document_fault b (table_of_text bytes) else Some (top_fault 1)) ≡ None) [
        | true ↦ λ is. faultless-in (table_of_text bytes) ls is
        | false ↦ λ is. absurd (let w : ⊥ = cc in w)
      ]) is
