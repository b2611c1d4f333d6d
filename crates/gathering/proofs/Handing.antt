-- Output that was gathered, and what of it was written.
use Rattle.std.proofs.Common.{◌≡◌, zero, suc, Result, Ok, Err, ℕ, List, [], ◌++◌, length, refl, sym, ap, ◌∙◌, subst, append-nil, append_assoc, take, drop}
use Rattle.std.proofs.lemmas.List.{take-append-drop}
use Rattle.std.proofs.Math.Seq.{take-append_seam}
use Rattle.std.specs.Prelude.{OnOk, OnErr}
use Rattle.ecam_io.specs.Outside.{Appended, AppendedPrefix}
use Rattle.ecam_io.proofs.Calls.{Appended-none, Appended-append, AppendedPrefix-after, AppendedPrefix-longer}
use Rattle.gathering.specs.Handed.{IsHanded}

pub drop_none : (n : ℕ) → drop {A = ℕ} n [] ≡ []
drop_none zero = refl
drop_none (suc n) = refl

module _ {S : Type 0} (agrees : S → List ℕ → Type 0) where
  -- nothing was handed over
  pub handed-none : (s : S) (gathered : List ℕ) → IsHanded agrees s s gathered gathered
  handed-none s gathered = record { sent = []; parts = refl; written = Appended-none agrees s }

  -- all was, where the call succeeded
  pub handed-all : {E : Type 0} → (old new : S) (bytes gathered : List ℕ) (result : Result (Unit {0}) E) → OnOk result (gathered ≡ []) → OnOk result (Appended agrees old new bytes)
      → OnOk result (IsHanded agrees old new bytes gathered)
  handed-all old new bytes gathered (Ok u) none written = record {
    sent = bytes;
    parts = sym (ap (λ g. bytes ++ g) none ∙ append-nil bytes);
    written = written;
  }
  handed-all old new bytes gathered (Err e) none written = none

  module _ (old mid new : S) (bytes gathered : List ℕ) (handed : IsHanded agrees old mid bytes gathered) (more : List ℕ) where
    behind : bytes ++ more ≡ handed.sent ++ (gathered ++ more)
    behind = ap (λ front. front ++ more) handed.parts ∙ append_assoc handed.sent gathered more

    -- what was gathered, and more behind it, was handed over
    pub handed-then : (after : List ℕ) → IsHanded agrees mid new (gathered ++ more) after → IsHanded agrees old new (bytes ++ more) after
    handed-then after next = record {
      sent = handed.sent ++ next.sent;
      parts = behind ∙ ap (λ rest. handed.sent ++ rest) next.parts ∙ sym (append_assoc handed.sent next.sent after);
      written = Appended-append agrees old mid new handed.sent next.sent handed.written next.written;
    }

    -- it was written
    pub handed-written : Appended agrees mid new (gathered ++ more) → Appended agrees old new (bytes ++ more)
    handed-written written =
        subst (Appended agrees old new) (sym behind) (Appended-append agrees old mid new handed.sent (gathered ++ more) handed.written written)

    -- a prefix of it was
    pub handed-part : AppendedPrefix agrees mid new (gathered ++ more) → AppendedPrefix agrees old new (bytes ++ more)
    handed-part part =
        subst (AppendedPrefix agrees old new) (sym behind) (AppendedPrefix-after agrees old mid new handed.sent (gathered ++ more) handed.written part)

    -- as a call tells it that ends with this
    pub written-then : {E : Type 0} → (all : List ℕ) → all ≡ gathered ++ more → (result : Result (Unit {0}) E) → OnOk result (Appended agrees mid new all)
        → OnOk result (Appended agrees old new (bytes ++ more))
    written-then all is (Ok u) written = handed-written (subst (Appended agrees mid new) is written)
    written-then all is (Err e) none = none

    pub part-then : {E : Type 0} → (all : List ℕ) → all ≡ gathered ++ more → (result : Result (Unit {0}) E) → OnErr result (AppendedPrefix agrees mid new all)
        → OnErr result (AppendedPrefix agrees old new (bytes ++ more))
    part-then all is (Ok u) none = none
    part-then all is (Err e) part = handed-part (subst (AppendedPrefix agrees mid new) is part)

  module _ (old mid new : S) (bytes gathered : List ℕ) (handed : IsHanded agrees old mid bytes gathered) where
    -- the same without more
    pub handed-on : (after : List ℕ) → IsHanded agrees mid new gathered after → IsHanded agrees old new bytes after
    handed-on after next =
        subst (λ all. IsHanded agrees old new all after) (append-nil bytes)
        (handed-then old mid new bytes gathered handed [] after (subst (λ all. IsHanded agrees mid new all after) (sym (append-nil gathered)) next))

    pub written-on : Appended agrees mid new gathered → Appended agrees old new bytes
    written-on written =
        subst (Appended agrees old new) (append-nil bytes)
        (handed-written old mid new bytes gathered handed [] (subst (Appended agrees mid new) (sym (append-nil gathered)) written))

    -- a prefix of what was gathered was written: so one of all, whatever follows
    pub part-on : (more : List ℕ) → AppendedPrefix agrees mid new gathered → AppendedPrefix agrees old new (bytes ++ more)
    part-on more part = handed-part old mid new bytes gathered handed more (AppendedPrefix-longer agrees mid new gathered more part)

  -- the first bytes are written, and the others are gathered
  pub handed-front : (old new : S) (count : ℕ) (bytes : List ℕ) → Appended agrees old new (take count bytes)
      → IsHanded agrees old new bytes (drop count bytes)
  handed-front old new count bytes written = record {
    sent = take count bytes;
    parts = sym (take-append-drop count bytes);
    written = written;
  }

  -- more is gathered behind what is
  pub handed-more : (old new : S) (bytes gathered more : List ℕ) → IsHanded agrees old new bytes gathered
      → IsHanded agrees old new (bytes ++ more) (gathered ++ more)
  handed-more old new bytes gathered more handed =
      handed-then old new new bytes gathered handed more (gathered ++ more) (handed-none new (gathered ++ more))

  -- what was handed on is a front of all
  pub handed-prefix : (old new : S) (bytes gathered : List ℕ) → IsHanded agrees old new bytes gathered → AppendedPrefix agrees old new bytes
  handed-prefix old new bytes gathered handed = record {
    part = handed.sent;
    prefix = ap (take (length handed.sent)) handed.parts ∙ take-append_seam handed.sent gathered;
    appended = handed.written;
  }

  -- where nothing is gathered any more, all was
  pub handed-whole : (old new : S) (bytes gathered : List ℕ) → IsHanded agrees old new bytes gathered → gathered ≡ [] → Appended agrees old new bytes
  handed-whole old new bytes gathered handed none =
      subst (Appended agrees old new) (sym (handed.parts ∙ ap (λ g. handed.sent ++ g) none ∙ append-nil handed.sent)) handed.written
