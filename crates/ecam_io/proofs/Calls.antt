-- What several calls in a row do to a source, a shelf or a sink.
use Rattle.std.proofs.Common.{ℕ, ◌+◌, ◌≤◌, List, [], ◌++◌, Option, None, Some, IsSomeAnd, length, take, drop, sym, ◌∙◌, ap, subst, arith, append_assoc, append-nil, length-take, length-append}
use Rattle.std.proofs.lemmas.List.{take_all, take-append-le}
use Rattle.std.proofs.Math.Seq.{take-add, take-append-add}
use Rattle.std.specs.Io.{StartsWith}
use Rattle.ecam_io.specs.Outside.{Rose, file_named, FileHas, Appended, IsKept, AppendedPrefix}

-- a count that rose in a call rose from any earlier moment on
pub Rose-earlier : (before mid now : ℕ) → before ≤ mid → Rose mid now → Rose before now
Rose-earlier before mid now first rose = λ below. omega (arith, rose)

-- what follows from what the file holds
pub FileHas-weaker : (files : Option (List (List ℕ × List ℕ))) (name : List ℕ) (P Q : List ℕ → Type 0)
    → ((bytes : List ℕ) → P bytes → Q bytes) → FileHas files name P → FileHas files name Q
FileHas-weaker None name P Q then has = has
FileHas-weaker (Some files) name P Q then has = found-weaker (file_named files name) has where
  found-weaker : (found : Option (List ℕ)) → IsSomeAnd found P → IsSomeAnd found Q
  found-weaker None h = h
  found-weaker (Some bytes) h = then bytes h

-- a front of the front is a front of all
pub StartsWith-append : (xs ys part : List ℕ) → StartsWith xs part → StartsWith (xs ++ ys) part
StartsWith-append xs ys part h =
    let short : length part ≤ length xs = omega (arith, length-take (length part) xs, ap length h) in
    take-append-le (length part) xs ys short ∙ h

-- what stands before, and then a front of what follows
pub StartsWith-both : (xs ys part : List ℕ) → StartsWith ys part → StartsWith (xs ++ ys) (xs ++ part)
StartsWith-both xs ys part h =
    ap (λ n. take n (xs ++ ys)) (length-append xs part) ∙ take-append-add xs ys (length part) ∙ ap (λ l. xs ++ l) h

module _ {S A : Type 0} (agrees : S → List A → Type 0) where
  -- no call appends nothing
  pub Appended-none : (s : S) → Appended agrees s s []
  Appended-none s w was = subst (agrees s) (sym (append-nil w)) was

  -- what two calls appended, one after the other
  pub Appended-append : (old mid new : S) (xs ys : List A) → Appended agrees old mid xs → Appended agrees mid new ys → Appended agrees old new (xs ++ ys)
  Appended-append old mid new xs ys first second w was =
      subst (agrees new) (append_assoc w xs ys) (second (w ++ xs) (first w was))

  -- what a call appended, and then one that appended nothing
  pub Appended-kept : (old mid new : S) (xs : List A) → Appended agrees old mid xs → IsKept agrees mid new → Appended agrees old new xs
  Appended-kept old mid new xs first kept w was = kept (w ++ xs) (first w was)

module _ {S : Type 0} (agrees : S → List ℕ → Type 0) where
  -- a call that appended the front of what was left, after those that appended what stands before
  pub Appended-take : (old mid new : S) (bytes : List ℕ) (done n : ℕ) → Appended agrees old mid (take done bytes)
      → Appended agrees mid new (take n (drop done bytes)) → Appended agrees old new (take (done + n) bytes)
  Appended-take old mid new bytes done n first second =
      subst (Appended agrees old new) (sym (take-add done n bytes)) (Appended-append agrees old mid new (take done bytes) (take n (drop done bytes)) first second)

  -- all is a prefix
  pub AppendedPrefix-all : (old new : S) (bytes : List ℕ) → Appended agrees old new bytes → AppendedPrefix agrees old new bytes
  AppendedPrefix-all old new bytes h = record { part = bytes; prefix = take_all (length bytes) bytes (omega arith); appended = h }

  -- a prefix stays one where more follows
  pub AppendedPrefix-longer : (old new : S) (xs ys : List ℕ) → AppendedPrefix agrees old new xs → AppendedPrefix agrees old new (xs ++ ys)
  AppendedPrefix-longer old new xs ys h = record { part = h.part; prefix = StartsWith-append xs ys h.part h.prefix; appended = h.appended }

  -- a whole part, and then a prefix of the next
  pub AppendedPrefix-after : (old mid new : S) (xs ys : List ℕ) → Appended agrees old mid xs → AppendedPrefix agrees mid new ys → AppendedPrefix agrees old new (xs ++ ys)
  AppendedPrefix-after old mid new xs ys first h = record {
    part = xs ++ h.part;
    prefix = StartsWith-both xs ys h.part h.prefix;
    appended = Appended-append agrees old mid new xs h.part first h.appended;
  }

  -- a prefix, and then a call that appended nothing
  pub AppendedPrefix-kept : (old mid new : S) (bytes : List ℕ) → AppendedPrefix agrees old mid bytes → IsKept agrees mid new → AppendedPrefix agrees old new bytes
  AppendedPrefix-kept old mid new bytes h kept = record { part = h.part; prefix = h.prefix; appended = Appended-kept agrees old mid new h.part h.appended kept }
