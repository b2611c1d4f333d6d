-- The first bytes of a file.
use Rattle.std.proofs.Common.{◌≡◌, ℕ, ◌≤◌, ◌<◌, [], ◌++◌, Option, Some, length, take, length-take, sym, ap, ◌∙◌, subst, inl, inr, arith, append-nil}
use Rattle.std.specs.Io.KnownBytes.{Consumes, IsAtEnd}
use Rattle.std.proofs.KnownBytes.{Consumes-trans}
use Rattle.std.proofs.lemmas.List.{take_all, take-append-le}
use Rattle.std.proofs.lemmas.Bool.Decides.{leb_tells}
use Rattle.ecam_spec.specs.Book.{Text}
use Rattle.replay_core.specs.Loading.{IsFront, TookAtMost}
use Rattle.record_views.proofs.Endings.{told}

module _ (most : ℕ) where
  -- enough bytes came
  pub front-enough : (left now : Option Text) (v : Text) → Consumes left now v → length v ≡ most → (bytes : Text) → left ≡ Some bytes → IsFront most bytes v now
  front-enough left now v came many bytes is =
      let split = told bytes left now v is came in
      record { behind = split.0; parts = split.2; rest = split.1; few = omega (arith, many); whole = λ short. absurd (let w : ⊥ = omega (arith, many, short) in w) }

  -- all bytes came, and no more
  pub front-whole : (left mid now : Option Text) (v none : Text) → Consumes left mid v → Consumes mid now none → none ≡ [] → IsAtEnd now → length v ≤ most
      → (bytes : Text) → left ≡ Some bytes → IsFront most bytes v now
  front-whole left mid now v none came last nothing end few bytes is =
      let all = subst (λ more. Consumes left now more) (ap (λ more. v ++ more) nothing ∙ append-nil v) (Consumes-trans left mid now v none came last) in
      let split = told bytes left now v is all in
      record { behind = split.0; parts = split.2; rest = split.1; few = few; whole = λ short. subst IsAtEnd split.1 end }

  module _ (bytes v : Text) (left : Option Text) (front : IsFront most bytes v left) where
    -- it is as long as it may be, where the file is so long
    pub front-is : v ≡ take most bytes
    front-is =
        sym (ap (take most) front.parts
        ∙ (elim (leb_tells most (length v)) [
          | inl (_, enough) ↦ take-append-le most v front.behind enough ∙ take_all most v front.few
          | inr (_, short) ↦ ap (λ more. take most (v ++ more)) (front.whole short) ∙ ap (take most) (append-nil v) ∙ take_all most v front.few
        ]))

    pub front-took : TookAtMost most bytes left
    front-took = record { taken = v; behind = front.behind; parts = front.parts; rest = front.rest; few = front.few }

    -- a shorter one is the whole file
    pub front-all : length v < most → bytes ≡ v
    front-all short = front.parts ∙ ap (λ more. v ++ more) (front.whole short) ∙ append-nil v

    pub front-spent : length v < most → left ≡ Some []
    front-spent short = front.rest ∙ ap Some (front.whole short)

  -- what is the same of all files that are so long is told by the first bytes
  pub front-same : {A : Type 0} (of : Text → A) (long : A) → ((bytes : Text) → most ≤ length bytes → of bytes ≡ long) → (bytes : Text) → of (take most bytes) ≡ of bytes
  front-same of long is bytes =
      elim (leb_tells (length bytes) most) [
        | inl (_, short) ↦ ap of (take_all most bytes short)
        | inr (_, more) ↦ is (take most bytes) (omega (arith, more, length-take most bytes)) ∙ sym (is bytes (omega (arith, more)))
      ]
