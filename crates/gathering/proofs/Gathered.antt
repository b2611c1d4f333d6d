-- What a sink that gathers has done that appended bytes to each list that it agreed with.
use Rattle.std.proofs.Common.{◌≡◌, Result, Ok, Err, ℕ, zero, suc, List, [], ◌∷◌, ◌++◌, length, take, drop, refl, sym, ◌∙◌, ap, subst, arith, append_assoc, append-nil, length-append}
use Rattle.std.specs.Prelude.{OnErr}
use Rattle.std.proofs.lemmas.List.{take-append-le, drop-append-le, append_cancel_right}
use Rattle.std.proofs.Math.Seq.{take-append_seam, drop-append_seam}
use Rattle.ecam_io.specs.Outside.{Appended}
use Rattle.gathering.specs.Handed.{IsHanded}
use Rattle.gathering.specs.Gathers.{EndsSo, HoldsSo, Gathers}

-- these bytes end with what was gathered, and with more behind them they end with what is gathered now
moves : (these front before more sent after : List ℕ) → these ≡ front ++ before → before ++ more ≡ sent ++ after
    → these ++ more ≡ (front ++ sent) ++ after
moves these front before more sent after ends handed =
    ap (λ t. t ++ more) ends ∙ append_assoc front before more ∙ ap (λ t. front ++ t) handed ∙ sym (append_assoc front sent after)

module _ {S : Type 0} (agrees : S → List ℕ → Type 0) (name : ℕ) (old new : S) (before after more : List ℕ) where
  -- of what was gathered and more behind it the first was handed on, and the rest is gathered
  pub gathers : IsHanded agrees old new (before ++ more) after → (w : List ℕ) → Gathers agrees name old before w
      → Gathers agrees name new after (w ++ more)
  gathers handed [] was = absurd was
  gathers handed (asked ∷ []) was = absurd was
  gathers handed (asked ∷ zero ∷ these) was = (
    was.0,
    record {
      front = was.1.front ++ handed.sent;
      parts = moves these was.1.front before more handed.sent after was.1.parts handed.parts;
    },
  )
  gathers handed (asked ∷ suc n ∷ these) was = record {
    long = omega (arith, was.long, length-append these more);
    front = was.front ++ handed.sent;
    parts = drop-append-le n these more was.long
        ∙ moves (drop n these) was.front before more handed.sent after was.parts handed.parts;
    holds = subst (agrees new)
        (append_assoc (take n these) was.front handed.sent
        ∙ ap (λ t. t ++ (was.front ++ handed.sent)) (sym (take-append-le n these more was.long)))
        (handed.written (take n these ++ was.front) was.holds);
  }

  -- as the sink that gathers tells it, whose reference stays the same
  pub gathers_as : (now : ℕ) → now ≡ name → IsHanded agrees old new (before ++ more) after → (w : List ℕ)
      → Gathers agrees name old before w → Gathers agrees now new after (w ++ more)
  gathers_as now same handed w was =
      subst (λ n. Gathers agrees n new after (w ++ more)) (sym same) (gathers handed w was)

  module _ (now : ℕ) (appended : (w : List ℕ) → Gathers agrees name old before w → Gathers agrees now new after (w ++ more)) where
    ends : (name ≡ now) × EndsSo (before ++ more) after
    ends = appended (name ∷ zero ∷ before) (refl, record { front = []; parts = refl })

    -- the sink behind it is the same
    pub same_sink : now ≡ name
    same_sink = sym ends.0

    written : Appended agrees old new ends.1.front
    written w holds =
        let held : HoldsSo agrees new after (length w) ((w ++ before) ++ more) =
        appended (zero ∷ suc (length w) ∷ (w ++ before)) (record {
          long = omega (arith, length-append w before);
          front = [];
          parts = drop-append_seam w before;
          holds = subst (agrees old) (sym (append-nil (take (length w) (w ++ before)) ∙ take-append_seam w before)) holds;
        }) in
        let all : (w ++ before) ++ more ≡ w ++ (before ++ more) = append_assoc w before more in
        let behind : before ++ more ≡ held.front ++ after =
        sym (ap (drop (length w)) all ∙ drop-append_seam w (before ++ more)) ∙ held.parts in
        let front : held.front ≡ ends.1.front =
        append_cancel_right held.front ends.1.front after (sym behind ∙ ends.1.parts) in
        let first : take (length w) ((w ++ before) ++ more) ≡ w =
        ap (take (length w)) all ∙ take-append_seam w (before ++ more) in
        subst (agrees new) (ap (λ t. t ++ held.front) first ∙ ap (λ t. w ++ t) front) held.holds

    -- and of what was gathered and more behind it the first was handed on
    pub handed : IsHanded agrees old new (before ++ more) after
    handed = record { sent = ends.1.front; parts = ends.1.parts; written = written }

module _ {S : Type 0} (agrees : S → List ℕ → Type 0) (name : ℕ) (old new : S) (before after : List ℕ) where
  -- where nothing came behind what was gathered, nothing was appended
  pub gathers_no_more : (now : ℕ) → now ≡ name → IsHanded agrees old new before after → (w : List ℕ)
      → Gathers agrees name old before w → Gathers agrees now new after w
  gathers_no_more now same handed w was =
      subst (Gathers agrees now new after) (append-nil w)
      (gathers_as agrees name old new before after [] now same
      (subst (λ all. IsHanded agrees old new all after) (sym (append-nil before)) handed) w was)

-- what is so is so where a call failed
pub where_failed : {A E : Type 0} (P : Type 0) (result : Result A E) → P → OnErr result P
where_failed P (Ok value) so = tt
where_failed P (Err error) so = so
