-- The alerts of the lines, one alert after another.
use Rattle.std.proofs.Common.{◌≡◌, ℕ, suc, ◌+◌, ◌-◌, ◌<◌, List, ◌++◌, length, take, replicate, get_or, All, inl, inr, refl, sym, ap, subst, ◌∙◌, arith, add-one, length-append}
use Rattle.std.proofs.lemmas.Bool.{cases_lt}
use Rattle.std.proofs.lemmas.List.{take_all, length-replicate, get_or-replicate, get_or_append_left, get_or-append_right}
use Rattle.std.proofs.lemmas.List.Elements.{All-append, All-replicate}
use Rattle.ecam_spec.specs.Book.{Book}
use Rattle.ecam_spec.specs.Situation.{alert_at, no_alert}
use Rattle.fwc_lane.specs.LineFlags.{lines_before, HasLine, AreLineAlerts}
use Rattle.fwc_lane.proofs.LineOwners.{before-all, before-next}

module _ (b : Book) where
  -- an alert of the book
  abbrev Is : ℕ → Type 0
  Is a = a < length b.alerts

  -- a list has, for each line of the first n alerts, the alert that has it
  pub record AreFirst (n : ℕ) (each : List ℕ) : Type 0 where
    pub lines : length each ≡ lines_before b n
    pub within : All Is each
    pub has : (i : ℕ) → i < length each → HasLine b (get_or each i 0) i

  pub first-all : (each : List ℕ) → AreFirst (length b.alerts) each → AreLineAlerts b each
  first-all each all = record {
    lines = all.lines ∙ before-all b;
    within = all.within;
    has = all.has;
  }

  module _ (n many : ℕ) (each : List ℕ) (lt : n < length b.alerts) (own : many ≡ length (alert_at b n).lines)
      (are : AreFirst n each) where
    abbrev behind : List ℕ
    behind = replicate many n

    next : length each + many ≡ lines_before b (suc n)
    next = omega (arith, are.lines, own, before-next b.alerts n no_alert lt)

    long : length (each ++ behind) ≡ length each + many
    long = length-append each behind ∙ ap (λ k. length each + k) (length-replicate many n)

    has-more : (i : ℕ) → i < length (each ++ behind) → HasLine b (get_or (each ++ behind) i 0) i
    has-more i inside = elim (cases_lt i (length each)) [
      | inl here ↦ subst (λ a. HasLine b a i) (sym (get_or_append_left each behind 0 i here)) (are.has i here)
      | inr past ↦
          let there = get_or-append_right each behind (length each) i 0 refl (omega (arith, past)) in
          let is = there ∙ get_or-replicate many (i - length each) n 0 (omega (arith, inside, long, past)) in
          subst (λ a. HasLine b a i) (sym is) record {
            from = omega (arith, past, are.lines);
            to = omega (arith, inside, long, next);
          }
    ]

    -- the next alert's lines
    pub first-more : (size had : ℕ) (new : List ℕ) → size ≡ length each + many → had ≡ length each
        → new ≡ take size each ++ replicate (size - had) n → AreFirst (n + 1) new
    first-more size had new all before is =
        let count : size - had ≡ many = omega (arith, all, before) in
        let same : take size each ++ replicate (size - had) n ≡ each ++ behind
        = ap (λ xs. xs ++ replicate (size - had) n) (take_all size each (omega (arith, all)))
        ∙ ap (λ k. each ++ replicate k n) count in
        rw add-one (subst (AreFirst (suc n)) (sym (is ∙ same)) record {
          lines = long ∙ next;
          within = All-append Is each behind are.within (All-replicate Is many n lt);
          has = has-more;
        })
