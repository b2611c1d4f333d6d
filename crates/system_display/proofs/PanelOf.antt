-- The panel of a book and the moments of an era: what the keys and the target show of it.
use Rattle.std.proofs.Common.{◌≡◌, ℕ, zero, suc, ◌+◌, ◌<◌, ◌≤◌, Bool, true, false, ◌&&◌, length, Option, Some, None, refl, sym, ◌∙◌, ap, arith}
use Rattle.std.specs.Option.{option_or}
use Rattle.ecam_spec.specs.declared.kinds.Key.TheVariants.{Clr, Sts, All, Emer, Page}
use Rattle.ecam_spec.specs.Places.{first_place}
use Rattle.ecam_spec.specs.Book.{Book}
use Rattle.ecam_spec.specs.History.{Moment}
use Rattle.ecam_spec.specs.Keys.{pressed}
use Rattle.ecam_spec.specs.Situation.{strokes_in}
use Rattle.ecam_spec.specs.Screen.{panel, target_in, targets_caution}
use Rattle.ecam_kinds.specs.KeyState.{KeysStand, is_pressed}
use Rattle.ecam_kinds.specs.declared.keys.Keys.{Keys}
use Rattle.system_display.specs.Panels.{Shows, is_caution_target}

first-same : (p q : ℕ → Bool) (n : ℕ) → ((i : ℕ) → i < n → p i ≡ q i) → first_place p n ≡ first_place q n
unfolding first_place
first-same p q zero same = refl
first-same p q (suc n) same =
    ap (λ o. option_or o (elim (p n) [ true ↦ Some n | false ↦ None ])) (first-same p q n (λ i h. same i (omega arith)))
    ∙ ap (λ b. option_or (first_place q n) (elim b [ true ↦ Some n | false ↦ None ])) (same n (omega arith))

target-same : (b : Book) (moments : ℕ → Moment) (target : Option ℕ) → targets_caution b moments target ≡ is_caution_target b target
target-same b moments None = refl
target-same b moments (Some a) = refl

-- with the keys and the target of the era's moment k, the panel is used as the era's
pub era-shown : (b : Book) (moments : ℕ → Moment) (k : ℕ) (keys : Keys) (target : Option ℕ) → length b.pages ≤ 16
    → KeysStand (strokes_in b moments) k keys → target ≡ target_in b moments k → Shows b keys target (panel b moments) k
unfolding panel
era-shown b moments k keys target few stand same =
    let strokes = strokes_in b moments in
    record {
      pages = refl;
      all_held = sym (stand.held All tt);
      page_called = first-same (λ i. pressed strokes (Page (i + 1)) k) (λ i. is_pressed keys (Page (i + 1))) (length b.pages)
          (λ i h. sym (stand.pressed (Page (i + 1)) (omega arith, omega arith)));
      sts = sym (stand.pressed Sts tt);
      clr = sym (stand.pressed Clr tt);
      cancels = ap (λ c. c && targets_caution b moments (target_in b moments k)) (sym (stand.pressed Emer tt))
          ∙ ap (λ t. is_pressed keys Emer && t) (target-same b moments (target_in b moments k) ∙ ap (is_caution_target b) (sym same));
    }
