-- The stretch of moments in which ALL is held.
use Rattle.std.proofs.Common.{◌≡◌, ℕ, suc, ◌-◌, ◌<◌, Bool, true, false, ◌&&◌, Option, Some, None, cond, ltb, refl, sym, ◌∙◌, ap}
use Rattle.std.proofs.lemmas.Bool.{lt-ltb}
use Rattle.std.specs.Prelude.{unwrap_or, ◌/◌, ◌%◌}
use Rattle.std.specs.Option.{option_or}
use Rattle.ecam_spec.specs.Past.{Signal, start_of, running_since}
use Rattle.ecam_spec.specs.Selection.{Panel, page_in_turn}
use Rattle.ecam_spec.proofs.PastRuns.{running_since-suc, running_since-start}
use Rattle.system_display.specs.Selecting.{page_of_all}

some-if : (b : Bool) (x y : ℕ) → cond b (Some x) None ≡ Some y → (b ≡ true) × (x ≡ y)
some-if true x y e = (refl, cc)
some-if false x y e = cc

none-if : (b : Bool) (x : ℕ) → cond b (Some x) None ≡ None → b ≡ false
none-if true x e = cc
none-if false x e = refl

else-there : (o : Option ℕ) (k : ℕ) → option_or o (Some k) ≡ Some (unwrap_or o k)
else-there None k = refl
else-there (Some j) k = refl

-- the stretch that holds now began where it had begun, or begins now
pub start-on : (q : Signal) (k : ℕ) → q k ≡ true → running_since q (suc k) ≡ Some (unwrap_or (running_since q k) k)
start-on q k on =
    running_since-suc q k ∙ ap (λ b. cond b (option_or (running_since q k) (Some k)) None) on ∙ else-there (running_since q k) k

-- there is none where it isn't held
pub start-off : (q : Signal) (k : ℕ) → q k ≡ false → running_since q (suc k) ≡ None
start-off q k off = running_since-start q k ∙ ap (λ b. cond b (Some (start_of q k)) None) off

-- the page that ALL shows: none outside its stretch, else by where that began
pub page-off : (p : Panel) (k : ℕ) → running_since p.all_held (suc k) ≡ None → page_of_all p k ≡ None
page-off p k e =
    let off = none-if (p.all_held k) (start_of p.all_held k) (sym (running_since-start p.all_held k) ∙ e) in
    ap (λ b. cond (b && ltb 0 p.pages) (Some (page_in_turn p k)) None) off

pub page-turns : (p : Panel) (k since : ℕ) → running_since p.all_held (suc k) ≡ Some since → 0 < p.pages
    → page_of_all p k ≡ Some (((k - since) / 10) % p.pages)
unfolding page_in_turn
page-turns p k since e some =
    let held = some-if (p.all_held k) (start_of p.all_held k) since (sym (running_since-start p.all_held k) ∙ e) in
    ap (λ b. cond (b && ltb 0 p.pages) (Some (page_in_turn p k)) None) held.0
    ∙ ap (λ b. cond b (Some (page_in_turn p k)) None) (lt-ltb 0 p.pages some)
    ∙ ap (λ x. Some (((k - x) / 10) % p.pages)) held.1
