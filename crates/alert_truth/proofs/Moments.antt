-- One alert in one moment more.
use Rattle.std.proofs.Common.{◌≡◌, ℕ, suc, ◌-◌, Bool, true, false, not, ◌&&◌, ◌||◌, Option, Some, None, cond, leb, refl, sym, ap, ◌∙◌}
use Rattle.std.specs.Option.{option_or, option_map_or}
use Rattle.ecam_spec.specs.Past.{Signal, previous, running_since}
use Rattle.ecam_spec.specs.Alert as alert
use Rattle.ecam_spec.proofs.PastSteps.{since-now}
use Rattle.ecam_spec.proofs.PastRuns.{running_since-suc, historically_within-running}

-- the run goes on, or begins now
pub since-on : (p : Signal) (k : ℕ) (before : Option ℕ) → before ≡ running_since p k → p k ≡ true → option_or before (Some k) ≡ running_since p (suc k)
since-on p k before is on =
    ap (λ o. option_or o (Some k)) is ∙ sym (running_since-suc p k ∙ ap (λ b. cond b (option_or (running_since p k) (Some k)) None) on)

-- or is broken off
pub since-off : (p : Signal) (k : ℕ) → p k ≡ false → None ≡ running_since p (suc k)
since-off p k off = sym (running_since-suc p k ∙ ap (λ b. cond b (option_or (running_since p k) (Some k)) None) off)

present-by : (n : ℕ) (p : Signal) (k : ℕ) (since : Option ℕ) → since ≡ running_since p (suc k) → option_map_or (λ s. leb n (k - s)) since false ≡ alert.present n p k
unfolding alert.present
present-by n p k since is = sym (historically_within-running n p k ∙ ap (λ o. option_map_or (λ s. leb n (k - s)) o false) (sym is))

pub present-running : (n : ℕ) (p : Signal) (k s : ℕ) → Some s ≡ running_since p (suc k) → leb n (k - s) ≡ alert.present n p k
present-running n p k s is = present-by n p k (Some s) is

pub present-broken : (n : ℕ) (p : Signal) (k : ℕ) → None ≡ running_since p (suc k) → false ≡ alert.present n p k
present-broken n p k is = present-by n p k None is

active-bits : (p i w : Bool) → (p && (w || not i)) ≡ ((p && not i) || (p && w))
active-bits true true true = refl
active-bits true true false = refl
active-bits true false true = refl
active-bits true false false = refl
active-bits false i w = refl

-- an alert that is present is active where it was, or isn't inhibited
pub active-now : (inhibits p : Signal) (k : ℕ) (is_present was inhibited : Bool) → was ≡ previous (alert.active inhibits p) k → inhibited ≡ inhibits k → is_present ≡ p k → (is_present && (was || not inhibited)) ≡ alert.active inhibits p k
unfolding alert.active
active-now inhibits p k is_present was inhibited before now here =
    ap (λ b. b && (was || not inhibited)) here
    ∙ ap (λ b. p k && (was || not b)) now
    ∙ ap (λ b. p k && (b || not (inhibits k))) before
    ∙ active-bits (p k) (inhibits k) (previous (alert.active inhibits p) k)
    ∙ sym (since-now (λ j. p j && not (inhibits j)) p k)
