-- One more stroke, and one more moment, against the definitions of pressed and held.
use Rattle.std.proofs.Common.{◌≡◌, ℕ, zero, suc, Bool, true, false, not, ◌&&◌, ◌||◌, List, [], ◌∷◌, ◌++◌, Option, Some, None, cond, get_or, replicate, refl, sym, ap, ◌∙◌, arith}
use Rattle.std.proofs.Math.Bool.{beq}
use Rattle.std.proofs.Math.Path.{fun_ext}
use Rattle.std.specs.Prelude.{unwrap_or, is_none}
use Rattle.std.specs.List.{list_any}
use Rattle.std.specs.Option.{option_or}
use Rattle.ecam_spec.specs.declared.kinds.Key.{Key}
use Rattle.ecam_spec.specs.Past.{Signal, since}
use Rattle.ecam_spec.specs.History.{Stroke, OneMore}
use Rattle.ecam_spec.specs.Keys.{same_key, last_stroke, pressed, held}
use Rattle.ecam_spec.proofs.PastSteps.{since-zero, since-suc}
use Rattle.ecam_spec.proofs.PastAgree.{since-below}
use Rattle.ecam_kinds.specs.declared.keys.Keys.{Keys}
use Rattle.ecam_kinds.specs.KeyState.{IsKey, is_pressed, is_held, KeysStand}

any-push : {X : Type 0} (p : X → Bool) (xs : List X) (x : X) → list_any p (xs ++ x ∷ []) ≡ (p x || list_any p xs)
any-push p [] x = refl
any-push p (y ∷ ys) x = ap (λ b. p y || b) (any-push p ys x) ∙ or-swap (p y) (p x) (list_any p ys) where
  or-swap : (a b c : Bool) → (a || (b || c)) ≡ (b || (a || c))
  or-swap true true c = refl
  or-swap true false c = refl
  or-swap false b c = refl

last-push : (key : Key) (ss : List Stroke) (x : Stroke) → last_stroke key (ss ++ x ∷ []) ≡ cond (same_key key x.key) (Some x.down) (last_stroke key ss)
unfolding last_stroke
last-push key [] x = refl
last-push key (s ∷ ss) x =
    ap (λ o. option_or o (cond (same_key key s.key) (Some s.down) None)) (last-push key ss x)
    ∙ inside (same_key key x.key) (last_stroke key ss) (cond (same_key key s.key) (Some s.down) None) where
      inside : (b : Bool) (o p : Option Bool) → option_or (cond b (Some x.down) o) p ≡ cond b (Some x.down) (option_or o p)
      inside true o p = refl
      inside false o p = refl

-- whether the last of some strokes went down, and whether there is none
abbrev went_down : Option Bool → Bool
went_down o = unwrap_or o false

-- one more stroke in the moment that hasn't ended
module _ (s t : ℕ → List Stroke) (k : ℕ) (x : Stroke) (on : OneMore s t k x) (key : Key) where
  pressed-push : pressed t key k ≡ ((same_key key x.key && x.down) || pressed s key k)
  unfolding pressed
  pressed-push = ap (list_any (λ s. same_key key s.key && s.down)) on.now ∙ any-push (λ s. same_key key s.key && s.down) (s k) x

  last-now : last_stroke key (t k) ≡ cond (same_key key x.key) (Some x.down) (last_stroke key (s k))
  last-now = ap (last_stroke key) on.now ∙ last-push key (s k) x

-- the last stroke of a moment decides, and without one it is as before
decided : (b d : Bool) (o : Option Bool) (r : Bool) → (went_down (cond b (Some d) o) || (is_none (cond b (Some d) o) && r)) ≡ cond b d (went_down o || (is_none o && r))
decided true true o r = refl
decided true false o r = refl
decided false d o r = refl

begun : (b d : Bool) (o : Option Bool) → went_down (cond b (Some d) o) ≡ cond b d (went_down o)
begun true d o = refl
begun false d o = refl

held-push : (s t : ℕ → List Stroke) (k : ℕ) (x : Stroke) → OneMore s t k x → (key : Key) → held t key k ≡ cond (same_key key x.key) x.down (held s key k)
unfolding held
held-push s t zero x on key =
    since-zero (λ j. went_down (last_stroke key (t j))) (λ j. is_none (last_stroke key (t j)))
    ∙ ap went_down (last-now s t 0 x on key)
    ∙ begun (same_key key x.key) x.down (last_stroke key (s 0))
    ∙ ap (cond (same_key key x.key) x.down) (sym (since-zero (λ j. went_down (last_stroke key (s j))) (λ j. is_none (last_stroke key (s j)))))
held-push s t (suc k) x on key =
    let down : ((ℕ → List Stroke) → Signal) = λ u j. went_down (last_stroke key (u j)) in
    let none : ((ℕ → List Stroke) → Signal) = λ u j. is_none (last_stroke key (u j)) in
    let before : since (down t) (none t) k ≡ since (down s) (none s) k =
    since-below (down t) (down s) (none t) (none s) k
    (λ i h. ap (λ ss. went_down (last_stroke key ss)) (on.before i (omega arith)))
    (λ i h. ap (λ ss. is_none (last_stroke key ss)) (on.before i (omega arith))) in
    since-suc (down t) (none t) k
    ∙ ap (λ o. went_down o || (is_none o && since (down t) (none t) k)) (last-now s t (suc k) x on key)
    ∙ decided (same_key key x.key) x.down (last_stroke key (s (suc k))) (since (down t) (none t) k)
    ∙ ap (λ r. cond (same_key key x.key) x.down (down s (suc k) || (none s (suc k) && r))) before
    ∙ ap (cond (same_key key x.key) x.down) (sym (since-suc (down s) (none s) k))

-- the keys stand for one more stroke
pub stroke_stands : (s t : ℕ → List Stroke) (k : ℕ) (x : Stroke) (old new : Keys) → OneMore s t k x
    → ((q : Key) → IsKey q → is_pressed new q ≡ ((same_key q x.key && x.down) || is_pressed old q))
    → ((q : Key) → IsKey q → is_held new q ≡ cond (same_key q x.key) x.down (is_held old q))
    → KeysStand s k old → KeysStand t k new
stroke_stands s t k x old new on pressed_as held_as stands = record {
  pressed = λ key is. pressed_as key is ∙ ap (λ b. (same_key key x.key && x.down) || b) (stands.pressed key is) ∙ sym (pressed-push s t k x on key);
  held = λ key is. held_as key is ∙ ap (cond (same_key key x.key) x.down) (stands.held key is) ∙ sym (held-push s t k x on key);
}

-- and for a moment that begins
pub moment_stands : (s : ℕ → List Stroke) (k : ℕ) (old new : Keys) → s (suc k) ≡ []
    → ((q : Key) → IsKey q → is_pressed new q ≡ false) → ((q : Key) → IsKey q → is_held new q ≡ is_held old q)
    → KeysStand s k old → KeysStand s (suc k) new
unfolding pressed held last_stroke
moment_stands s k old new none none_pressed same_held stands = record {
  pressed = λ key is. none_pressed key is ∙ sym (ap (list_any (λ x. same_key key x.key && x.down)) none);
  held = λ key is. same_held key is ∙ stands.held key is
      ∙ sym (since-suc (λ j. went_down (last_stroke key (s j))) (λ j. is_none (last_stroke key (s j))) k
      ∙ ap (λ ss. went_down (last_stroke key ss) || (is_none (last_stroke key ss) && held s key k)) none);
}

-- before any stroke
pub none_stand : (s : ℕ → List Stroke) (keys : Keys) → s 0 ≡ []
    → ((q : Key) → IsKey q → is_pressed keys q ≡ false) → ((q : Key) → IsKey q → is_held keys q ≡ false) → KeysStand s 0 keys
unfolding pressed held last_stroke
none_stand s keys none none_pressed none_held = record {
  pressed = λ key is. none_pressed key is ∙ sym (ap (list_any (λ x. same_key key x.key && x.down)) none);
  held = λ key is. none_held key is
      ∙ sym (since-zero (λ j. went_down (last_stroke key (s j))) (λ j. is_none (last_stroke key (s j))) ∙ ap (λ ss. went_down (last_stroke key ss)) none);
}

-- no place of a list without a true has one
pub none_true : (n i : ℕ) → get_or (replicate n false) i false ≡ false
none_true zero i = refl
none_true (suc n) zero = refl
none_true (suc n) (suc i) = none_true n i

-- whether a flag is set, as a search for `true` says it
pub any-set : (flags : List Bool) → list_any (λ f. beq f true) flags ≡ list_any (λ f. f) flags
any-set flags = ap (λ test. list_any test flags) (fun_ext is-set) where
  is-set : (f : Bool) → beq f true ≡ f
  is-set true = refl
  is-set false = refl

-- where none is set, each is false
pub none-set : (flags : List Bool) (i : ℕ) → list_any (λ f. f) flags ≡ false → get_or flags i false ≡ false
none-set [] zero none = refl
none-set [] (suc i) none = refl
none-set (true ∷ flags) i none = absurd (let w : ⊥ = cc in w)
none-set (false ∷ flags) zero none = refl
none-set (false ∷ flags) (suc i) none = none-set flags i none

-- a key that goes down, and one that goes up
pub or-down : (b c : Bool) → (b || c) ≡ ((b && true) || c)
or-down true c = refl
or-down false c = refl

pub cond-down : (b c : Bool) → (b || c) ≡ cond b true c
cond-down true c = refl
cond-down false c = refl

pub or-up : (b c : Bool) → c ≡ ((b && false) || c)
or-up true c = refl
or-up false c = refl

pub cond-up : (b c : Bool) → (not b && c) ≡ cond b false c
cond-up true c = refl
cond-up false c = refl
