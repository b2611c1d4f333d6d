-- One more event of an era: what it does to the moments by their numbers. What had come stays in each of them; only
-- the moment that hasn't ended changes.
use Rattle.std.proofs.Common.{◌≡◌, ℕ, suc, ◌<◌, ◌≤◌, inl, inr, true, false, ◌&&◌, List, [], ◌∷◌, ◌++◌, length, get_or, take, refl, sym, ◌∙◌, ap, arith}
use Rattle.std.specs.Prelude.{All, fold}
use Rattle.std.proofs.Math.Nat.{eq-or-lt_of_le}
use Rattle.std.proofs.lemmas.List.{get_or_append_left, get_or_at, get_or_past, get_or_default, length_push}
use Rattle.std.proofs.lemmas.List.Elements.{All-head, All-tail, All-take}
use Rattle.std.proofs.lemmas.Bool.{and_right}
use Rattle.ecam_spec.specs.declared.kinds.Event.{Event}
use Rattle.ecam_spec.specs.declared.kinds.Event.TheVariants.{Word, Tick, Press, Release, Fail, Up, End}
use Rattle.ecam_spec.specs.declared.kinds.Key.{Key}
use Rattle.ecam_spec.specs.Past.{moment_after}
use Rattle.ecam_spec.specs.History.{Flags, both_up, none_up, flags_with, flags_after, comes_up, changes_computers, begins_era, era_place, Moment, empty_moment, with_word, with_stroke, Era, era_with}
use Rattle.ecam_spec.specs.Replay.{is_tick, moment_of}
use Rattle.ecam_spec.proofs.Nowhere.{last-nowhere}

-- a whole moment
pub moment_whole : (e : Era) (k : ℕ) → k < length e.moments → moment_of e k ≡ get_or e.moments k e.open_moment
unfolding moment_of
moment_whole e k within = get_or_append_left e.moments (e.open_moment ∷ []) e.open_moment k within

-- the moment that hasn't ended, and past it
pub moment_open : (e : Era) (k : ℕ) → length e.moments ≤ k → moment_of e k ≡ e.open_moment
unfolding moment_of
moment_open e k past =
    elim (eq-or-lt_of_le past) [
      | inl here ↦ get_or_at e.moments e.open_moment [] e.open_moment k here
      | inr beyond ↦ get_or_past (e.moments ++ e.open_moment ∷ []) k e.open_moment (omega (arith, length_push e.moments e.open_moment))
    ]

moment_same : (d e : Era) → d.moments ≡ e.moments → (k : ℕ) → k < length e.moments → moment_of d k ≡ moment_of e k
moment_same d e same k within =
    let inside : k < length d.moments = omega (arith, ap length same) in
    moment_whole d k inside
    ∙ ap (λ ms. get_or ms k d.open_moment) same
    ∙ get_or_default e.moments k d.open_moment e.open_moment within
    ∙ sym (moment_whole e k within)

-- an event that is no Tick ends no moment
pub moments_kept : (e : Era) (x : Event) → is_tick x ≡ false → (era_with e x).moments ≡ e.moments
unfolding era_with
moments_kept e (Word b w) quiet = refl
moments_kept e Tick quiet = absurd (let w : ⊥ = cc in w)
moments_kept e (Press k) quiet = refl
moments_kept e (Release k) quiet = refl
moments_kept e (Fail n) quiet = refl
moments_kept e (Up n) quiet = refl
moments_kept e End quiet = refl

-- and changes no moment but the one that hasn't ended
pub moment_kept : (e : Era) (x : Event) (k : ℕ) → is_tick x ≡ false → k < length e.moments → moment_of (era_with e x) k ≡ moment_of e k
moment_kept e x k quiet within = moment_same (era_with e x) e (moments_kept e x quiet) k within

-- a Tick ends that moment as it is
pub moment_tick : (e : Era) (k : ℕ) → k ≤ length e.moments → moment_of (era_with e Tick) k ≡ moment_of e k
unfolding era_with moment_of
moment_tick e k within =
    let ms = e.moments ++ e.open_moment ∷ [] in
    let inside : k < length ms = omega (arith, length_push e.moments e.open_moment) in
    moment_whole (era_with e Tick) k inside
    ∙ get_or_default ms k (empty_moment e.open_moment.flags) e.open_moment inside

pub length_tick : (e : Era) → length (era_with e Tick).moments ≡ suc (length e.moments)
unfolding era_with
length_tick e = omega (arith, length_push e.moments e.open_moment)

-- and the next begins, in which nothing has come
pub moment_begun : (e : Era) → moment_of (era_with e Tick) (suc (length e.moments)) ≡ empty_moment (moment_of e (length e.moments)).flags
unfolding era_with
moment_begun e =
    moment_open (era_with e Tick) (suc (length e.moments)) (omega (arith, length_push e.moments e.open_moment))
    ∙ ap (λ (m : Moment). empty_moment m.flags) (sym (moment_open e (length e.moments) (omega arith)))

-- a word comes in the moment that hasn't ended, after those that have come
pub moment_word : (e : Era) (b w : ℕ) → moment_of (era_with e (Word b w)) (length e.moments) ≡ with_word (record { bus = b; bits = w }) (moment_of e (length e.moments))
unfolding era_with
moment_word e b w =
    moment_open (era_with e (Word b w)) (length e.moments) (omega arith)
    ∙ ap (with_word (record { bus = b; bits = w })) (sym (moment_open e (length e.moments) (omega arith)))

-- and so does a stroke
pub moment_press : (e : Era) (k : Key) → moment_of (era_with e (Press k)) (length e.moments) ≡ with_stroke (record { key = k; down = true }) (moment_of e (length e.moments))
unfolding era_with
moment_press e k =
    moment_open (era_with e (Press k)) (length e.moments) (omega arith)
    ∙ ap (with_stroke (record { key = k; down = true })) (sym (moment_open e (length e.moments) (omega arith)))

pub moment_release : (e : Era) (k : Key) → moment_of (era_with e (Release k)) (length e.moments) ≡ with_stroke (record { key = k; down = false }) (moment_of e (length e.moments))
unfolding era_with
moment_release e k =
    moment_open (era_with e (Release k)) (length e.moments) (omega arith)
    ∙ ap (with_stroke (record { key = k; down = false })) (sym (moment_open e (length e.moments) (omega arith)))

-- a computer that fails or comes up changes which are up at the moment's end
pub moment_computers : (e : Era) (x : Event) → changes_computers x ≡ true → moment_of (era_with e x) (length e.moments) ≡ record (moment_of e (length e.moments)) { flags = flags_with (moment_of e (length e.moments)).flags x }
unfolding era_with
moment_computers e (Fail n) changes =
    moment_open (era_with e (Fail n)) (length e.moments) (omega arith)
    ∙ ap (λ (m : Moment). record m { flags = flags_with m.flags (Fail n) }) (sym (moment_open e (length e.moments) (omega arith)))
moment_computers e (Up n) changes =
    moment_open (era_with e (Up n)) (length e.moments) (omega arith)
    ∙ ap (λ (m : Moment). record m { flags = flags_with m.flags (Up n) }) (sym (moment_open e (length e.moments) (omega arith)))
moment_computers e (Word b w) changes = absurd (let w : ⊥ = cc in w)
moment_computers e Tick changes = absurd (let w : ⊥ = cc in w)
moment_computers e (Press k) changes = absurd (let w : ⊥ = cc in w)
moment_computers e (Release k) changes = absurd (let w : ⊥ = cc in w)
moment_computers e End changes = absurd (let w : ⊥ = cc in w)

-- an event of no computer leaves them, and begins no era
flags_kept : (f : Flags) (x : Event) → changes_computers x ≡ false → flags_with f x ≡ f
unfolding flags_with
flags_kept f (Word b w) kept = refl
flags_kept f Tick kept = refl
flags_kept f (Press k) kept = refl
flags_kept f (Release k) kept = refl
flags_kept f (Fail n) kept = absurd (let w : ⊥ = cc in w)
flags_kept f (Up n) kept = absurd (let w : ⊥ = cc in w)
flags_kept f End kept = refl

pub begins_none : (f : Flags) (x : Event) → changes_computers x ≡ false → (comes_up x && none_up f) ≡ false
begins_none f (Word b w) kept = refl
begins_none f Tick kept = refl
begins_none f (Press k) kept = refl
begins_none f (Release k) kept = refl
begins_none f (Fail n) kept = refl
begins_none f (Up n) kept = absurd (let w : ⊥ = cc in w)
begins_none f End kept = refl

flags_stay : (f : Flags) (h : List Event) → All (λ x. changes_computers x ≡ false) h → fold flags_with f h ≡ f
flags_stay f [] kept = refl
flags_stay f (x ∷ h) kept =
    ap (λ g. fold flags_with g h) (flags_kept f x (All-head (λ y. changes_computers y ≡ false) x h kept))
    ∙ flags_stay f h (All-tail (λ y. changes_computers y ≡ false) x h kept)

-- both computers stay up where none fails
pub both_stay_up : (h : List Event) → All (λ x. changes_computers x ≡ false) h → flags_after h ≡ both_up
unfolding flags_after
both_stay_up h kept = flags_stay both_up h kept

pub some_up : (h : List Event) → All (λ x. changes_computers x ≡ false) h → none_up (flags_after h) ≡ false
some_up h kept = ap none_up (both_stay_up h kept)

-- and the history is one era
pub one_era : (h : List Event) → All (λ x. changes_computers x ≡ false) h → era_place h ≡ 0
unfolding era_place begins_era
one_era h kept =
    ap moment_after
    (last-nowhere (begins_era h) (length h)
    (λ i. and_right (comes_up (get_or h i Tick)) _ (some_up (take i h) (All-take (λ x. changes_computers x ≡ false) i h kept))))
