-- One more event: what it does to the flags, to the era and to its moments.
use Rattle.std.proofs.Common.{◌≡◌, ℕ, suc, ◌<◌, ◌≤◌, Bool, true, false, ◌&&◌, inl, inr, List, [], ◌∷◌, ◌++◌, length, get_or, take, drop, refl, sym, ◌∙◌, ap, cond, arith}
use Rattle.std.specs.Prelude.{fold}
use Rattle.std.proofs.lemmas.List.{length-append, get_or_append_left, get_or_at, take-append-le, drop-append-le, take-append-drop, get_or_past}
use Rattle.std.proofs.lemmas.List.Sums.{fold-append}
use Rattle.std.proofs.Math.Seq.{take-length, drop-length}
use Rattle.std.proofs.Math.Nat.{eq-or-lt_of_le}
use Rattle.std.proofs.lemmas.Bool.{and_parts}
use Rattle.ecam_spec.specs.declared.kinds.Event.{Event}
use Rattle.ecam_spec.specs.declared.kinds.Event.TheVariants.{Word, Tick, Press, Release, Fail, Up, End}
use Rattle.ecam_spec.specs.Past.{last, moment_after}
use Rattle.ecam_spec.specs.History.{Flags, both_up, none_up, flags_with, flags_after, comes_up, begins_era, era_place, Era, empty_era, era_with, era, begun}
use Rattle.ecam_spec.proofs.PastSteps.{last-here, last-skip, last-before}
use Rattle.ecam_spec.proofs.PastAgree.{last-below}

pub flags_step : (h : List Event) (e : Event) → flags_after (h ++ e ∷ []) ≡ flags_with (flags_after h) e
unfolding flags_after
flags_step h e = fold-append flags_with both_up h (e ∷ [])

-- no era begins past the end of a history
ends-false : (h : List Event) (i : ℕ) → length h ≤ i → begins_era h i ≡ false
unfolding begins_era
ends-false h i past = ap (λ e. comes_up e && none_up (flags_after (take i h))) (get_or_past h i Tick past)

-- one more event changes no earlier place
earlier-same : (h : List Event) (e : Event) (i : ℕ) → i < length h → begins_era (h ++ e ∷ []) i ≡ begins_era h i
unfolding begins_era
earlier-same h e i within =
    ap (λ x. comes_up x && none_up (flags_after (take i (h ++ e ∷ [])))) (get_or_append_left h (e ∷ []) Tick i within)
    ∙ ap (λ t. comes_up (get_or h i Tick) && none_up (flags_after t)) (take-append-le i h (e ∷ []) (omega arith))

-- whether the event begins an era
at-end : (h : List Event) (e : Event) → begins_era (h ++ e ∷ []) (length h) ≡ (comes_up e && none_up (flags_after h))
unfolding begins_era
at-end h e =
    ap (λ x. comes_up x && none_up (flags_after (take (length h) (h ++ e ∷ [])))) (get_or_at h e [] Tick (length h) refl)
    ∙ ap (λ t. comes_up e && none_up (flags_after t)) (take-append-le (length h) h (e ∷ []) (omega arith) ∙ take-length h)

length-snoc : (h : List Event) (e : Event) → length (h ++ e ∷ []) ≡ suc (length h)
length-snoc h e = length-append h (e ∷ []) ∙ omega arith

last-snoc : (h : List Event) (e : Event) → last (begins_era (h ++ e ∷ [])) (length (h ++ e ∷ [])) ≡ last (begins_era (h ++ e ∷ [])) (length h)
last-snoc h e =
    ap (last (begins_era (h ++ e ∷ []))) (length-snoc h e)
    ∙ last-skip (begins_era (h ++ e ∷ [])) (length h) (ends-false (h ++ e ∷ []) (suc (length h)) (omega (arith, length-snoc h e)))

place-within : (h : List Event) → era_place h ≤ length h
unfolding era_place
place-within h = last-before (begins_era h) (length h) (ends-false h (length h) (omega arith))

-- an event that begins no era leaves its place
place-stays : (h : List Event) (e : Event) → (comes_up e && none_up (flags_after h)) ≡ false → era_place (h ++ e ∷ []) ≡ era_place h
unfolding era_place
place-stays h e goes =
    ap moment_after
    (last-snoc h e
    ∙ last-below (begins_era (h ++ e ∷ [])) (begins_era h) (length h)
    (λ i within.
    elim (eq-or-lt_of_le within) [
      | inr l ↦ earlier-same h e i l
      | inl q ↦ ap (begins_era (h ++ e ∷ [])) q ∙ at-end h e ∙ goes ∙ sym (ends-false h (length h) (omega arith)) ∙ ap (begins_era h) (sym q)
    ]))

place-begins : (h : List Event) (e : Event) → (comes_up e && none_up (flags_after h)) ≡ true → era_place (h ++ e ∷ []) ≡ length (h ++ e ∷ [])
unfolding era_place
place-begins h e comes =
    ap moment_after (last-snoc h e ∙ last-here (begins_era (h ++ e ∷ [])) (length h) (at-end h e ∙ comes)) ∙ sym (length-snoc h e)

-- an event belongs to the era of the history before it
pub era_goes_on : (h : List Event) (e : Event) → (comes_up e && none_up (flags_after h)) ≡ false → era (h ++ e ∷ []) ≡ era_with (era h) e
unfolding era
era_goes_on h e goes =
    ap (λ p. fold era_with (empty_era (flags_after (take p (h ++ e ∷ [])))) (drop p (h ++ e ∷ []))) (place-stays h e goes)
    ∙ ap (λ t. fold era_with (empty_era (flags_after t)) (drop (era_place h) (h ++ e ∷ []))) (take-append-le (era_place h) h (e ∷ []) (place-within h))
    ∙ ap (λ t. fold era_with (empty_era (flags_after (take (era_place h) h))) t) (drop-append-le (era_place h) h (e ∷ []) (place-within h))
    ∙ fold-append era_with (empty_era (flags_after (take (era_place h) h))) (drop (era_place h) h) (e ∷ [])

-- but an event by which a computer comes up while both were down begins a new one
pub era_begins : (h : List Event) (e : Event) → (comes_up e && none_up (flags_after h)) ≡ true → era (h ++ e ∷ []) ≡ empty_era (flags_after (h ++ e ∷ []))
unfolding era
era_begins h e comes =
    ap (λ p. fold era_with (empty_era (flags_after (take p (h ++ e ∷ [])))) (drop p (h ++ e ∷ []))) (place-begins h e comes)
    ∙ ap (λ t. fold era_with (empty_era (flags_after (take (length (h ++ e ∷ [])) (h ++ e ∷ [])))) t) (drop-length (h ++ e ∷ []))
    ∙ ap (λ t. empty_era (flags_after t)) (take-length (h ++ e ∷ []))

-- the flags of the moment that hasn't ended are those after the history
flags-with : (a : Era) (e : Event) → (era_with a e).open_moment.flags ≡ flags_with a.open_moment.flags e
unfolding era_with flags_with
flags-with a (Word b w) = refl
flags-with a Tick = refl
flags-with a (Press k) = refl
flags-with a (Release k) = refl
flags-with a (Fail n) = refl
flags-with a (Up n) = refl
flags-with a End = refl

flags-fold : (a : Era) (es : List Event) → (fold era_with a es).open_moment.flags ≡ fold flags_with a.open_moment.flags es
flags-fold a [] = refl
flags-fold a (e ∷ es) = flags-fold (era_with a e) es ∙ ap (λ f. fold flags_with f es) (flags-with a e)

pub era_flags : (h : List Event) → (era h).open_moment.flags ≡ flags_after h
unfolding era flags_after
era_flags h =
    flags-fold (empty_era (fold flags_with both_up (take (era_place h) h))) (drop (era_place h) h)
    ∙ sym (fold-append flags_with both_up (take (era_place h) h) (drop (era_place h) h))
    ∙ ap (fold flags_with both_up) (take-append-drop (era_place h) h)

pub era_nil : era [] ≡ empty_era both_up
unfolding era era_place flags_after begins_era last
era_nil = refl

-- ---- the era into which an event goes

comes-empty : (f : Flags) (x : Event) → comes_up x ≡ true → era_with (empty_era f) x ≡ empty_era (flags_with f x)
unfolding era_with flags_with
comes-empty f (Up n) e = refl
comes-empty f (Word b w) e = absurd (let w : ⊥ = cc in w)
comes-empty f Tick e = absurd (let w : ⊥ = cc in w)
comes-empty f (Press k) e = absurd (let w : ⊥ = cc in w)
comes-empty f (Release k) e = absurd (let w : ⊥ = cc in w)
comes-empty f (Fail n) e = absurd (let w : ⊥ = cc in w)
comes-empty f End e = absurd (let w : ⊥ = cc in w)

next-by-case : (h : List Event) (x : Event) (b : Bool) → (comes_up x && none_up (flags_after h)) ≡ b → era (h ++ x ∷ []) ≡ era_with (cond b (empty_era (flags_after h)) (era h)) x
next-by-case h x true comes =
    era_begins h x comes ∙ ap empty_era (flags_step h x)
    ∙ sym (comes-empty (flags_after h) x ((and_parts (comes_up x) (none_up (flags_after h)) comes).0))
next-by-case h x false goes = era_goes_on h x goes

-- one more event goes into the era in which it finds the history
pub era_next : (h : List Event) (x : Event) → era (h ++ x ∷ []) ≡ era_with (begun h x) x
unfolding begun
era_next h x = next-by-case h x (comes_up x && none_up (flags_after h)) refl

flags-begun : (h : List Event) (b : Bool) → (cond b (empty_era (flags_after h)) (era h)).open_moment.flags ≡ flags_after h
flags-begun h true = refl
flags-begun h false = era_flags h

-- which computers are up then
pub flags_next : (h : List Event) (x : Event) → (era_with (begun h x) x).open_moment.flags ≡ flags_with (flags_after h) x
unfolding begun
flags_next h x = flags-with (begun h x) x ∙ ap (λ f. flags_with f x) (flags-begun h (comes_up x && none_up (flags_after h)))
