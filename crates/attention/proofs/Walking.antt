-- A walk over some alerts, on its way: those before its place have been stepped, and the others are as they were.
use Rattle.std.proofs.Common.{◌≡◌, ◌≢◌, ℕ, zero, suc, ◌<◌, Bool, true, List, [], ◌∷◌, length, set, slice_get, Some, inl, inr, refl, sym, ◌∙◌, ap, arith}
use Rattle.std.proofs.lemmas.List.{length-set, get_or-set_same}
use Rattle.std.proofs.lemmas.Option.{slice_get-get_or}
use Rattle.std.proofs.lemmas.Bool.{cases_eq}
use Rattle.ecam_spec.specs.declared.kinds.Level.{Level}
use Rattle.ecam_spec.specs.declared.kinds.Sound.{Sound}
use Rattle.ecam_spec.specs.Lamps as lamps
use Rattle.wakes.specs.Marks.{is_marked}
use Rattle.attention.specs.declared.callers.Callers.{Callers}
use Rattle.attention.specs.declared.watch.Watch.{Watch}
use Rattle.attention.specs.Watches.{AreMarked}
use Rattle.attention.specs.Calling.{marks_for}
use Rattle.attention.specs.Walked.{IsStepped, IsLeft}

pub get-same : (xs : List Watch) (i : ℕ) (w : Watch) → i < length xs → slice_get (set xs i w) i ≡ Some w
get-same xs i w within =
    slice_get-get_or (set xs i w) i w (omega (arith, length-set {A = Watch})) ∙ ap Some (get_or-set_same xs i w w within)

pub get-other : (xs : List Watch) (i j : ℕ) (w : Watch) → j ≢ i → slice_get (set xs i w) j ≡ slice_get xs j
get-other [] i j w apart = refl
get-other (x ∷ xs) zero zero w apart = absurd (apart refl)
get-other (x ∷ xs) zero (suc j) w apart = refl
get-other (x ∷ xs) (suc i) zero w apart = refl
get-other (x ∷ xs) (suc i) (suc j) w apart = get-other xs i j w (λ e. apart (ap suc e))

-- something is kept of one more, and it is marked where the test asks for it
pub marked-more : (test : Watch → Bool) (watches news : List Watch) (marks next : List ℕ) (i : ℕ) (w : Watch)
    → i < length watches → news ≡ set watches i w → ((j : ℕ) → j ≢ i → is_marked next j ≡ is_marked marks j)
    → (test w ≡ true → is_marked next i ≡ true) → AreMarked test watches marks → AreMarked test news next
marked-more test watches news marks next i w within written others own before j x read is = elim (cases_eq j i) [
  | inl e ↦
      let kept : Some x ≡ Some w =
      sym read ∙ ap (slice_get news) e ∙ ap (λ ws. slice_get ws i) written ∙ get-same watches i w within in
      let one : x ≡ w = cc in
      ap (is_marked next) e ∙ own (sym (ap test one) ∙ is)
  | inr apart ↦
      others j apart ∙ before j x (sym (get-other watches i j w apart) ∙ sym (ap (λ ws. slice_get ws j) written) ∙ read) is
]

-- what is left as it is after more has been left so
pub left-on : (i : ℕ) (watches news lasts : List Watch) (callers next ends : Callers) → IsLeft i watches callers news next
    → IsLeft i news next lasts ends → IsLeft i watches callers lasts ends
left-on i watches news lasts callers next ends first then = record { watch = then.watch ∙ first.watch; marks = then.marks ∙ first.marks }

pub stepped-on : (a : lamps.Attention) (k i : ℕ) (shown : Bool) (watches news : List Watch) (callers next : Callers)
    → IsStepped a k i shown watches callers → IsLeft i watches callers news next → IsStepped a k i shown news next
stepped-on a k i shown watches news callers next was left = record { watch = left.watch ∙ was.watch; marks = left.marks ∙ was.marks }

pub marks-same : (level l : Level) (sound s : Sound) (on b : Bool) → level ≡ l → sound ≡ s → on ≡ b
    → marks_for level sound on ≡ marks_for l s b
marks-same level l sound s on b levels sounds calls = rw (levels, sounds, calls) refl
