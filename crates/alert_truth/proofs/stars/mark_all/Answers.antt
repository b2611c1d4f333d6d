use Rattle.std.proofs.Common.{◌≡◌, ℕ, Bool, true, false, ◌==◌, ◌||◌, get_or, take, refl, sym, ap, ◌∙◌, inl, inr, arith}
use Rattle.std.specs.List.{list_any}
use Rattle.std.proofs.lemmas.Bool.{cases_eq, eq-eqb, ne_eqb}
use Rattle.std.proofs.lemmas.List.Folds.{list_any_more}
use Rattle.wakes.specs.Marks.{is_marked}
use Rattle.alert_truth.proofs.stars.mark_all.Goals as goal

turned : (a p : ℕ) → (a == p) ≡ (p == a)
turned a p = elim (cases_eq a p) [
  | inl same ↦ eq-eqb a p same ∙ sym (eq-eqb p a (sym same))
  | inr apart ↦ ne_eqb a p apart ∙ sym (ne_eqb p a (λ e. apart (sym e)))
]

swapped : (x y z : Bool) → (y || (x || z)) ≡ ((x || y) || z)
swapped true true z = refl
swapped true false z = refl
swapped false true z = refl
swapped false false z = refl

pub mark-requires : goal.mark-requires
mark-requires c = omega (arith, c.requires c.loop-place.place-index 0 c.loop-place-test.true, c.loop-place.invariant.room)

pub loop-place-preserved : goal.loop-place-preserved
loop-place-preserved c =
    let places = c.args.places.now in
    let i = c.loop-place.place-index in
    let p : ℕ = get_or places i 0 in
    let lists : ℕ → ℕ → Bool = λ a s. s == a in
    record {
      room = c.mark.ensures.room ∙ c.loop-place.invariant.room;
      marks = λ a.
          c.mark.ensures.marks a ∙ ap (λ m. a == p || m) (c.loop-place.invariant.marks a)
          ∙ ap (λ e. e || (list_any (lists a) (take i places) || is_marked c.args.marks.now a)) (turned a p)
          ∙ swapped (list_any (lists a) (take i places)) (p == a) (is_marked c.args.marks.now a)
          ∙ sym (ap (λ l. l || is_marked c.args.marks.now a) (list_any_more (lists a) places i 0 c.loop-place-test.true));
    }
