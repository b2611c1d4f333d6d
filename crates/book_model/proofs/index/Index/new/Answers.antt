use Rattle.std.proofs.Common.{◌≡◌, ◌+◌, ◌<◌, ℕ, List, [], ◌∷◌, ◌++◌, map, replicate, get_or, set, Option, Some, None, All, MatchOption, refl, sym, ◌∙◌, subst, arith}
use Rattle.std.specs.Prelude.{⊤, option_map}
use Rattle.std.proofs.lemmas.List.{length-map}
use Rattle.ecam_spec.specs.Book.{Parameter}
use Rattle.ecam_spec.specs.KeepsLimits.{IsSoundParameter, IsSoundSource}
use Rattle.book_model.specs.declared.draft.WordSource.{WordSource}
use Rattle.book_model.specs.View.{source_of, parameter_of}
use Rattle.book_model.specs.SourcePlaces.{source_at}
use Rattle.book_model.specs.Listening.{key_of, turned}
use Rattle.book_model.proofs.SourcePlaces.{sound_source}
use Rattle.book_model.proofs.Labels.{turned-small}
use Rattle.book_model.proofs.Entering.{IsEntered, entered_none, enter_none, enter_some, entered_all}
use Rattle.book_model.proofs.index.Index.new.Goals as goal

key_within : (params : List Parameter) (n keys : ℕ) (o : Option WordSource) → All IsSoundParameter params → option_map source_of o ≡ source_at params n → keys ≡ 4096
    → MatchOption o ⊤ (λ s. key_of s.bus (turned s.label) < keys)
key_within params n keys None sound e all = tt
key_within params n keys (Some s) sound e all =
    let is : IsSoundSource (source_of s) = sound_source params n (source_of s) sound (sym e) in
    omega (arith, is.bus, turned-small s.label)

entered : (params : List Parameter) (n : ℕ) (last before last' before' : List (Option ℕ)) (r : Option ℕ) (o : Option WordSource)
    → All IsSoundParameter params → option_map source_of o ≡ source_at params n
    → MatchOption o (r ≡ None) (λ s. r ≡ get_or last (key_of s.bus (turned s.label)) None)
    → MatchOption o (last' ≡ last) (λ s. last' ≡ set last (key_of s.bus (turned s.label)) (Some n))
    → before' ≡ before ++ r ∷ [] → IsEntered params n last before → IsEntered params (n + 1) last' before'
entered params n last before last' before' r None sound e front kept pushed is =
    rw (pushed, kept, front) (enter_none params n last before is (sym e))
entered params n last before last' before' r (Some s) sound e front kept pushed is =
    let sound_one : IsSoundSource (source_of s) = sound_source params n (source_of s) sound (sym e) in
    rw (pushed, kept, front) (enter_some params n last before is (source_of s) (sym e) sound_one.bus sound_one.label)

pub loop-place-init : goal.loop-place-init
loop-place-init c =
    let blank : c.resize.new.self.items ≡ replicate 4096 None = c.in_ok-resize.ensures.items ∙ rw (c.new-last.ensures.items, c.new-last.ensures.len) refl in
    subst (IsEntered (map parameter_of c.args.params.now) 0 c.resize.new.self.items) (sym c.new-before.ensures.items)
    (entered_none (map parameter_of c.args.params.now) c.resize.new.self.items 4096 refl blank)

pub enter-earlier-requires : goal.enter-earlier-requires
enter-earlier-requires c =
    key_within (map parameter_of c.args.params.now) c.loop-place.place _ c.source_at.result c.requires.sound c.source_at.ensures (omega (arith, c.loop-place.invariant.keys))

pub loop-place-preserved : goal.loop-place-preserved
loop-place-preserved c =
    entered (map parameter_of c.args.params.now) c.loop-place.place c.loop-place.last.items c.loop-place.before.items c.enter-earlier.new.last.items c.push.new.self.items
    c.enter-earlier.result c.source_at.result c.requires.sound c.source_at.ensures c.enter-earlier.ensures.result c.enter-earlier.ensures.last c.in_ok-push.ensures.items c.loop-place.invariant

pub returns : goal.returns
returns c =
    entered_all (map parameter_of c.args.params.now) c.loop-place.place (record { last = c.into_boxed_slice.result; before = c.into_boxed_slice-2.result }) c.loop-place.last.items c.loop-place.before.items
    c.into_boxed_slice.ensures.items c.into_boxed_slice-2.ensures.items (omega (arith, c.loop-place-test.false, c.loop-place.auto.place-end, length-map c.args.params.now parameter_of)) c.loop-place.invariant
