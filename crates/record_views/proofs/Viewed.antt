-- What a view has done that wrote to a sink that gathers, by what is seen of the sink behind it.
use Rattle.std.proofs.Common.{◌≡◌, ℕ, suc, ◌+◌, ◌∷◌, true, false, Result, Ok, Err, List, [], ◌++◌, length, drop, refl, sym, ◌∙◌, ap, subst, append_assoc, add-one}
use Rattle.std.specs.Prelude.{OnOk, OnErr}
use Rattle.std.proofs.lemmas.List.{take-append-drop}
use Rattle.ecam_io.specs.Outside.{Appended, AppendedPrefix}
use Rattle.ecam_io.proofs.Calls.{AppendedPrefix-longer}
use Rattle.ecam_spec.specs.declared.kinds.Event.{Event}
use Rattle.ecam_spec.specs.declared.kinds.Event.TheVariants.{Word, Tick, Press, Release, Fail, Up, End}
use Rattle.ecam_spec.specs.Book.{Text, Book}
use Rattle.ecam_spec.specs.Replay.{is_tick, tick_count}
use Rattle.ecam_spec.proofs.ReplaySteps.{tick_count_kept, tick_count_tick}
use Rattle.fwc_pair.specs.PairState.{PairStands}
use Rattle.fwc_pair.specs.Views.{Adds, AddsPart}
use Rattle.fwc_pair.specs.declared.pair.Pair.{Pair}
use Rattle.gathering.specs.Handed.{IsHanded}
use Rattle.gathering.specs.Gathers.{Gathers}
use Rattle.gathering.specs.declared.sink.Gathering.{Gathering}
use Rattle.gathering.proofs.Gathered.{same_sink, handed}
use Rattle.gathering.proofs.Handing.{handed-on, handed-prefix, handed-whole}
use Rattle.record_views.specs.Showing.{Showing}
use Rattle.record_views.specs.Runs.{HasFed, HasFedPart}

-- ---- the number of Ticks

the-tick : (e : Event) → is_tick e ≡ true → e ≡ Tick
the-tick Tick is = refl
the-tick (Word bus bits) is = absurd (let w : ⊥ = cc in w)
the-tick (Press k) is = absurd (let w : ⊥ = cc in w)
the-tick (Release k) is = absurd (let w : ⊥ = cc in w)
the-tick (Fail n) is = absurd (let w : ⊥ = cc in w)
the-tick (Up n) is = absurd (let w : ⊥ = cc in w)
the-tick End is = absurd (let w : ⊥ = cc in w)

pub one-more-tick : (e : Event) → is_tick e ≡ true → (ticks : ℕ) (h : List Event) → ticks ≡ tick_count h → ticks + 1 ≡ tick_count (h ++ e ∷ [])
one-more-tick e is ticks h count =
    add-one ticks ∙ ap suc count ∙ sym (ap (λ x. tick_count (h ++ x ∷ [])) (the-tick e is) ∙ tick_count_tick h)

pub no-more-ticks : (e : Event) → is_tick e ≡ false → (ticks : ℕ) (h : List Event) → ticks ≡ tick_count h → ticks ≡ tick_count (h ++ e ∷ [])
no-more-ticks e quiet ticks h count = count ∙ sym (tick_count_kept h e quiet)

-- ---- what was written

module _ {S : Type 0} (agrees : S → List ℕ → Type 0) where
  abbrev gathers : Gathering S → List ℕ → Type 0
  gathers g = Gathers agrees g.out.ghost_name g.out.now g.bytes.items

  module _ (old new : Gathering S) where
    name-kept : (more : Text) → Appended gathers old new more → new.out.ghost_name ≡ old.out.ghost_name
    name-kept more written =
        same_sink agrees old.out.ghost_name old.out.now new.out.now old.bytes.items new.bytes.items more new.out.ghost_name written

    pub handed-behind : (more : Text) → Appended gathers old new more → IsHanded agrees old.out.now new.out.now (old.bytes.items ++ more) new.bytes.items
    handed-behind more written =
        handed agrees old.out.ghost_name old.out.now new.out.now old.bytes.items new.bytes.items more new.out.ghost_name written

    pub part-behind : (whole : Text) → AppendedPrefix gathers old new whole → AppendedPrefix agrees old.out.now new.out.now (old.bytes.items ++ whole)
    part-behind whole h =
        let first = handed-prefix agrees old.out.now new.out.now (old.bytes.items ++ h.part) new.bytes.items (handed-behind h.part h.appended) in
        let rest = drop (length h.part) whole in
        let parts : h.part ++ rest ≡ whole =
        ap (λ t. t ++ rest) (sym h.prefix) ∙ take-append-drop (length h.part) whole in
        subst (AppendedPrefix agrees old.out.now new.out.now)
        (append_assoc old.bytes.items h.part rest ∙ ap (λ t. old.bytes.items ++ t) parts)
        (AppendedPrefix-longer agrees old.out.now new.out.now (old.bytes.items ++ h.part) rest first)

    -- ---- the sink behind it is the same

    pub same-event : {E : Type 0} → (before after : Text) (result : Result (Unit {0}) E) → OnOk result (Adds gathers old new before after)
        → OnErr result (AddsPart gathers old new before after) → new.out.ghost_name ≡ old.out.ghost_name
    same-event before after (Ok u) adds part = name-kept adds.more adds.written
    same-event before after (Err e) adds part = name-kept part.written.part part.written.appended

    pub same-closing : {E : Type 0} → (whole : Text) (result : Result (Unit {0}) E) → OnOk result (Appended gathers old new whole)
        → OnErr result (AppendedPrefix gathers old new whole) → new.out.ghost_name ≡ old.out.ghost_name
    same-closing whole (Ok u) all part = name-kept whole all
    same-closing whole (Err e) all part = name-kept part.part part.appended

    -- ---- an event

    module _ (b : Book) (o : Showing) (h : List Event) (e : Event) {E : Type 0} where
      pub fed : (pair : Pair) (viewed : List Event → Type 0) → PairStands b (h ++ e ∷ []) pair → (result : Result (Unit {0}) E)
          → OnOk result (viewed (h ++ e ∷ [])) → OnOk result (Adds gathers old new (o.text h) (o.text (h ++ e ∷ [])))
          → OnOk result (HasFed b o agrees old.out.now new.out.now viewed old.bytes.items new.bytes.items h e pair)
      fed pair viewed stands (Ok u) seen adds = record {
        stands = stands;
        seen = seen;
        more = adds.more;
        joined = adds.joined;
        handed = handed-behind adds.more adds.written;
      }
      fed pair viewed stands (Err x) seen adds = tt

      pub fed-part : (result : Result (Unit {0}) E) → OnErr result (AddsPart gathers old new (o.text h) (o.text (h ++ e ∷ [])))
          → OnErr result (HasFedPart b o agrees old.out.now new.out.now old.bytes.items h e)
      fed-part (Ok u) part = tt
      fed-part (Err x) part = record { more = part.more; joined = part.joined; part = part-behind part.more part.written }

  -- ---- the end

  module _ (old mid new : Gathering S) (whole : Text) (written : Appended gathers old mid whole)
      (over : IsHanded agrees mid.out.now new.out.now mid.bytes.items new.bytes.items) where
    on : IsHanded agrees old.out.now new.out.now (old.bytes.items ++ whole) new.bytes.items
    on = handed-on agrees old.out.now mid.out.now new.out.now (old.bytes.items ++ whole) mid.bytes.items (handed-behind old mid whole written) new.bytes.items over

    pub closed : {E : Type 0} → (result : Result (Unit {0}) E) → OnOk result (new.bytes.items ≡ [])
        → OnOk result (Appended agrees old.out.now new.out.now (old.bytes.items ++ whole))
    closed (Ok u) none = handed-whole agrees old.out.now new.out.now (old.bytes.items ++ whole) new.bytes.items on none
    closed (Err e) none = tt

    pub closed-part : {E : Type 0} → (result : Result (Unit {0}) E) → OnErr result (AppendedPrefix agrees old.out.now new.out.now (old.bytes.items ++ whole))
    closed-part (Ok u) = tt
    closed-part (Err e) = handed-prefix agrees old.out.now new.out.now (old.bytes.items ++ whole) new.bytes.items on

-- what is so is so where a call failed
pub on-err : {A E : Type 0} (P : Type 0) (result : Result A E) → P → OnErr result P
on-err P (Ok value) so = tt
on-err P (Err error) so = so

-- what is so is so where a call succeeded
pub on-ok : {A E : Type 0} (P : Type 0) (result : Result A E) → P → OnOk result P
on-ok P (Ok value) so = so
on-ok P (Err error) so = tt
