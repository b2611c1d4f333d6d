-- What a replay writes, event by event.
use Rattle.std.proofs.Common.{◌≡◌, ℕ, suc, ◌+◌, ◌<◌, ◌^◌, Bool, true, false, Result, Ok, Err, List, [], ◌∷◌, ◌++◌, length, refl, sym, ap, ◌∙◌, subst, add-one, append-nil}
use Rattle.std.specs.Prelude.{OnOk, OnErr}
use Rattle.ecam_io.specs.Outside.{Appended, AppendedPrefix}
use Rattle.ecam_io.proofs.Calls.{Appended-none}
use Rattle.ecam_spec.specs.declared.kinds.Event.{Event}
use Rattle.ecam_spec.specs.declared.kinds.Event.TheVariants.{Word, Tick, Press, Release, Fail, Up, End}
use Rattle.ecam_spec.specs.Book.{Text, Book}
use Rattle.ecam_spec.specs.Output.{block}
use Rattle.ecam_spec.specs.Picture as spec
use Rattle.ecam_spec.specs.Replay.{history_blocks, is_tick, tick_count, picture, last_picture}
use Rattle.ecam_spec.proofs.ReplaySteps.{tick_count_kept, tick_count_tick, last_picture_tick, history_blocks_kept, history_blocks_tick}
use Rattle.ecam_kinds.specs.Shown.{picture_of}
use Rattle.fwc_lane.specs.ChangedRows.{TellsRows, row_differs}
use Rattle.fwc_pair.proofs.Histories.{changed-tick}
use Rattle.fwc_pair.specs.PairState.{PairStands}
use Rattle.fwc_pair.specs.Views.{IsNext, Adds, AddsPart}
use Rattle.fwc_pair.specs.declared.pair.Pair.{Pair}
use Rattle.replay_core.proofs.PictureRows.{last-long}
use Rattle.replay_core.specs.Flagged.{NamesRows}

-- an event that is a Tick
pub the-tick : (e : Event) → is_tick e ≡ true → e ≡ Tick
the-tick Tick is = refl
the-tick (Word bus bits) is = absurd (let w : ⊥ = cc in w)
the-tick (Press k) is = absurd (let w : ⊥ = cc in w)
the-tick (Release k) is = absurd (let w : ⊥ = cc in w)
the-tick (Fail n) is = absurd (let w : ⊥ = cc in w)
the-tick (Up n) is = absurd (let w : ⊥ = cc in w)
the-tick End is = absurd (let w : ⊥ = cc in w)

module _ (b : Book) (h : List Event) where
  -- the rows that the pair tells as changed at a Tick are those in which its picture differs from the one before
  pub tick-names : (new : spec.Picture) (flags : List Bool) → new ≡ last_picture b (h ++ Tick ∷ [])
      → TellsRows (picture b (h ++ Tick ∷ [])) (tick_count (h ++ Tick ∷ [])) flags → NamesRows (last_picture b h) new flags
  tick-names new flags is tells = record {
    old_whole = last-long b h;
    new_whole = ap length is ∙ last-long b (h ++ Tick ∷ []);
    each = λ i within. tells i within ∙ changed-tick b h i ∙ ap (λ p. row_differs (last_picture b h) p i) (sym (last_picture_tick b h) ∙ sym is);
  }

  -- the block that a Tick adds
  pub tick-adds : history_blocks b (h ++ Tick ∷ []) ≡ history_blocks b h ++ block (tick_count h) (last_picture b h) (last_picture b (h ++ Tick ∷ []))
  tick-adds = history_blocks_tick b h ∙ ap (λ p. history_blocks b h ++ block (tick_count h) (last_picture b h) p) (sym (last_picture_tick b h))

-- ---- what an event adds

module _ (b : Book) (h : List Event) (e : Event) (fresh : Bool) (p : Pair) (next : IsNext b h e fresh p) {S : Type 0} (agrees : S → List ℕ → Type 0) where
  pub quiet-adds : is_tick e ≡ false → (s : S) → Adds agrees s s (history_blocks b h) (history_blocks b (h ++ e ∷ []))
  quiet-adds quiet s = record {
    more = [];
    joined = history_blocks_kept b h e quiet ∙ sym (append-nil (history_blocks b h));
    written = Appended-none agrees s;
  }

  pub quiet-count : is_tick e ≡ false → (ticks : ℕ) → ticks ≡ tick_count h → ticks ≡ tick_count (h ++ e ∷ [])
  quiet-count quiet ticks count = count ∙ sym (tick_count_kept h e quiet)

  module _ (is : is_tick e ≡ true) (ticks : ℕ) (count : ticks ≡ tick_count h) where
    pub tick-count : ticks + 1 ≡ tick_count (h ++ e ∷ [])
    tick-count = add-one ticks ∙ ap suc count ∙ sym (ap (λ x. tick_count (h ++ x ∷ [])) (the-tick e is) ∙ tick_count_tick h)

    pub few-ticks : ticks < 2 ^ 32
    few-ticks = subst (λ n. n < 2 ^ 32) (sym count) next.few

    -- the block of the pair's picture
    pub tick-block : (text : Text) (flags : List Bool) → flags ≡ p.changed
        → ((old : spec.Picture) → NamesRows old (picture_of p.face) flags → text ≡ block ticks old (picture_of p.face))
        → history_blocks b (h ++ e ∷ []) ≡ history_blocks b h ++ text
    tick-block text flags same told =
        let stands = subst (λ x. PairStands b (h ++ x ∷ []) p) (the-tick e is) next.pair in
        let names = subst (NamesRows (last_picture b h) (picture_of p.face)) (sym same) (tick-names b h (picture_of p.face) p.changed stands.face stands.changed) in
        ap (λ x. history_blocks b (h ++ x ∷ [])) (the-tick e is)
        ∙ tick-adds b h
        ∙ ap (λ q. history_blocks b h ++ block (tick_count h) (last_picture b h) q) (sym stands.face)
        ∙ ap (λ n. history_blocks b h ++ block n (last_picture b h) (picture_of p.face)) (sym count)
        ∙ ap (λ t. history_blocks b h ++ t) (sym (told (last_picture b h) names))

  -- nothing is written of nothing
  pub adds-none : (s : S) → history_blocks b (h ++ e ∷ []) ≡ history_blocks b h ++ [] → Adds agrees s s (history_blocks b h) (history_blocks b (h ++ e ∷ []))
  adds-none s joined = record { more = []; joined = joined; written = Appended-none agrees s }

  module _ (old new : S) (text : Text) (joined : history_blocks b (h ++ e ∷ []) ≡ history_blocks b h ++ text) {E : Type 0} (result : Result (Unit {0}) E) where
    pub adds-block : OnOk result (Appended agrees old new text) → OnOk result (Adds agrees old new (history_blocks b h) (history_blocks b (h ++ e ∷ [])))
    adds-block written = by result written where
      by : (r : Result (Unit {0}) E) → OnOk r (Appended agrees old new text) → OnOk r (Adds agrees old new (history_blocks b h) (history_blocks b (h ++ e ∷ [])))
      by (Ok u) w = record { more = text; joined = joined; written = w }
      by (Err x) w = tt

    pub adds-part : OnErr result (AppendedPrefix agrees old new text) → OnErr result (AddsPart agrees old new (history_blocks b h) (history_blocks b (h ++ e ∷ [])))
    adds-part part = by result part where
      by : (r : Result (Unit {0}) E) → OnErr r (AppendedPrefix agrees old new text) → OnErr r (AddsPart agrees old new (history_blocks b h) (history_blocks b (h ++ e ∷ [])))
      by (Ok u) w = tt
      by (Err x) w = record { more = text; joined = joined; written = w }

-- what is so anyway is so where writing didn't fail
pub on-ok : {A E : Type 0} (result : Result A E) (P : Type 0) → P → OnOk result P
on-ok (Ok a) P so = so
on-ok (Err x) P so = tt
