-- How what is kept comes to stand for no moment, and for one moment more.
use Rattle.std.proofs.Common.{◌≡◌, ℕ, zero, suc, ◌+◌, false, List, Option, length, replicate, slice_get, Some, Global, sym, ◌∙◌, ap, subst, arith, add-one}
use Rattle.std.specs.Prelude.{◌↔◌}
use Rattle.std.specs.Box.{boxed_slice_items, boxed_slice_with_items}
use Rattle.std.specs.declared.boxed.BoxedSlice.{BoxedSlice}
use Rattle.std.proofs.lemmas.List.{with_items_is, length-replicate, get_or-replicate}
use Rattle.std.proofs.lemmas.Option.{slice_get-get_or}
use Rattle.ecam_spec.specs.Book.{Book}
use Rattle.ecam_spec.specs.Lamps as lamps
use Rattle.wakes.specs.Marks.{room}
use Rattle.attention.specs.declared.callers.Callers.{Callers}
use Rattle.attention.specs.declared.watch.Watch.{Watch}
use Rattle.attention.specs.declared.state.Attention.{Attention}
use Rattle.attention.specs.Watches.{watch_after, has_open, AreMarked, AreWatched}
use Rattle.attention.specs.Calling.{no_calls, AreCalls, AreCallers}
use Rattle.attention.specs.State.{AreKept, AttentionFits, AttentionStands, TellsChange, lights_after}
use Rattle.attention.proofs.Heard.{change-told}

-- a list in a box is written over whole
pub boxed-is : (x : BoxedSlice Watch Global) (ws : List Watch) → length ws ≡ length (boxed_slice_items x) → boxed_slice_items (boxed_slice_with_items x ws) ≡ ws
boxed-is x ws long = with_items_is x.items ws (long ∙ sym x.items.ok.0)

repeated : (n i : ℕ) (w x : Watch) → slice_get (replicate n w) i ≡ Some x → w ≡ x
repeated zero i w x read = cc
repeated (suc n) zero w x read = cc
repeated (suc n) (suc i) w x read = repeated n i w x read

-- where the same is kept of each alert, and its onset isn't open, nothing has to be marked
pub none-open : (n : ℕ) (w : Watch) (kept : List Watch) (marks : List ℕ) → kept ≡ replicate n w → has_open w ≡ false → AreMarked has_open kept marks
none-open n w kept marks all shut i x read is =
    let one : w ≡ x = repeated n i w x (sym (ap (λ ws. slice_get ws i) all) ∙ read) in
    absurd (let clash : has_open x ≡ false = sym (ap has_open one) ∙ shut in cc)

-- with others to be looked at
pub fits-looked : (n : ℕ) (kept : List Watch) (opens looked others : List ℕ) (callers : Callers) (chime : Option ℕ) → room others ≡ room looked
    → AreKept n kept opens looked callers chime → AreKept n kept opens others callers chime
fits-looked n kept opens looked others callers chime size fits = record {
  watches = fits.watches;
  open_room = fits.open_room;
  looked_room = size ∙ fits.looked_room;
  callers = fits.callers;
  still_open = fits.still_open;
  latest = fits.latest;
}

module _ (b : Book) (a : lamps.Attention) where
  -- with others to be looked at
  pub stands-looked : (k : ℕ) (old t : Attention) → AttentionFits b t → t.moments ≡ old.moments → t.watches ≡ old.watches
      → t.callers ≡ old.callers → t.calls ≡ old.calls → t.changed ≡ old.changed → AttentionStands b a k old → AttentionStands b a k t
  stands-looked k old t fits moments watches callers calls changed stands = record {
    fits = fits;
    moments = moments ∙ stands.moments;
    watches = λ i h. ap (λ ws. slice_get (boxed_slice_items ws) i) watches ∙ stands.watches i h;
    callers = λ j e. rw callers (stands.callers j e);
    before = λ e. calls ∙ stands.before e;
    calls = λ j e. rw calls (stands.calls j e);
    changed = λ j e. rw changed (stands.changed j e);
  }

  -- before the first moment
  pub stands-first : (t : Attention) (n : ℕ) (w : Watch) → AttentionFits b t → t.moments ≡ 0 → t.calls ≡ no_calls
      → n ≡ length b.alerts → boxed_slice_items t.watches ≡ replicate n w → ((i : ℕ) → w ≡ watch_after a i 0)
      → AttentionStands b a 0 t
  stands-first t n w fits moments calls many watches kept = record {
    fits = fits;
    moments = moments;
    watches = λ i h.
        ap (λ ws. slice_get ws i) watches
        ∙ slice_get-get_or (replicate n w) i w (omega (arith, length-replicate n w))
        ∙ ap Some (get_or-replicate n i w w (omega arith) ∙ kept i);
    callers = λ j e. absurd (let x : ⊥ = cc in x);
    before = λ e. calls;
    calls = λ j e. absurd (let x : ⊥ = cc in x);
    changed = λ j e. absurd (let x : ⊥ = cc in x);
  }

  -- one moment more
  pub stands-next : (k : ℕ) (old t : Attention) → AttentionStands b a k old → TellsChange old t → AttentionFits b t → t.moments ≡ k + 1 → AreWatched a (suc k) (length b.alerts) (boxed_slice_items t.watches)
      → AreCallers a k (length b.alerts) t.callers → AreCalls a k (a.shown k) t.calls → AttentionStands b a (suc k) t
  stands-next k old t stands tells fits moments watches callers calls = record {
    fits = fits;
    moments = moments ∙ add-one k;
    watches = watches;
    callers = λ j e. let same : k ≡ j = cc in rw same at callers;
    before = λ e. absurd (let x : ⊥ = cc in x);
    calls = λ j e. let same : k ≡ j = cc in rw same at calls;
    changed = λ j e.
        let same : k ≡ j = cc in
        let since = λ (i : ℕ). (t.changed ≡ false) ↔ (lights_after a (suc k) ≡ lights_after a i) in
        subst since same (change-told a b k old t stands (moments ∙ add-one k) calls tells);
  }
