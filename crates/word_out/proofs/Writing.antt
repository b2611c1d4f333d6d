-- What is written of an event.
use Rattle.std.proofs.Common.{◌≡◌, ℕ, true, false, List, [], ◌∷◌, ◌++◌, Result, Ok, Err, refl, sym, ap, ◌∙◌, subst}
use Rattle.std.proofs.lemmas.List.{append-nil}
use Rattle.std.specs.Prelude.{OnOk, OnErr}
use Rattle.ecam_io.specs.Outside.{Appended, AppendedPrefix}
use Rattle.ecam_spec.specs.declared.kinds.Event.{Event}
use Rattle.ecam_spec.specs.declared.kinds.Event.TheVariants.{Word, Tick, Press, Release, Fail, Up, End}
use Rattle.ecam_spec.specs.Book.{Text, Book}
use Rattle.ecam_spec.specs.Replay.{is_tick, tick_count}
use Rattle.fwc_pair.specs.Views.{Adds, AddsPart}
use Rattle.view_spec.proofs.TickLaws.{each_tick_kept, each_tick_tick}
use Rattle.view_spec.specs.OutputWords.{tick_text, words_text}

pub is_the_tick : (e : Event) → is_tick e ≡ true → e ≡ Tick
is_the_tick Tick is = refl
is_the_tick (Word bus bits) is = absurd (let w : ⊥ = cc in w)
is_the_tick (Press k) is = absurd (let w : ⊥ = cc in w)
is_the_tick (Release k) is = absurd (let w : ⊥ = cc in w)
is_the_tick (Fail n) is = absurd (let w : ⊥ = cc in w)
is_the_tick (Up n) is = absurd (let w : ⊥ = cc in w)
is_the_tick End is = absurd (let w : ⊥ = cc in w)

-- the text behind that of the history
pub tick_joined : (b : Book) (h : List Event) (e : Event) (lines : Text) → e ≡ Tick → lines ≡ tick_text b (tick_count h) (h ++ Tick ∷ []) → words_text b (h ++ e ∷ []) ≡ words_text b h ++ lines
tick_joined b h e lines is told =
    ap (λ x. words_text b (h ++ x ∷ [])) is ∙ each_tick_tick (tick_text b) h ∙ ap (λ l. words_text b h ++ l) (sym told)

module _ {S : Type 0} (agrees : S → List ℕ → Type 0) where
  -- nothing is
  pub adds_nothing : (s : S) (b : Book) (h : List Event) (e : Event) → is_tick e ≡ false → Adds agrees s s (words_text b h) (words_text b (h ++ e ∷ []))
  adds_nothing s b h e quiet = record {
    more = [];
    joined = each_tick_kept (tick_text b) h e quiet ∙ sym (append-nil (words_text b h));
    written = λ w agreed. subst (agrees s) (sym (append-nil w)) agreed;
  }

  module _ {E : Type 0} (old new : S) (before after lines : Text) (joined : after ≡ before ++ lines) where
    pub adds_lines : (r : Result (Unit {0}) E) → OnOk r (Appended agrees old new lines) → OnOk r (Adds agrees old new before after)
    adds_lines (Ok v) all = record { more = lines; joined = joined; written = all }
    adds_lines (Err e) all = all

    pub adds_part : (r : Result (Unit {0}) E) → OnErr r (AppendedPrefix agrees old new lines) → OnErr r (AddsPart agrees old new before after)
    adds_part (Ok v) part = part
    adds_part (Err e) part = record { more = lines; joined = joined; written = part }
