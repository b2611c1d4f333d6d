-- Which calls of `read` a call of a reader has made so far.
use Rattle.std.proofs.Common.{◌≡◌, ◌⊎◌, ℕ, ◌<◌, Bool, true, false, List, [], ◌∷◌, ◌++◌, length, Some, Result, Ok, Err, refl, sym, ap, ◌∙◌, inl, inr, cond, arith, append-nil, length-append}
use Rattle.std.specs.Prelude.{All}
use Rattle.std.proofs.lemmas.List.Elements.{All-nil, All-push}
use Rattle.ecam_io.specs.Outside.{ReadCall, Appended}
use Rattle.ecam_io.proofs.Calls.{Appended-none, Appended-append}
use Rattle.ecam_spec.specs.declared.kinds.Event.{Event}
use Rattle.record_lines.specs.declared.outcome.LineError.{LineError}
use Rattle.record_lines.specs.declared.outcome.LineError.TheVariants.{Failed, Record}
use Rattle.record_lines.specs.Reader.{ReaderState, reads_next}
use Rattle.record_lines.specs.Reads.{piece_call, GivesBytes, last_call, IsFromBytes, Makes, Asks}

last_call-none : (a : Result Event LineError) → IsFromBytes a → last_call a ≡ []
last_call-none (Ok e) other = ap (λ b. cond b (piece_call (Some 0) ∷ []) []) other
last_call-none (Err Failed) never = absurd never
last_call-none (Err (Record f)) other = ap (λ b. cond b (piece_call (Some 0) ∷ []) []) other

clash : {X : Type 0} → (b : Bool) → b ≡ true → b ≡ false → X
clash b is isnt = absurd (let same : true ≡ false = sym is ∙ isnt in let w : ⊥ = cc in w)

module _ {S : Type 0} (reads : S → List ReadCall → Type 0) where
  -- either nothing has changed yet, or there was need for a piece, and one came
  abbrev pub HasBegun : ReaderState → ReaderState → S → S → List ReadCall → Type 0
  HasBegun old now before between calls = ((now ≡ old) × (between ≡ before)) ⊎ ((reads_next old ≡ true) × (0 < length calls))

  -- it asked for these pieces, and all came
  abbrev pub Asking : ReaderState → ReaderState → S → S → Type 0
  Asking old now before between = Makes reads before between (λ calls. All GivesBytes calls × HasBegun old now before between calls)

  pub asking-none : (r : ReaderState) (s : S) → Asking r r s s
  asking-none r s = record { calls = []; made = Appended-none reads s; so = (All-nil GivesBytes, inl (refl, refl)) }

  module _ (old now : ReaderState) (before between : S) (asking : Asking old now before between) where
    -- where a piece is needed now, one was needed at first
    pub needed : reads_next now ≡ true → reads_next old ≡ true
    needed needs = elim asking.so.1 [ inl same ↦ ap reads_next (sym same.0) ∙ needs | inr began ↦ began.0 ]

    -- where none is, none was asked for, or one was needed at first
    pub unread : reads_next now ≡ false → reads_next old ≡ false → between ≡ before
    unread whole spared = elim asking.so.1 [ inl same ↦ same.1 | inr began ↦ clash (reads_next old) began.0 spared ]

    pub asking-piece : (next : ReaderState) (after : S) (n : ℕ) → reads_next now ≡ true → 0 < n → Appended reads between after (piece_call (Some n) ∷ []) → Asking old next before after
    asking-piece next after n needs some made = record {
      calls = asking.calls ++ piece_call (Some n) ∷ [];
      made = Appended-append reads before between after asking.calls (piece_call (Some n) ∷ []) asking.made made;
      so = (All-push GivesBytes asking.calls (piece_call (Some n)) asking.so.0 (n, some, refl), inr (needed needs, omega (arith, length-append asking.calls (piece_call (Some n) ∷ []))));
    }

    -- it answers from what came
    pub asks-found : (a : Result Event LineError) → reads_next now ≡ false → IsFromBytes a → Makes reads before between (Asks (reads_next old) a)
    asks-found a whole from = record {
      calls = asking.calls;
      made = asking.made;
      so = record {
        pieces = asking.calls;
        full = asking.so.0;
        calls_are = sym (ap (λ l. asking.calls ++ l) (last_call-none a from) ∙ append-nil asking.calls);
        some = λ needs. elim asking.so.1 [ inl same ↦ clash (reads_next old) needs (ap reads_next (sym same.0) ∙ whole) | inr began ↦ began.1 ];
      };
    }

    -- or from what the last call tells
    pub asks-last : (after : S) (a : Result Event LineError) (c : ReadCall) → Appended reads between after (c ∷ []) → last_call a ≡ c ∷ [] → Makes reads before after (Asks (reads_next old) a)
    asks-last after a c made last = record {
      calls = asking.calls ++ c ∷ [];
      made = Appended-append reads before between after asking.calls (c ∷ []) asking.made made;
      so = record {
        pieces = asking.calls;
        full = asking.so.0;
        calls_are = ap (λ l. asking.calls ++ l) (sym last);
        some = λ needs. omega (arith, length-append asking.calls (c ∷ []));
      };
    }
