-- Which calls of `read` a replay has made.
use Rattle.std.proofs.Common.{◌≡◌, ◌⊎◌, ℕ, true, false, List, [], ◌∷◌, ◌++◌, Result, Ok, Err, Some, refl, sym, ap, ◌∙◌, subst, cond, inl, inr, append-nil, append_assoc}
use Rattle.std.specs.Prelude.{◌≢◌, All, Bool, IfErr, OnOk}
use Rattle.std.proofs.lemmas.List.Elements.{All-nil, All-append}
use Rattle.ecam_io.specs.Outside.{ReadCall, Appended}
use Rattle.ecam_io.proofs.Calls.{Appended-none, Appended-append}
use Rattle.ecam_spec.specs.declared.kinds.Event.{Event}
use Rattle.record_lines.specs.declared.outcome.LineError.{LineError}
use Rattle.ecam_spec.specs.declared.kinds.RecordFault.{RecordFault}
use Rattle.record_lines.specs.declared.outcome.LineError.TheVariants as line_errors
use Rattle.record_lines.specs.Reads.{is_shown_at_end, piece_call, GivesBytes, last_call, Makes, Asks}
use Rattle.record_views.specs.declared.show.RunError.{RunError}
use Rattle.record_views.specs.declared.show.RunError.TheVariants.{Write}
use Rattle.record_views.specs.Runs.{IsLast, HasAsked}

module _ {S : Type 0} (reads : S → List ReadCall → Type 0) where
  pub asked-none : (s : S) → Makes reads s s (All GivesBytes)
  asked-none s = record { calls = []; made = Appended-none reads s; so = All-nil GivesBytes }

  module _ (before between after : S) (asked : Makes reads before between (All GivesBytes)) (needs : Bool) (a : Result Event LineError) (asks : Makes reads between after (Asks needs a)) where
    abbrev pieces : List ReadCall
    pieces = asked.calls ++ asks.so.pieces

    all : All GivesBytes pieces
    all = All-append GivesBytes asked.calls asks.so.pieces asked.so asks.so.full

    calls : asked.calls ++ asks.calls ≡ pieces ++ last_call a
    calls = ap (λ l. asked.calls ++ l) asks.so.calls_are ∙ sym (append_assoc asked.calls asks.so.pieces (last_call a))

    -- all pieces came
    pub asked-more : last_call a ≡ [] → Makes reads before after (All GivesBytes)
    asked-more none = record {
      calls = asked.calls ++ asks.calls;
      made = Appended-append reads before between after asked.calls asks.calls asked.made asks.made;
      so = subst (All GivesBytes) (sym (calls ∙ ap (λ l. pieces ++ l) none ∙ append-nil pieces)) all;
    }

    -- the replay ends
    pub asked-last : (result : Result ℕ RunError) → IsLast result (last_call a) → Makes reads before after (HasAsked result)
    asked-last result is = record {
      calls = asked.calls ++ asks.calls;
      made = Appended-append reads before between after asked.calls asks.calls asked.made asks.made;
      so = record { pieces = pieces; last = last_call a; full = all; calls_are = calls; last_is = is };
    }

  -- writing failed, and nothing was read since
  pub asked-spared : (before between after : S) → Makes reads before between (All GivesBytes) → after ≡ between → Makes reads before after (HasAsked (Err Write))
  asked-spared before between after asked same = record {
    calls = asked.calls;
    made = subst (λ s. Appended reads before s asked.calls) (sym same) asked.made;
    so = record { pieces = asked.calls; last = []; full = asked.so; calls_are = sym (append-nil asked.calls); last_is = inl refl };
  }

-- what is so where nothing was needed, in a case in which nothing can have been
pub unneeded : {X : Type 0} → (needs : Bool) → (needs ≡ true → ⊥) → (needs ≡ false → X) → X
unneeded true never so = absurd (never refl)
unneeded false never so = so refl

-- what is so of a good ending, in one that isn't a failed write
pub unless-write : {X : Type 0} (result : Result ℕ RunError) → IfErr result (λ e. e ≡ Write) → result ≢ Err Write → OnOk result X → X
unless-write (Ok n) cause other so = so
unless-write (Err e) cause other so = absurd (other (ap Err cause))

-- ---- what an ending tells of the last call

-- a fault of the record
pub fault-last : (f : RecordFault) → IsLast (Err Write) (last_call (Err (line_errors.Record f)))
fault-last f =
    elim (is_shown_at_end f.kind) as (λ b. (cond b (piece_call (Some 0) ∷ []) [] ≡ []) ⊎ (cond b (piece_call (Some 0) ∷ []) [] ≡ piece_call (Some 0) ∷ [])) [
      | true ↦ inr refl
      | false ↦ inl refl
    ]

pub finished-last : (result : Result ℕ RunError) (last : List ReadCall) → IfErr result (λ e. e ≡ Write) → last ≡ piece_call (Some 0) ∷ [] → IsLast result last
finished-last (Ok n) last cause is = is
finished-last (Err e) last cause is = subst (λ e. IsLast (Err e) last) (sym cause) (inr is)
