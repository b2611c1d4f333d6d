-- What `Done` of a replay has written, in the words of the definitions.
use Rattle.std.proofs.Common.{◌≡◌, ℕ, ◌++◌, [], List, Option, Some, None, IsSomeAnd, cond, refl, sym, ap, subst, ◌∙◌}
use Rattle.std.specs.Prelude.{is_none}
use Rattle.ecam_io.specs.Outside.{FileHas, file_named}
use Rattle.ecam_spec.specs.declared.kinds.Event.{Event}
use Rattle.ecam_spec.specs.Book.{Text, Book}
use Rattle.ecam_spec.specs.Output.{end_line}
use Rattle.ecam_spec.specs.Record.{fault, events}
use Rattle.ecam_spec.specs.Replay.{history_blocks, tick_count}
use Rattle.ecam_spec.specs.Command.{command_of}
use Rattle.book_spec.specs.BookBytes.{book}
use Rattle.record_views.specs.Showing.{blocks_of, output_of}
use Rattle.replay_core.specs.Calls.{ShelfCall, SinkCall, Writes}
use Rattle.replay_core.specs.Answers.{ByRecord, Ends}
use Rattle.replay_core.specs.ReadEndings.{ShowsWhole, showing}
use Rattle.replay_core.specs.Headline.{Replays, all_changes}
use Rattle.replay_core.specs.Outcomes.{status_of}
use Rattle.replay_core.specs.declared.outcome.Status.TheVariants as statuses
use Rattle.replay_core.specs.declared.outcome.Outcome.{Outcome}
use Rattle.replay_core.specs.declared.outcome.Outcome.TheVariants as outcomes

done-is : (o : Outcome) → status_of o ≡ statuses.Done → o ≡ outcomes.Done
done-is outcomes.Done is = refl
done-is outcomes.Usage is = absurd (let w : ⊥ = cc in w)
done-is (outcomes.BookRefused g) is = absurd (let w : ⊥ = cc in w)
done-is (outcomes.RecordRefused g) is = absurd (let w : ⊥ = cc in w)
done-is outcomes.ReadFault is = absurd (let w : ⊥ = cc in w)
done-is outcomes.WriteFault is = absurd (let w : ⊥ = cc in w)
done-is outcomes.NoMemory is = absurd (let w : ⊥ = cc in w)
done-is outcomes.NoSuch is = absurd (let w : ⊥ = cc in w)
done-is (outcomes.LimitsRefused g) is = absurd (let w : ⊥ = cc in w)

-- without a fault an output is the blocks and the line that ends it
whole-output : (b : Book) (text : Text) (limit : ℕ) → fault text limit ≡ None → output_of (blocks_of b) text limit ≡ all_changes b (events text limit)
unfolding history_blocks
whole-output b text limit none =
    ap (λ met. history_blocks b (events text limit) ++ cond (is_none met) (end_line (tick_count (events text limit))) []) none

of-book : (o : Option Book) (b : Book) (P : Book → Type 0) → o ≡ Some b → IsSomeAnd o P → P b
of-book o b P is has = subst (λ o. IsSomeAnd o P) is has

module _ (f : ShelfCall) {S : Type 0} (out : SinkCall S) (words : List Text) (b : Book) (history : List Event) (r : Replays f.files words b history) where
  file-is : (name bytes : Text) (P : Text → Type 0) → file_named r.told name ≡ Some bytes → FileHas f.files name P → P bytes
  file-is name bytes P there has = subst (λ o. IsSomeAnd o P) there (subst (λ files. FileHas files name P) r.files_are has)

  pub changes-written : (o : Outcome) → Ends f out (command_of words) o → status_of o ≡ statuses.Done → Writes out (all_changes b history)
  changes-written o ends is =
      let done = subst (ByRecord f out r.book_name r.record_name (showing out blocks_of r.limit)) (done-is o is) (subst (λ c. Ends f out c o) r.asked ends) in
      let P : Book → Type 0 = λ b. FileHas f.files r.record_name (λ text. ShowsWhole out blocks_of r.limit b text f.left) in
      let by-book = of-book (book r.book_bytes) b P r.accepted (file-is r.book_name r.book_bytes (λ bytes. IsSomeAnd (book bytes) P) r.book_file done.both) in
      let whole = file-is r.record_name r.record_bytes (λ text. ShowsWhole out blocks_of r.limit b text f.left) r.record_file by-book in
      subst (Writes out) (whole-output b r.record_bytes r.limit whole.faultless ∙ ap (all_changes b) (sym r.history_is)) whole.written
