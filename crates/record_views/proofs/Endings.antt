-- How a replay goes on from line to line, and how it ends.
use Rattle.std.proofs.Common.{◌≡◌, ℕ, ◌+◌, ◌-◌, ◌^◌, min, ◌<◌, ◌≤◌, Result, Ok, Err, true, false, List, [], ◌∷◌, ◌++◌, Option, Some, None, refl, sym, ap, ◌∙◌, subst, inl, inr, arith, length, drop, length-append, append_assoc, append-nil, cond}
use Rattle.std.specs.Prelude.{◌&&◌, is_none, OnOk, OnErr, IfOk, IfErr}
use Rattle.std.proofs.lemmas.List.Sums.{count_by-le-length}
use Rattle.std.specs.Io.KnownBytes.{Consumes, IsAtEnd}
use Rattle.std.proofs.KnownBytes.{Consumes-nil, Consumes-trans}
use Rattle.ecam_io.specs.Outside.{Appended, AppendedPrefix}
use Rattle.ecam_io.proofs.Calls.{AppendedPrefix-longer}
use Rattle.ecam_spec.specs.declared.kinds.Event.{Event}
use Rattle.ecam_spec.specs.declared.kinds.Event.TheVariants.{Word, Tick, Press, Release, Fail, Up, End}
use Rattle.ecam_spec.specs.declared.kinds.RecordFault.{RecordFault}
use Rattle.ecam_spec.specs.Book.{Text, Book}
use Rattle.ecam_spec.specs.History.{flags_after, none_up, comes_up, Era, empty_era, era_with, era, begun}
use Rattle.ecam_spec.specs.Record.{fault, events}
use Rattle.ecam_spec.specs.Replay.{is_tick, tick_count}
use Rattle.ecam_spec.proofs.HistoryLaws.{era_next, era_nil}
use Rattle.ecam_spec.proofs.MomentSteps.{moments_kept, length_tick}
use Rattle.fwc_pair.specs.PairState.{PairStands, moments_of}
use Rattle.fwc_pair.specs.PairVisits.{NoVisits, event_visits, history_visits, HaveVisited}
use Rattle.fwc_pair.specs.declared.pair.Pair.{Pair}
use Rattle.record_lines.specs.Reader.{ReaderState, room, settled}
use Rattle.record_lines.specs.Reads.{Reads, TellsEvent, TellsEnd, TellsFault, TellsFailure, IsFaulty, IsSpent, is_shown_at_end}
use Rattle.record_lines.proofs.Went.{went, taken_is, BeginEvents-here}
use Rattle.fwc_pair.specs.Views.{GoesOn}
use Rattle.fwc_pair.specs.declared.view.View as view
use Rattle.fwc_pair.proofs.HistoryVisits.{visited-none, visited-next}
use Rattle.gathering.specs.Handed.{IsHanded}
use Rattle.record_views.specs.Showing.{Showing, Grows, shown_by, output_of}
use Rattle.record_views.specs.Runs.{HasRun, HasMetFault, HasStopped, HasBroken, HasSeen, HasFed, HasFedPart, Shows, IsAt}
use Rattle.gathering.proofs.Handing.{handed-none, handed-then, handed-on, handed-written, handed-part, written-on, part-on}
use Rattle.record_views.proofs.PairMoments.{moments-counted}
use Rattle.record_views.specs.declared.show.RunError.{RunError}
use Rattle.record_views.specs.declared.show.RunError.TheVariants.{Write}

-- what a source that told its bytes has left after some of them
pub told : (text : Text) (left rest : Option (List ℕ)) (taken : List ℕ) → left ≡ Some text → Consumes left rest taken → (more : List ℕ) × (rest ≡ Some more) × (text ≡ taken ++ more)
told text left rest taken is moved = by rest (subst (λ l. Consumes l rest taken) is moved) where
  by : (rest : Option (List ℕ)) → Consumes (Some text) rest taken → (more : List ℕ) × (rest ≡ Some more) × (text ≡ taken ++ more)
  by None moved = absurd moved
  by (Some more) moved = (more, refl, moved)

some_is : (xs ys : List ℕ) → Some xs ≡ Some ys → xs ≡ ys
some_is xs ys same = cc

-- nothing is left
ended : (rest later : Option (List ℕ)) (before : List ℕ) → rest ≡ Some before → (behind : List ℕ) → later ≡ Some behind → IsSpent rest later → later ≡ Some []
ended rest later before was behind is spent =
    is ∙ ap Some (subst IsAtEnd is (subst (λ r. IsSpent r later) was spent))

-- with a fault nothing is written behind the text
output-faulty : (o : Showing) (text : Text) (limit : ℕ) (f : RecordFault) → fault text limit ≡ Some f → output_of o text limit ≡ o.text (events text limit)
output-faulty o text limit f is =
    ap (λ met. o.text (events text limit) ++ cond (is_none met) (o.closing (events text limit)) []) is
    ∙ append-nil (o.text (events text limit))

-- as each view's does
pub growing : {V : Type 0} (b : Book) (g : view.Ghosts V) (s : g.Settings) → g.text s b [] ≡ []
    → ((h : List Event) (e : Event) → GoesOn (g.text s b h) (g.text s b (h ++ e ∷ []))) → Grows (shown_by g s b)
growing b g s empty on = record { begins_empty = empty; goes_on = on }

-- what was written of a history stays, whatever comes after it
stays : (o : Showing) → Grows o → (h g : List Event) → GoesOn (o.text h) (o.text (h ++ g))
stays o grows h [] = record { more = []; joined = ap o.text (append-nil h) ∙ sym (append-nil (o.text h)) }
stays o grows h (e ∷ g) =
    let first = grows.goes_on h e in
    let rest = stays o grows (h ++ e ∷ []) g in
    record {
      more = first.more ++ rest.more;
      joined = ap o.text (sym (append_assoc h (e ∷ []) g)) ∙ rest.joined ∙ ap (λ t. t ++ rest.more) first.joined ∙ append_assoc (o.text h) first.more rest.more;
    }

-- an event is at most one moment more
with-moments : (e : Era) (x : Event) → length (era_with e x).moments ≤ length e.moments + 1
with-moments e Tick = omega (arith, length_tick e)
with-moments e (Word bus bits) = omega (arith, ap length (moments_kept e (Word bus bits) refl))
with-moments e (Press k) = omega (arith, ap length (moments_kept e (Press k) refl))
with-moments e (Release k) = omega (arith, ap length (moments_kept e (Release k) refl))
with-moments e (Fail n) = omega (arith, ap length (moments_kept e (Fail n) refl))
with-moments e (Up n) = omega (arith, ap length (moments_kept e (Up n) refl))
with-moments e End = omega (arith, ap length (moments_kept e End refl))

begun-moments : (h : List Event) (x : Event) → length (begun h x).moments ≤ length (era h).moments
unfolding begun
begun-moments h x =
    elim (comes_up x && none_up (flags_after h)) as (λ b. length (cond b (empty_era (flags_after h)) (era h)).moments ≤ length (era h).moments) [
      | true ↦ omega arith
      | false ↦ omega arith
    ]

-- so are there no more moments in an era than events in its history
more-moments : (h : List Event) (x : Event) → length (era h).moments ≤ length h → length (era (h ++ x ∷ [])).moments ≤ length (h ++ x ∷ [])
more-moments h x few =
    omega (arith, few, ap (λ (e : Era). length e.moments) (era_next h x), with-moments (begun h x) x, begun-moments h x, length-append h (x ∷ []))

module _ (b : Book) (o : Showing) (grows : Grows o) {S : Type 0} (agrees : S → List ℕ → Type 0) (old : S) (limit : ℕ) (left : Option (List ℕ)) (first : Pair) where
  -- before the first line
  pub at-start : (viewed : List Event → Type 0) → viewed [] → (reader : ReaderState) → Reads limit [] [] reader → room reader ≡ limit → settled reader ≡ None → PairStands b [] first
      → IsAt b o agrees old old viewed [] limit left left reader first first 0
  unfolding tick_count
  at-start viewed seen reader reads whole unsettled stands = record {
    taken = [];
    answered = [];
    moved = Consumes-nil left;
    reads = reads;
    unsettled = unsettled;
    stands = stands;
    ticks_are = refl;
    seen = seen;
    handed = subst (λ all. IsHanded agrees old old all []) (sym grows.begins_empty) (handed-none agrees old []);
    visits = visited-none b first first stands.fits (refl, refl);
    moments = omega (arith, ap (λ (e : Era). length e.moments) era_nil);
    few = omega arith;
  }

  -- a prefix of the blocks of the events that were answered is written
  stopped : (new : S) (taken : List ℕ) (answered : List Event) (rest : Option (List ℕ)) (reader : ReaderState) → AppendedPrefix agrees old new (o.text answered)
      → Consumes left rest taken → Reads limit taken answered reader → settled reader ≡ None → (text : Text) → left ≡ Some text → HasStopped b o agrees old new limit text rest
  stopped new taken answered rest reader part moved reads unsettled text is =
      let where_it_is = told text left rest taken is moved in
      let through = went reader.stage limit taken answered reader unsettled reads in
      let beyond = reader.pending ++ drop limit taken in
      let split : taken ≡ through.0 ++ beyond = taken_is limit through.0 taken answered _ reader through.1 in
      let on = BeginEvents-here limit through.0 beyond taken through.1.sound split where_it_is.0 in
      let read : events text limit ≡ answered ++ on.0 = ap (λ t. events t limit) where_it_is.2 ∙ on.1 ∙ ap (λ es. es ++ on.0) through.1.answered_is in
      let grown = stays o grows answered on.0 in
      let ends : Text = cond (is_none (fault text limit)) (o.closing (events text limit)) [] in
      let whole : o.text (events text limit) ++ ends ≡ o.text answered ++ (grown.more ++ ends) =
      ap (λ es. o.text es ++ ends) read ∙ ap (λ w. w ++ ends) grown.joined ∙ append_assoc (o.text answered) grown.more ends in
      record {
        written = subst (AppendedPrefix agrees old new) (sym whole) (AppendedPrefix-longer agrees old new (o.text answered) (grown.more ++ ends) part);
        stops = inl (record {
          front = through.0;
          later = beyond;
          behind = where_it_is.0;
          parts = where_it_is.2 ∙ ap (λ t. t ++ where_it_is.0) split;
          rest_is = where_it_is.1;
          near = omega (arith, through.1.near, ap length split, length-append through.0 beyond);
          written = subst (λ es. AppendedPrefix agrees old new (o.text es)) (sym through.1.answered_is) part;
        });
      }

  module _ (mid : S) (viewed : List Event → Type 0) (gathered : Text) (rest : Option (List ℕ)) (reader : ReaderState) (pair : Pair) (ticks : ℕ) (at : IsAt b o agrees old mid viewed gathered limit left rest reader first pair ticks) where
    -- what was gathered was handed over
    pub at-handed : (new : S) (after : Text) → IsHanded agrees mid new gathered after → IsAt b o agrees old new viewed after limit left rest reader first pair ticks
    at-handed new after handed = record {
      taken = at.taken;
      answered = at.answered;
      moved = at.moved;
      reads = at.reads;
      unsettled = at.unsettled;
      stands = at.stands;
      seen = at.seen;
      ticks_are = at.ticks_are;
      handed = handed-on agrees old mid new (o.text at.answered) gathered at.handed after handed;
      visits = at.visits;
      moments = at.moments;
      few = at.few;
    }

    -- after one more line
    pub at-next : (new : S) (now-viewed : List Event → Type 0) (after : Text) (later : Option (List ℕ)) (next : ReaderState) (fed : Pair) (now : ℕ) (e : Event) (more : List ℕ)
        → Consumes rest later more → TellsEvent limit (at.taken ++ more) (at.answered ++ e ∷ []) next → settled next ≡ None → room next + 2 ≤ room reader
        → HasFed b o agrees mid new now-viewed gathered after at.answered e fed → HaveVisited (event_visits b at.answered e) pair fed
        → now ≡ tick_count (at.answered ++ e ∷ []) → IsAt b o agrees old new now-viewed after limit left later next first fed now
    at-next new now-viewed after later next fed now e more moved tells unsettled cost has visits count = record {
      taken = at.taken ++ more;
      answered = at.answered ++ e ∷ [];
      moved = Consumes-trans left rest later at.taken more at.moved moved;
      reads = tells.reads;
      unsettled = unsettled;
      stands = has.stands;
      seen = has.seen;
      ticks_are = count;
      handed = subst (λ all. IsHanded agrees old new all after) (sym has.joined)
          (handed-then agrees old mid new (o.text at.answered) gathered at.handed has.more after has.handed);
      visits = visited-next b at.answered e first pair fed at.visits visits;
      moments = more-moments at.answered e at.moments;
      few = omega (arith, at.few, length-append at.answered (e ∷ []));
    }

    -- the text is the bytes that came, and more
    here : (text : Text) → left ≡ Some text → (later : Option (List ℕ)) (more : List ℕ) → Consumes rest later more
        → (behind : List ℕ) × (later ≡ Some behind) × (text ≡ (at.taken ++ more) ++ behind)
    here text is later more moved = told text left later (at.taken ++ more) is (Consumes-trans left rest later at.taken more at.moved moved)

    -- the text has a fault
    met : (text : Text) → left ≡ Some text → (later : Option (List ℕ)) (next : ReaderState) (more : List ℕ) (f : RecordFault)
        → Consumes rest later more → TellsFault limit (at.taken ++ more) at.answered f next → (is_shown_at_end f.kind ≡ true → IsSpent rest later)
        → IsFaulty limit text at.answered f
    met text is later next more f moved tells spent =
        let where_it_is = here text is later more moved in
        let rest_is = told text left rest at.taken is at.moved in
        subst (λ t. IsFaulty limit t at.answered f) (sym where_it_is.2)
        (tells.faulty where_it_is.0
        (λ shown. some_is where_it_is.0 [] (sym where_it_is.1 ∙ ended rest later rest_is.0 rest_is.1 where_it_is.0 where_it_is.1 (spent shown))))

    -- the record's end was met: these are all its events, and nothing is left
    whole-here : (later : Option (List ℕ)) (next : ReaderState) (more : List ℕ)
        → Consumes rest later more → TellsEnd limit (at.taken ++ more) at.answered next → IsSpent rest later
        → (text : Text) → left ≡ Some text → (events text limit ≡ at.answered) × (fault text limit ≡ None) × (later ≡ Some [])
    whole-here later next more moved tells spent text is =
        let where_it_is = here text is later more moved in
        let rest_is = told text left rest at.taken is at.moved in
        let nothing : later ≡ Some [] = ended rest later rest_is.0 rest_is.1 where_it_is.0 where_it_is.1 spent in
        let whole : text ≡ at.taken ++ more = where_it_is.2 ∙ ap (λ l. (at.taken ++ more) ++ l) (some_is where_it_is.0 [] (sym where_it_is.1 ∙ nothing)) ∙ append-nil (at.taken ++ more) in
        (ap (λ t. events t limit) whole ∙ tells.whole.events, ap (λ t. fault t limit) whole ∙ tells.whole.fault, nothing)

    -- so the computers visited what the record costs, from a pair on that has visited as many as the first
    pub at-end-visited : (from : Pair) → NoVisits from first → (later : Option (List ℕ)) (next : ReaderState) (more : List ℕ)
        → Consumes rest later more → TellsEnd limit (at.taken ++ more) at.answered next → IsSpent rest later
        → (text : Text) → left ≡ Some text → HaveVisited (history_visits b (events text limit)) from pair
    at-end-visited from unvisited later next more moved tells spent text is =
        let all : HaveVisited (history_visits b (events text limit)) first pair =
        subst (λ es. HaveVisited (history_visits b es) first pair) (sym (whole-here later next more moved tells spent text is).0) at.visits in
        record {
          one = all.one ∙ ap (λ v. min (v + history_visits b (events text limit) (λ f. f.one)) (2 ^ 64 - 1)) unvisited.0;
          two = all.two ∙ ap (λ v. min (v + history_visits b (events text limit) (λ f. f.two)) (2 ^ 64 - 1)) unvisited.1;
        }

    -- the last line is written
    pub at-end : (new : S) (later : Option (List ℕ)) (next : ReaderState) (more : List ℕ) (n : ℕ)
        → Consumes rest later more → TellsEnd limit (at.taken ++ more) at.answered next → IsSpent rest later
        → n ≡ tick_count at.answered → Appended agrees mid new (gathered ++ o.closing at.answered)
        → (text : Text) → left ≡ Some text → HasRun b o agrees old new pair limit text later n
    at-end new later next more n moved tells spent count written text is =
        let (events_are, fault_is, nothing) = whole-here later next more moved tells spent text is in
        record {
          faultless = fault_is;
          ticks_are = count ∙ ap tick_count (sym events_are);
          written = subst (Appended agrees old new)
              (sym (ap (λ f. o.text (events text limit) ++ cond (is_none f) (o.closing (events text limit)) []) fault_is
              ∙ ap (λ es. o.text es ++ o.closing es) events_are))
              (handed-written agrees old mid new (o.text at.answered) gathered at.handed (o.closing at.answered) written);
          spent = nothing;
          stands = subst (λ es. PairStands b es pair) (sym events_are) at.stands;
        }

    -- writing the last line failed
    pub at-end-unwritten : (new : S) (later : Option (List ℕ)) (next : ReaderState) (more : List ℕ)
        → Consumes rest later more → TellsEnd limit (at.taken ++ more) at.answered next → IsSpent rest later
        → AppendedPrefix agrees mid new (gathered ++ o.closing at.answered)
        → (text : Text) → left ≡ Some text → HasStopped b o agrees old new limit text later
    at-end-unwritten new later next more moved tells spent part text is =
        let (events_are, fault_is, nothing) = whole-here later next more moved tells spent text is in
        record {
          written = subst (AppendedPrefix agrees old new)
              (sym (ap (λ f. o.text (events text limit) ++ cond (is_none f) (o.closing (events text limit)) []) fault_is
              ∙ ap (λ es. o.text es ++ o.closing es) events_are))
              (handed-part agrees old mid new (o.text at.answered) gathered at.handed (o.closing at.answered) part);
          stops = inr (inr nothing);
        }

    -- the record has a fault
    pub at-fault : (new : S) (later : Option (List ℕ)) (next : ReaderState) (more : List ℕ) (f : RecordFault) → Appended agrees mid new gathered
        → Consumes rest later more → TellsFault limit (at.taken ++ more) at.answered f next → (is_shown_at_end f.kind ≡ true → IsSpent rest later)
        → (text : Text) → left ≡ Some text → HasMetFault b o agrees old new limit text later f
    at-fault new later next more f written moved tells spent text is =
        let faulty = met text is later next more f moved tells spent in
        let where_it_is = here text is later more moved in
        record {
          fault_is = faulty.fault;
          written = subst (Appended agrees old new)
              (sym (output-faulty o text limit f faulty.fault ∙ ap o.text faulty.events))
              (written-on agrees old mid new (o.text at.answered) gathered at.handed written);
          took = record { taken = at.taken ++ more; behind = where_it_is.0; parts = where_it_is.2; rest_is = where_it_is.1; near = tells.near };
        }

    -- writing what was gathered before it failed
    pub at-fault-unwritten : (new : S) (later : Option (List ℕ)) (next : ReaderState) (more : List ℕ) (f : RecordFault) → AppendedPrefix agrees mid new gathered
        → Consumes rest later more → TellsFault limit (at.taken ++ more) at.answered f next → (is_shown_at_end f.kind ≡ true → IsSpent rest later)
        → (text : Text) → left ≡ Some text → HasStopped b o agrees old new limit text later
    at-fault-unwritten new later next more f part moved tells spent text is =
        let faulty = met text is later next more f moved tells spent in
        let where_it_is = here text is later more moved in
        record {
          written = subst (AppendedPrefix agrees old new)
              (append-nil (o.text at.answered) ∙ sym (output-faulty o text limit f faulty.fault ∙ ap o.text faulty.events))
              (part-on agrees old mid new (o.text at.answered) gathered at.handed [] part);
          stops = inr (inl (record {
            met = f;
            fault_is = faulty.fault;
            took = record { taken = at.taken ++ more; behind = where_it_is.0; parts = where_it_is.2; rest_is = where_it_is.1; near = tells.near };
          }));
        }

    -- the source failed
    pub at-broken : (new : S) (later : Option (List ℕ)) (next : ReaderState) (more : List ℕ) → Appended agrees mid new gathered
        → Consumes rest later more → TellsFailure limit (at.taken ++ more) at.answered next → HasBroken b o agrees old new limit left later
    at-broken new later next more written moved tells = record {
      taken = at.taken ++ more;
      moved = Consumes-trans left rest later at.taken more at.moved moved;
      written = subst (λ es. Appended agrees old new (o.text es)) (sym tells.all)
          (written-on agrees old mid new (o.text at.answered) gathered at.handed written);
    }

    -- a prefix of what was gathered is written: so one of all blocks
    part-here : (new : S) → AppendedPrefix agrees mid new gathered → (more : Text) → AppendedPrefix agrees old new (o.text at.answered ++ more)
    part-here new part more = part-on agrees old mid new (o.text at.answered) gathered at.handed more part

    -- writing failed before a read
    pub at-unhanded : (new : S) → AppendedPrefix agrees mid new gathered → (text : Text) → left ≡ Some text → HasStopped b o agrees old new limit text rest
    at-unhanded new part =
        stopped new at.taken at.answered rest reader (subst (AppendedPrefix agrees old new) (append-nil (o.text at.answered)) (part-here new part []))
        at.moved at.reads at.unsettled

    -- writing failed after a read did
    pub at-broken-unwritten : (new : S) → AppendedPrefix agrees mid new gathered → (later : Option (List ℕ)) (next : ReaderState) (more : List ℕ)
        → Consumes rest later more → TellsFailure limit (at.taken ++ more) at.answered next → settled next ≡ None
        → (text : Text) → left ≡ Some text → HasStopped b o agrees old new limit text later
    at-broken-unwritten new part later next more moved tells unsettled =
        stopped new (at.taken ++ more) at.answered later next (subst (AppendedPrefix agrees old new) (append-nil (o.text at.answered)) (part-here new part []))
        (Consumes-trans left rest later at.taken more at.moved moved) tells.reads unsettled

    -- writing failed while an event was shown
    pub at-unwritten : (new : S) (later : Option (List ℕ)) (next : ReaderState) (e : Event) (more : List ℕ)
        → HasFedPart b o agrees mid new gathered at.answered e
        → Consumes rest later more → TellsEvent limit (at.taken ++ more) (at.answered ++ e ∷ []) next → settled next ≡ None
        → (text : Text) → left ≡ Some text → HasStopped b o agrees old new limit text later
    at-unwritten new later next e more has moved tells unsettled =
        stopped new (at.taken ++ more) (at.answered ++ e ∷ []) later next
        (subst (AppendedPrefix agrees old new) (sym has.joined) (handed-part agrees old mid new (o.text at.answered) gathered at.handed has.more has.part))
        (Consumes-trans left rest later at.taken more at.moved moved) tells.reads unsettled

    -- few Ticks were met, and few moments, since each is a line
    pub at-few : limit < 2 ^ 32 → ticks < 2 ^ 63
    unfolding tick_count
    at-few small = omega (arith, at.few, small, at.ticks_are, count_by-le-length is_tick at.answered)

    pub at-few-moments : limit < 2 ^ 32 → moments_of pair < 2 ^ 63
    at-few-moments small = omega (arith, at.few, small, at.moments, moments-counted b at.answered pair at.stands)

    at-few-ticks : limit < 2 ^ 32 → tick_count at.answered < 2 ^ 32
    unfolding tick_count
    at-few-ticks small = omega (arith, at.few, small, count_by-le-length is_tick at.answered)

    -- what the next step has to know
    pub at-seen : limit < 2 ^ 32 → HasSeen b viewed pair ticks at.answered
    at-seen small = record { stands = at.stands; seen = at.seen; ticks_are = at.ticks_are; few = at-few-ticks small }

    -- the closing is written, or a prefix of it
    pub at-finished : (new : S) (later : Option (List ℕ)) (next : ReaderState) (more : List ℕ) (result : Result ℕ RunError)
        → Consumes rest later more → TellsEnd limit (at.taken ++ more) at.answered next → IsSpent rest later
        → IfOk result (λ n. n ≡ ticks) → OnOk result (Appended agrees mid new (gathered ++ o.closing at.answered))
        → OnErr result (AppendedPrefix agrees mid new (gathered ++ o.closing at.answered)) → IfErr result (λ e. e ≡ Write)
        → Shows b o agrees old new pair limit left later result
    at-finished new later next more (Ok n) moved tells spent count written part cause =
        at-end new later next more n moved tells spent (count ∙ at.ticks_are) written
    at-finished new later next more (Err e) moved tells spent count written part cause =
        subst (λ x. Shows b o agrees old new pair limit left later (Err x)) (sym cause)
        (at-end-unwritten new later next more moved tells spent part)
