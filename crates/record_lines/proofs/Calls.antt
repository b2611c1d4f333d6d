-- The steps of one call, one after another.
use Rattle.std.proofs.Common.{◌≡◌, ℕ, ◌≤◌, false, List, [], ◌++◌, length, Option, Err, sym, ap, subst, arith, length-take, append-nil, append_assoc}
use Rattle.record_lines.specs.Reader.{ReaderState, room, filled}
use Rattle.std.specs.Io.KnownBytes.{Consumes}
use Rattle.ecam_spec.specs.Record.{events}
use Rattle.record_lines.specs.declared.outcome.LineError.TheVariants.{Failed}
use Rattle.record_lines.specs.Reads.{Reads, Goes, Advances, Takes, Tells, TellsFailure}
use Rattle.record_lines.proofs.Went.{is_closing, went, all_gone}
use Rattle.std.proofs.KnownBytes.{Consumes-trans}
use Rattle.record_lines.proofs.Progress.{goes_filled}

pub goes-then-goes : (old mid new : ReaderState) (first second : List ℕ) → Goes old mid first → Goes mid new second → Goes old new (first ++ second)
goes-then-goes old mid new first second one two limit taken answered reads =
    let P : List ℕ → Type 0 = λ l. Reads limit l answered new in
    subst P (append_assoc taken first second) (two limit (taken ++ first) answered (one limit taken answered reads))

abbrev pub TakesAndGoes : Option (List ℕ) → Option (List ℕ) → ReaderState → ReaderState → Type 0
TakesAndGoes before after old new = Takes before after (λ more. Goes old new more)

module _ (before between after : Option (List ℕ)) (old mid found new : ReaderState) (took : TakesAndGoes before between old mid) where
  pub goes_advanced : Advances mid found → Goes old found took.more
  goes_advanced advances =
      let P : List ℕ → Type 0 = λ l. Goes old found l in
      subst P (append-nil took.more) (goes-then-goes old mid found took.more [] took.tells advances.goes)

  -- one more piece
  pub takes_piece : Advances mid found → found.pending ≡ [] → found.over ≡ false → Takes between after (λ more. (new ≡ filled more found) × (length more ≤ 4096)) → TakesAndGoes before after old new
  takes_piece advances empty within piece = record {
    more = took.more ++ piece.more;
    moved = Consumes-trans before between after took.more piece.more took.moved piece.moved;
    tells = goes-then-goes old found new took.more piece.more (goes_advanced advances)
        (subst (λ r. Goes found r piece.more) (sym piece.tells.0) (goes_filled found piece.more piece.tells.1 advances.unsettled empty within));
  }

  -- the source failed
  pub fails_here : Advances mid found → found.pending ≡ [] → found.over ≡ false → new ≡ found → after ≡ between → Takes before after (λ more. Tells old new more (Err Failed))
  fails_here advances empty within same kept = record {
    more = took.more;
    moved = subst (λ l. Consumes before l took.more) (sym kept) took.moved;
    tells = λ limit taken answered reads. subst (TellsFailure limit (taken ++ took.more) answered) (sym same)
        (let now = goes_advanced advances limit taken answered reads in
        let through = went found.stage limit (taken ++ took.more) answered found advances.unsettled now in
        let all = all_gone limit through.0 (taken ++ took.more) answered (is_closing found.stage) found through.1 empty within in
        record { reads = now; all = subst (λ t. events t limit ≡ answered) (sym all) through.1.answered_is });
  }

-- a piece takes no room
pub room-filled : (r : ReaderState) (bytes : List ℕ) → r.pending ≡ [] → room (filled bytes r) ≡ room r
room-filled r bytes empty =
    let none = ap length empty in
    let len = length-take r.allowance bytes in
    omega arith
