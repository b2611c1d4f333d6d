use Rattle.book_reader.proofs.UnplacedParts.{parts_unplaced}
use Rattle.book_reader.proofs.draft.draft_of.Goals as goal

pub returns-clause-unplaced : goal.returns-clause-unplaced
returns-clause-unplaced c =
    parts_unplaced _ c.in_ok-phase_in.ensures.unplaced c.in_ok-alerts_in.ensures.unplaced c.in_ok-memos_in.ensures.unplaced

pub returns-clause-read : goal.returns-clause-read
returns-clause-read c = record {
  phases = cc (c.in_ok-phase_in.ensures.read);
  alerts = cc (c.in_ok-alerts_in.ensures.read);
  memos = cc (c.in_ok-memos_in.ensures.read);
}
