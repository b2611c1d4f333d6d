-- One more piece, or the end of the call.
use Rattle.std.proofs.Common.{Ok, Err, Some, None, refl, ap, ◌∙◌, arith}
use Rattle.record_lines.specs.Reader.{room, settled}
use Rattle.record_lines.specs.declared.outcome.LineError.TheVariants as LineError
use Rattle.record_lines.specs.Reads.{piece_call}
use Rattle.record_lines.proofs.Asking.{asking-piece, asks-last}
use Rattle.record_lines.proofs.Calls.{fails_here, takes_piece, room-filled}
use Rattle.record_lines.proofs.reader.LineReader.next_other.Goals as goal

pub pieces-preserved : goal.pieces-preserved
pieces-preserved g c =
    let i = c.pieces.invariant in
    let advances = c.in_default-found.ensures.none in
    let empty = c.in_default-found.ensures.empty in
    let piece = c.in-Ok-true.ensures.moved in
    let size = ap room piece.tells.0 ∙ room-filled c.found.new.self piece.more empty in
    record {
      unsettled = ap settled piece.tells.0 ∙ advances.unsettled;
      took = takes_piece _ _ _ c.args.self.now c.pieces.self c.found.new.self c.fill.new.self i.took advances empty c.in_default-found.ensures.within piece;
      fewer = let a = i.fewer in let b = advances.room_is in omega arith;
      asking = let gave = c.in-Ok-true.ensures.gave (ap Ok c.in-Ok-true.field-0-test) in
          asking-piece g.S.Source.reads _ _ _ _ i.asking c.fill.new.self c.fill.new.source gave.0 c.in_default-found.ensures.needs gave.1 gave.2;
      quiet = c.in-Ok-true.ensures.quiet ∙ i.quiet;
      is_open = c.fill.ensures.is_open ∙ i.is_open;
      files = c.fill.ensures.files ∙ i.files;
      opens = c.fill.ensures.opens ∙ i.opens;
    }

pub returns-in-Ok-false-clause-asks : goal.returns-in-Ok-false-clause-asks
returns-in-Ok-false-clause-asks g c = λ unsettled.
    let asking = c.pieces.invariant.asking in
    asks-last g.S.Source.reads c.args.self.now c.pieces.self c.args.source.now c.pieces.source asking c.fill.new.source c.finish.result (piece_call (Some 0))
    (c.in-Ok-false.ensures.spent (ap Ok c.in-Ok-false.field-0-test)) c.finish.ensures.last

pub returns-in-Err-clause-asks : goal.returns-in-Err-clause-asks
returns-in-Err-clause-asks g c = λ unsettled.
    let asking = c.pieces.invariant.asking in
    asks-last g.S.Source.reads c.args.self.now c.pieces.self c.args.source.now c.pieces.source asking c.fill.new.source (Err LineError.Failed) (piece_call None)
    c.in-Err.ensures.failed refl

pub returns-in-Err-clause-told : goal.returns-in-Err-clause-told
returns-in-Err-clause-told g c =
    let took = c.pieces.invariant.took in
    fails_here (g.S.Source.left c.args.source.now) (g.S.Source.left c.pieces.source) (g.S.Source.left c.fill.new.source) c.args.self.now c.pieces.self c.found.new.self c.fill.new.self
    took c.in_default-found.ensures.none c.in_default-found.ensures.empty c.in_default-found.ensures.within c.in-Err.ensures.same c.in-Err.ensures.kept
