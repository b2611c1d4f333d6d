use Rattle.std.proofs.Common.{rules, ◌∙◌, sym, ap, subst, take, drop}
use Rattle.ecam_io.specs.Outside.{Appended}
use Rattle.gathering.specs.Handed.{IsHanded}
use Rattle.gathering.proofs.Handing.{handed-on, handed-front, drop_none}
use Rattle.gathering.proofs.sink.Gathering.hand_over.Goals as goal

pub returns-in_err-count-clause-nothing : goal.returns-in_err-count-clause-nothing
returns-in_err-count-clause-nothing g c = λ none. let empty = c.loop-self.invariant.still none in search rules

pub loop-self-preserved : goal.loop-self-preserved
loop-self-preserved g c =
    let agrees = g.O.Sink.agrees in
    let first = c.args.self.now in
    let mid = c.loop-self.self in
    let count = c.in_ok-count.count in
    let written = subst (λ bytes. Appended agrees mid.out.now c.write.new.self (take count bytes)) c.as_slice.ensures.value c.in_ok-count.ensures.appended in
    record {
      same_sink = c.loop-self.invariant.same_sink;
      handed = subst (IsHanded agrees first.out.now c.write.new.self first.bytes.items) (sym c.drop_front.ensures)
          (handed-on agrees first.out.now mid.out.now c.write.new.self first.bytes.items mid.bytes.items c.loop-self.invariant.handed
          (drop count mid.bytes.items) (handed-front agrees mid.out.now c.write.new.self count mid.bytes.items written));
      quiet = c.in_ok-count.ensures.quiet ∙ c.loop-self.invariant.quiet;
      still = λ none. c.drop_front.ensures ∙ ap (drop count) (c.loop-self.invariant.still none) ∙ drop_none count;
    }
