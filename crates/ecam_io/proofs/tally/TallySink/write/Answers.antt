use Rattle.std.proofs.Common.{take, subst, sym, ap, ◌∙◌, add-one}
use Rattle.std.proofs.Math.Seq.{take-suc}
use Rattle.ecam_io.specs.Outside.{Appended}
use Rattle.ecam_io.specs.Tally.{IsTallyOf}
use Rattle.ecam_io.proofs.Calls.{Appended-append}
use Rattle.ecam_io.proofs.tally.TallySink.write.Goals as goal

pub loop-byte-preserved : goal.loop-byte-preserved
loop-byte-preserved c =
    let bytes = c.args.bytes.now in
    let i = c.loop-byte.byte-index in
    subst (Appended IsTallyOf c.args.self.now c.count.new.self)
    (sym (ap (λ n. take n bytes) (add-one i) ∙ take-suc bytes i 0 c.loop-byte-test.true))
    (Appended-append IsTallyOf c.args.self.now c.loop-byte.self c.count.new.self (take i bytes) _ c.loop-byte.invariant c.count.ensures)
