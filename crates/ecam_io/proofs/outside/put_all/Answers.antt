use Rattle.std.proofs.Common.{ℕ, List, ◌+◌, ◌≤◌, take, drop, length, arith, length-drop, subst, ◌∙◌}
use Rattle.std.proofs.lemmas.Result.{err_from_is_err_and}
use Rattle.std.proofs.lemmas.List.{take-append-drop, take_rest}
use Rattle.ecam_io.specs.Outside.{Appended, AppendedPrefix}
use Rattle.ecam_io.proofs.Calls.{Appended-take, AppendedPrefix-all, AppendedPrefix-longer, AppendedPrefix-kept}
use Rattle.ecam_io.proofs.outside.put_all.Goals as goal

-- a write takes no more than what is left
within_more : (bytes : List ℕ) (done n : ℕ) → done ≤ length bytes → n ≤ length (drop done bytes) → done + n ≤ length bytes
within_more bytes done n within bound = omega (arith, length-drop done bytes)

pub loop-done-preserved : goal.loop-done-preserved
loop-done-preserved g c =
    let agrees = g.O.Sink.agrees in
    let bytes = c.args.bytes.now in
    let done = c.loop-done.done in
    let n = c.in_ok-done.field-0 in
    let mid = c.loop-done.out in
    let new = c.write.new.self in
    record {
      within = within_more bytes done n c.loop-done.invariant.within (subst (λ rest. n ≤ length rest) (take_rest bytes done) c.in_ok-done.ensures.bound);
      written = Appended-take agrees c.args.out.now mid new bytes done n c.loop-done.invariant.written
          (subst (λ rest. Appended agrees mid new (take n rest)) (take_rest bytes done) c.in_ok-done.ensures.appended);
      faults = c.in_ok-done.ensures.quiet ∙ c.loop-done.invariant.faults;
    }

pub returns-in_err-done-clause-prefix : goal.returns-in_err-done-clause-prefix
returns-in_err-done-clause-prefix g c =
    let agrees = g.O.Sink.agrees in
    let bytes = c.args.bytes.now in
    let done = c.loop-done.done in
    let old = c.args.out.now in
    let mid = c.loop-done.out in
    let new = c.write.new.self in
    let p = err_from_is_err_and c.from_residual.result c.from_residual.ensures.1 in
    let before = AppendedPrefix-all agrees old mid (take done bytes) c.loop-done.invariant.written in
    let after = AppendedPrefix-kept agrees old mid new (take done bytes) before c.in_err-done.ensures.kept in
    let longer = AppendedPrefix-longer agrees old new (take done bytes) (drop done bytes) after in
    rw p.1 (subst (AppendedPrefix agrees old new) (take-append-drop done bytes) longer)
