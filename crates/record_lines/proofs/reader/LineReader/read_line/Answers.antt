-- Without a line feed what is left goes to the line, if it has room for it.
use Rattle.std.proofs.Common.{◌≡◌, ◌≤◌, ◌==◌, ap, sym, ◌∙◌, refl, subst, arith, length, None}
use Rattle.std.specs.Prelude.{position}
use Rattle.ecam_spec.specs.declared.kinds.FaultKind.TheVariants.{Long}
use Rattle.record_lines.specs.Reader.{settled_at}
use Rattle.record_lines.specs.Reads.{Advances}
use Rattle.record_lines.proofs.Refusals.{fails, too_long, beyond_some, beyond_none, GoesBeyond}
use Rattle.record_lines.proofs.Progress.{carries}
use Rattle.record_lines.proofs.Went.{inside}
use Rattle.record_lines.proofs.Needs.{needs-long, needs-endless}
use Rattle.record_lines.proofs.reader.LineReader.read_line.Goals as goal
use Rattle.record_lines.proofs.reader.LineReader.read_line.Goals.{in_default-via-in-Some+else-begun-at-le-LONGEST, in_default-via-in-None+else-begun-bytes-le-LONGEST}

pub returns-in-None-clause-none : goal.returns-in-None-clause-none
returns-in-None-clause-none c =
    let old = c.args.self.now in
    let is = c.self.view_is in
    let bytes = c.bytes-bytes.ensures.all ∙ ap (λ r. r.pending) is in
    let none : position (λ b. b == 10) old.pending ≡ None = ap (position (λ b. b == 10)) (sym bytes) ∙ sym c.place_of.ensures ∙ c.in-None.is in
    let line = ap (λ r. length r.line) is in
    let left = ap length bytes in
    subst (Advances old) (sym c.carry.ensures) (carries old c.requires none (let fits = c.if-begun-bytes-le-LONGEST.true in let begun = c.len-begun.ensures.value in omega arith))

pub returns-in_default-clause-given : goal.returns-in_default-clause-given
returns-in_default-clause-given c =
    let old = c.args.self.now in
    let is = c.self.view_is in
    let bytes = c.bytes-bytes.ensures.all ∙ ap (λ r. r.pending) is in
    let line = ap (λ r. length r.line) is in
    let left = ap length bytes in
    let place = ap (position (λ b. b == 10)) (sym bytes) ∙ sym c.place_of.ensures in
    let begun = c.len-begun.ensures.value in
    let few : length old.line ≤ 32 = let fits = c.len-begun.ensures.fits in omega arith in
    let far : GoesBeyond old =
    elim c.in_default.branch [
      | in_default-via-in-Some+else-begun-at-le-LONGEST w ↦ beyond_some old w.in-Some.at (place ∙ w.in-Some.is) (let over = w.if-begun-at-le-LONGEST.false in omega arith) few
      | in_default-via-in-None+else-begun-bytes-le-LONGEST w ↦ beyond_none old (place ∙ w.in-None.is) (let over = w.if-begun-bytes-le-LONGEST.false in omega arith) few
    ] in
    fails old old c.fail.new.self Long c.fail.result (ap settled_at c.requires) c.fail.ensures.answer c.fail.ensures.state refl (omega arith) (too_long old c.requires few far.0 far.1)

pub returns-in_default-clause-whole : goal.returns-in_default-clause-whole
returns-in_default-clause-whole c =
    let old = c.args.self.now in
    let is = c.self.view_is in
    let bytes = c.bytes-bytes.ensures.all ∙ ap (λ r. r.pending) is in
    let line = ap (λ r. length r.line) is in
    let left = ap length bytes in
    let place = ap (position (λ b. b == 10)) (sym bytes) ∙ sym c.place_of.ensures in
    let begun = c.len-begun.ensures.value in
    let few : length old.line ≤ 32 = let fits = c.len-begun.ensures.fits in omega arith in
    elim c.in_default.branch [
      | in_default-via-in-Some+else-begun-at-le-LONGEST w ↦
          needs-long old c.requires w.in-Some.at (place ∙ w.in-Some.is) (inside old.pending w.in-Some.at (place ∙ w.in-Some.is)) (let over = w.if-begun-at-le-LONGEST.false in omega arith)
      | in_default-via-in-None+else-begun-bytes-le-LONGEST w ↦
          needs-endless old c.requires (place ∙ w.in-None.is) (let over = w.if-begun-bytes-le-LONGEST.false in omega arith) few
    ]
