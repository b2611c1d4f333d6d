-- The piece is within what the limit allows.
use Rattle.std.proofs.Common.{◌≡◌, true, nat_lt, ap, sym, ◌∙◌, refl, arith, length}
use Rattle.std.proofs.lemmas.List.{take_all}
use Rattle.std.proofs.lemmas.Bool.{le-ltb, ltb-true}
use Rattle.record_lines.specs.Reader.{filled}
use Rattle.record_lines.specs.contracts.reader.LineReader.{the_view}
use Rattle.record_lines.proofs.Progress.{same_reader}
use Rattle.record_lines.proofs.reader.LineReader.fill.Goals as goal

pub returns-clause-moved : goal.returns-clause-moved
returns-clause-moved g c =
    let size = ap length c.bytes.ensures.all in
    let same = same_reader _ (filled c.read.new.self (the_view c.self.inside))
    (sym (take_all c.self.inside.allowance c.read.new.self (omega arith))) refl refl (omega arith)
    (ap (λ r. r.over) c.self.view_is ∙ c.requires.within ∙ sym (le-ltb c.self.inside.allowance (length c.read.new.self) (omega arith))) refl in
    record { more = c.read.new.self; moved = c.in_ok-read.ensures.moved; tells = (same ∙ ap (filled c.read.new.self) c.self.view_is, c.read.ensures.few) }

pub returns-then-count-self-clause-gave : goal.returns-then-count-self-clause-gave
returns-then-count-self-clause-gave g c = λ is.
    let size = ap length c.bytes.ensures.all in
    (length c.read.new.self, (let many = c.if-count-self.true in omega arith), c.in_ok-read.ensures.gave)

pub returns-clause-gave : goal.returns-clause-gave
returns-clause-gave g c = λ is.
    let size = ap length c.bytes.ensures.all in
    let more : nat_lt 0 (length c.bytes.result.now) ≡ true = cc in
    let some = ltb-true 0 (length c.bytes.result.now) more in
    (length c.read.new.self, omega arith, c.in_ok-read.ensures.gave)
