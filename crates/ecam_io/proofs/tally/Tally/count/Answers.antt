use Rattle.std.proofs.Common.{◌≡◌, ℕ, ◌+◌, ◌-◌, ◌^◌, min, Bool, true, false, ◌&&◌, ◌==◌, refl, sym, ◌∙◌, ap, cond}
use mir.Val.{bool_byte}
use Rattle.ecam_io.proofs.Counting.{tally-byte}
use Rattle.ecam_io.proofs.tally.Tally.count.Goals as goal
use Rattle.ecam_io.proofs.tally.Tally.count.Goals.{then-self, else-self}

as_one : (b : Bool) → bool_byte b ≡ cond b 1 0
as_one true = refl
as_one false = refl

-- a count that goes on by one where this holds
counts : (now was one : ℕ) (b p : Bool) → now ≡ min (was + one) (2 ^ 64 - 1) → one ≡ bool_byte b → b ≡ p → now ≡ min (was + cond p 1 0) (2 ^ 64 - 1)
counts now was one b p now-is one-is b-is = now-is ∙ ap (λ n. min (was + n) (2 ^ 64 - 1)) (one-is ∙ as_one b ∙ ap (λ q. cond q 1 0) b-is)

pub returns : goal.returns
returns c =
    let old = c.args.self.now in
    let byte = c.args.byte in
    let begins : c.if-self.begins_block ≡ (old.fresh && byte == 64) = elim c.if-self.branch [
      | then-self w ↦ w.begins_block-is ∙ ap (λ f. f && byte == 64) (sym w.if-self.true)
      | else-self w ↦ w.begins_block-is ∙ w.if-self.false ∙ ap (λ f. f && byte == 64) (sym w.if-self.false)
    ] in
    tally-byte old _ byte c.saturating_add-self-3.ensures
    (counts c.saturating_add-self-2.result old.lines c.from-2.result (byte == 10) (byte == 10) c.saturating_add-self-2.ensures c.from-2.ensures refl)
    (counts c.saturating_add-self.result old.blocks c.from.result c.if-self.begins_block (old.fresh && byte == 64) c.saturating_add-self.ensures c.from.ensures begins)
    refl
