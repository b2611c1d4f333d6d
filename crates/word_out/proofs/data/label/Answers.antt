use Rattle.std.proofs.Common.{◌≡◌, ℕ, zero, suc, ◌+◌, ◌-◌, ◌/◌, ◌<◌, sym, ap, arith}
use Rattle.view_spec.specs.OutputWords.{label_of}
use Rattle.word_out.proofs.data.label.Goals as goal

-- the label of a group's word
of_group : (n : ℕ) → 0 < n → 65 + (n - 1) / 4 ≡ label_of n
unfolding label_of
of_group zero some = absurd (omega arith)
of_group (suc g) some = omega arith

pub returns-then-number-eq0 : goal.returns-then-number-eq0
unfolding label_of
returns-then-number-eq0 c = sym (ap label_of c.if-number-eq0.true)

pub returns-else-number-eq0 : goal.returns-else-number-eq0
returns-else-number-eq0 c = of_group c.args.number (omega (arith, c.if-number-eq0.false))
