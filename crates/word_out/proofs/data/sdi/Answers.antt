use Rattle.std.proofs.Common.{◌≡◌, ℕ, zero, suc, ◌-◌, ◌%◌, ◌<◌, sym, ap, arith}
use Rattle.view_spec.specs.OutputWords.{sdi_of}
use Rattle.word_out.proofs.data.sdi.Goals as goal

-- the SDI of a group's word
of_group : (n : ℕ) → 0 < n → (n - 1) % 4 ≡ sdi_of n
unfolding sdi_of
of_group zero some = absurd (omega arith)
of_group (suc g) some = omega arith

pub returns-then-number-eq0-clause-sdi : goal.returns-then-number-eq0-clause-sdi
unfolding sdi_of
returns-then-number-eq0-clause-sdi c = sym (ap sdi_of c.if-number-eq0.true)

pub returns-else-number-eq0-clause-sdi : goal.returns-else-number-eq0-clause-sdi
returns-else-number-eq0-clause-sdi c = of_group c.args.number (omega (arith, c.if-number-eq0.false))
