use Rattle.std.proofs.Common.{ℕ, ◌/◌, ◌-◌, ◌^◌, ◌%◌, Bool, nat_eq, true, false, Some, None, cond, pos, arith}
use Rattle.std.specs.Prelude.{IfSome}
use Rattle.std.proofs.lemmas.Int.{ints}
use Rattle.ecam_spec.specs.declared.kinds.Kind.TheVariants.{Disc}
use Rattle.ecam_spec.specs.Word.{ssm}
use Rattle.ecam_spec.specs.Reading.{discrete}
use Rattle.param_table.specs.TableState.{IsValueOf}
use Rattle.param_table.proofs.words.reading.Goals as goal

bit_bound : (b : Bool) (n : ℕ) → IfSome (cond b (Some (pos (n % 2))) None) (IsValueOf Disc)
bit_bound true n = (omega (arith, ints), omega (arith, ints))
bit_bound false n = tt

discrete_bound : (b word : ℕ) → IfSome (discrete b word) (IsValueOf Disc)
unfolding discrete
discrete_bound b word = bit_bound (nat_eq (ssm word) 0) (word / 2 ^ (b - 1))

pub returns-in-Disc-clause-bound : goal.returns-in-Disc-clause-bound
returns-in-Disc-clause-bound c =
    rw (c.disc.ensures, c.in-Disc.is) (discrete_bound c.args.low c.args.word.now)
