use Rattle.std.proofs.Common.{◌≡◌, ℕ, vec_len}
use Rattle.ecam_spec.proofs.TermReading.{next_move}
use Rattle.term_text.specs.Pending.{pending, CountsWithin}
use Rattle.term_text.proofs.pending.Pending.next_for.Given as goal

abbrev pub invariant-loop-expected : goal.invariant-loop-expected
invariant-loop-expected l = record {
  next : next_move (pending l.fn.self) l.token ≡ next_move (pending l.self) l.token;
  counts : (n : ℕ) → CountsWithin n (pending l.fn.self) → CountsWithin n (pending l.self);
}

abbrev pub decreases-loop-expected : goal.decreases-loop-expected
decreases-loop-expected l = vec_len l.self.stack
