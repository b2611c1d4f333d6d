use Rattle.std.proofs.Common.{◌≡◌, ℕ, ◌<◌, ◌==◌, Bool, length, take, Some, if◌then◌else◌}
use Rattle.std.specs.List.{list_any}
use Rattle.alert_truth.specs.Listed.{AreLinked, first_lister}
use Rattle.alert_truth.proofs.listers.Listers.add.Given as goal

-- the alert stands in front of those that list the secondaries so far
abbrev pub invariant-loop-secondary : goal.invariant-loop-secondary
invariant-loop-secondary l = record {
  places : length l.self.heads.items ≡ length l.fn.self.heads.items;
  linked : AreLinked (length l.fn.self.heads.items) l.self;
  adds : (test : ℕ → Bool) (a : ℕ) → a < length l.fn.self.heads.items → first_lister test l.self a
      ≡ (if list_any (λ s. s == a) (take l.secondary-index l.secondaries)
      then (if test l.alert then Some l.alert else first_lister test l.fn.self a)
      else first_lister test l.fn.self a);
}
