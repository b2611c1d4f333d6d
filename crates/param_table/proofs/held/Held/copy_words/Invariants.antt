use Rattle.std.proofs.Common.{◌≡◌, ℕ, ◌<◌, ◌≤◌, length, get_or}
use Rattle.param_table.specs.HeldValues.{unused}
use Rattle.param_table.proofs.held.Held.copy_words.Given as goal

abbrev pub invariant-loop-i : goal.invariant-loop-i
invariant-loop-i l = record {
  count : length l.self.mailboxes.items.items ≡ length l.initial.self.mailboxes.items.items;
  done : (m : ℕ) → m < l.i → get_or l.self.mailboxes.items.items m unused
      ≡ record (get_or l.others m unused) { hearers = (get_or l.initial.self.mailboxes.items.items m unused).hearers };
  left : (m : ℕ) → l.i ≤ m → get_or l.self.mailboxes.items.items m unused ≡ get_or l.initial.self.mailboxes.items.items m unused;
  changed : l.self.changed ≡ l.initial.self.changed;
  busy : l.self.busy ≡ l.initial.self.busy;
  dues : l.self.dues ≡ l.initial.self.dues;
}
