use Rattle.std.proofs.Common.{◌≡◌, ℕ, ◌<◌, ◌≤◌, Bool, length}
use Rattle.std.specs.Prelude.{find}
use Rattle.std.specs.Option.{option_or}
use Rattle.book_model.specs.Sealed.{the_book}
use Rattle.alert_truth.specs.Listed.{AreLinked, first_lister}
use Rattle.alert_truth.proofs.Listings.{listing, secondaries_of}
use Rattle.alert_truth.proofs.listers.Listers.new.Given as goal

-- the alerts from this one on are linked, in front of them stand those before it
abbrev pub invariant-loop-alert : goal.invariant-loop-alert
invariant-loop-alert l = record {
  most : l.alert ≤ length (the_book l.book).alerts;
  places : length l.listers.heads.items ≡ length (the_book l.book).alerts;
  linked : AreLinked (length (the_book l.book).alerts) l.listers;
  found : (test : ℕ → Bool) (a : ℕ) → a < length (the_book l.book).alerts
      → option_or (find test (listing (secondaries_of (the_book l.book)) a l.alert)) (first_lister test l.listers a)
      ≡ find test (listing (secondaries_of (the_book l.book)) a (length (the_book l.book).alerts));
}

abbrev pub decreases-loop-alert : goal.decreases-loop-alert
decreases-loop-alert l = l.alert
