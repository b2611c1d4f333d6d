-- How showing a file ends, by how its lines did.
use Rattle.std.proofs.Common.{◌≡◌, ℕ, Option, Some, Result, Ok, Err, true, refl, inr}
use Rattle.ecam_io.specs.Outside.{FileHas}
use Rattle.ecam_io.proofs.Calls.{FileHas-weaker}
use Rattle.ecam_spec.specs.Book.{Text, Book}
use Rattle.fwc_pair.specs.declared.pair.Pair.{Pair}
use Rattle.record_views.specs.Showing.{Showing}
use Rattle.record_views.specs.Runs.{Shows}
use Rattle.record_views.specs.declared.show.RunError.{RunError}
use Rattle.record_views.specs.declared.show.RunError.TheVariants.{Read, Write, Record}
use Rattle.record_views.proofs.Endings.{told}
use Rattle.replay_core.specs.Calls.{ShelfCall, SinkCall, HasFailed, HasFailedToWrite}
use Rattle.replay_core.specs.Play.{Plays}

-- the file is open, and nothing of it was taken yet
pub played : {S : Type 0} (f : ShelfCall) (out : SinkCall S) (b : Book) (o : Showing) (pair : Pair) (name : Text) (limit : ℕ) (left : Option Text) (result : Result ℕ RunError)
    → FileHas f.files name (λ text. left ≡ Some text) → f.is_open ≡ true → (result ≡ Err Read → HasFailed f) → (result ≡ Err Write → HasFailedToWrite out)
    → Shows b o out.agrees out.old out.new pair limit left f.left result → Plays f out b o pair name limit result
played f out b o pair name limit left (Ok ticks) has opened read write shows = FileHas-weaker f.files name _ _ (λ text is. shows text is) has
played f out b o pair name limit left (Err Read) has opened read write shows = inr (record {
  cause = read refl;
  opened = opened;
  replies =
      FileHas-weaker f.files name _ _
      (λ text is.
      let (behind, rest, parts) = told text left f.left shows.taken is shows.moved in
      record { taken = shows.taken; behind = behind; part = parts; rest = rest; written = shows.written })
      has;
})
played f out b o pair name limit left (Err Write) has opened read write shows = (write refl, FileHas-weaker f.files name _ _ (λ text is. shows text is) has)
played f out b o pair name limit left (Err (Record g)) has opened read write shows = FileHas-weaker f.files name _ _ (λ text is. shows text is) has
