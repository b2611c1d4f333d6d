-- How loading the limits of a file ends, each ending with its cause, and making ready what tells advisories by them.
use Rattle.std.specs.Prelude.{◌≡◌, [], List, Option, Some, Result, Ok, Err, IsSomeAnd}
use Rattle.ecam_io.specs.Outside.{FileHas}
use Rattle.ecam_spec.specs.Book.{Text, Book}
use Rattle.book_model.specs.Sealed.{the_book}
use Rattle.fwc_pair.specs.PairState.{PairFits}
use Rattle.view_spec.specs.Advisories.{Advisory, Fit}
use Rattle.limits_spec.specs.LimitsBytes.{limits_fault, limits}
use Rattle.limits_spec.specs.declared.form.LimitsFault.{LimitsFault}
use Rattle.advisories.specs.State.{settings_of, StandAfter}
use Rattle.advisories.specs.View.{limits_of}
use Rattle.advisories.specs.declared.limits.Limits.{Limits}
use Rattle.replay_core.specs.Calls.{Files, ShelfCall, OpenedOne, OpenedBoth}
use Rattle.replay_core.specs.Loading.{BookHas, TookAtMost, Taken, IsUnread, past_limits, Unloaded}
use Rattle.replay_core.specs.declared.load_limits.UnreadyLimits.{UnreadyLimits}
use Rattle.replay_core.specs.declared.load_limits.UnreadyLimits.TheVariants.{Refused, Unread, NoMemory}
use Rattle.replay_core.specs.declared.advise.Prepared.{Prepared}
use Rattle.replay_core.specs.declared.advise.Unprepared.{Unprepared}
use Rattle.replay_core.specs.declared.advise.Unprepared.TheVariants as unprepared

-- where a shelf tells its files, one has that name, and by the book its bytes are limits of which P holds
abbrev pub LimitsHave : Files → Text → Book → (List Advisory → Type 0) → Type 0
LimitsHave files name b P = FileHas files name (λ bytes. IsSomeAnd (limits b bytes) P)

-- by the book the bytes of a limits file have this fault, and it was read no further than one byte more than it may have
pub record HasLimitsFault (b : Book) (f : LimitsFault) (left : Option Text) (bytes : Text)
    : Type 0 where
  pub fault_is : limits_fault b bytes ≡ Some f
  pub took : TookAtMost past_limits bytes left

-- how loading the limits of a file by a book ends
abbrev pub LoadsLimits : ShelfCall → Text → Book → Result Limits UnreadyLimits → Type 0
LoadsLimits s name b (Ok l) = LimitsHave s.files name b (λ ls. ls ≡ limits_of l)
LoadsLimits s name b (Err (Refused f)) = FileHas s.files name (HasLimitsFault b f s.left)
LoadsLimits s name b (Err Unread) = IsUnread past_limits s name
LoadsLimits s name b (Err NoMemory) = Taken past_limits s.files name s.left

module _ (s : ShelfCall) (name file : Text) where
  -- why no limits stand ready, where the book was accepted
  abbrev pub Unset : UnreadyLimits → Type 0
  Unset (Refused f) = BookHas s.files name (λ b. FileHas s.files file (HasLimitsFault b f s.left))
  Unset Unread = BookHas s.files name (λ b. Unit {0}) × IsUnread past_limits s file
  Unset NoMemory = BookHas s.files name (λ b. Taken past_limits s.files file s.left)

  -- the book of the one file stands ready to be shown by the limits of the other
  pub record HasPrepared (p : Prepared) : Type 0 where
    pub count : OpenedBoth s
    pub book : BookHas s.files name (λ b. b ≡ the_book p.loaded.book)
    pub limits_are : LimitsHave s.files file (the_book p.loaded.book)
        (λ ls. ls ≡ settings_of p.view)
    pub pair : PairFits (the_book p.loaded.book) p.loaded.pair
    pub fit : Fit (the_book p.loaded.book) (settings_of p.view)
    pub begins : StandAfter (the_book p.loaded.book) [] p.view

  -- how making them ready ends
  abbrev pub Prepares : Result Prepared Unprepared → Type 0
  Prepares (Ok p) = HasPrepared p
  Prepares (Err (unprepared.Book e)) = OpenedOne s × Unloaded s name e
  Prepares (Err (unprepared.Limits e)) = OpenedBoth s × Unset e
