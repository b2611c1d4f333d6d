use Rattle.std.proofs.Common.{◌≡◌, ◌+◌, ◌*◌, ◌/◌, length, map, sym, ap, ◌∙◌, arith}
use Rattle.std.proofs.lemmas.List.{length-replicate, length-map}
use Rattle.wakes.specs.Due.{never}
use Rattle.book_model.specs.View.{parameter_of}
use Rattle.book_model.specs.Sealed.{the_book}
use Rattle.book_model.proofs.BookLists.{book-parameters, many-parameters}
use Rattle.book_model.proofs.BookLimits.{sizes}
use Rattle.param_table.specs.declared.table.Params.{Params}
use Rattle.param_table.specs.TableState.{ParamsFit}
use Rattle.param_table.proofs.Numbers.{openers-few}
use Rattle.param_table.proofs.Summed.{unmarked-summed}
use Rattle.param_table.proofs.Tables.{book_sound}
use Rattle.param_table.proofs.table.Params.blank.Goals as goal
use Rattle.param_table.proofs.table.Params.blank.Goals.{After-clear}

pub new-requires : goal.new-requires
new-requires c = omega (arith, (sizes c.args.book.now c.params-params.ensures.sealed).params, ap length c.params-params.ensures.value)

pub new-requires-2 : goal.new-requires-2
new-requires-2 c =
    let b = c.args.book.now in
    let params = (the_book b).parameters in
    omega (arith, (sizes b c.params-params.ensures.sealed).params, many-parameters b, openers-few params (3 * length params), c.requires.routed.count, c.len.ensures)

-- as many parameters were read as the book has
many : (c : After-clear) → length c.params-params.result.now ≡ length (the_book c.args.book.now).parameters
many c =
    sym (length-map c.params-params.result.now parameter_of) ∙ ap length (ap (map parameter_of) c.params-params.ensures.value ∙ sym (book-parameters c.args.book.now))

-- the table, whatever words its mailboxes hold
held : After-clear → Params
held c = record {
  clock = c.args.clock;
  held = record { mailboxes = c.args.mailboxes; changed = c.in_ok-changed.changed; busy = 0; dues = c.in_ok-dues.dues };
  routing = c.args.routing;
}

fits : (c : After-clear) → ParamsFit (the_book c.args.book.now) (held c)
unfolding held
fits c = record {
  sound = book_sound c.args.book.now c.params-params.ensures.sealed;
  routed = c.requires.routed;
  held = record {
    room = c.in_ok-changed.ensures.size ∙ ap (λ n. 64 * (n / 64 + 1)) (many c);
    within = λ p past. c.in_ok-changed.ensures.none p;
    busy = unmarked-summed c.in_ok-changed.changed 0 c.in_ok-changed.ensures.none;
    dues = ap length c.in_ok-dues.ensures ∙ length-replicate c.len.result never ∙ (let count : c.len.result ≡ length c.args.mailboxes.items.items = omega (arith, c.len.ensures) in count);
    early = c.requires.early;
  };
}

pub returns-clause-fits : goal.returns-clause-fits
unfolding held
returns-clause-fits c = c.clear.ensures.fits (the_book c.args.book.now) (fits c)

pub returns-clause-stands : goal.returns-clause-stands
unfolding held
returns-clause-stands c = λ words none. c.clear.ensures.stands (the_book c.args.book.now) words (fits c) none
