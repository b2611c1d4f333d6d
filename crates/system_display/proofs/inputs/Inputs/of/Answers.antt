use Rattle.std.proofs.Common.{◌≡◌, ◌&&◌, length, sym, ap, ◌∙◌, arith}
use Rattle.book_model.specs.Sealed.{the_book}
use Rattle.system_display.specs.Panels.{page_pressed, is_caution_target}
use Rattle.book_model.proofs.BookLists.{many-pages}
use Rattle.book_model.proofs.BookLimits.{sizes}
use Rattle.system_display.proofs.inputs.Inputs.of.Goals as goal

pub page_called-requires : goal.page_called-requires
page_called-requires c = omega (arith, (sizes c.args.book.now c.pages-pages.ensures.sealed).pages, ap length c.pages-pages.ensures.value)

pub returns-then-pressed-clause-inputs : goal.returns-then-pressed-clause-inputs
returns-then-pressed-clause-inputs c = λ p k shows.
    let many : length (the_book c.args.book.now).pages ≡ length c.pages-pages.result.now = many-pages c.args.book.now ∙ ap length (sym c.pages-pages.ensures.value) in
    let pressed = c.pressed-3.ensures in
    record {
      pages = shows.pages ∙ many;
      all_held = shows.all_held ∙ sym c.held.ensures;
      page_called = shows.page_called ∙ ap (page_pressed c.args.keys.now) many ∙ sym c.page_called.ensures.pressed;
      sts = shows.sts ∙ sym c.pressed.ensures;
      clr = shows.clr ∙ sym c.pressed-2.ensures;
      cancels = shows.cancels ∙ ap (λ b. b && is_caution_target (the_book c.args.book.now) c.args.target) (sym c.pressed-3.ensures ∙ c.if-pressed.true) ∙ sym c.is_caution.ensures;
    }

pub returns-else-pressed-clause-inputs : goal.returns-else-pressed-clause-inputs
returns-else-pressed-clause-inputs c = λ p k shows.
    let many : length (the_book c.args.book.now).pages ≡ length c.pages-pages.result.now = many-pages c.args.book.now ∙ ap length (sym c.pages-pages.ensures.value) in
    record {
      pages = shows.pages ∙ many;
      all_held = shows.all_held ∙ sym c.held.ensures;
      page_called = shows.page_called ∙ ap (page_pressed c.args.keys.now) many ∙ sym c.page_called.ensures.pressed;
      sts = shows.sts ∙ sym c.pressed.ensures;
      clr = shows.clr ∙ sym c.pressed-2.ensures;
      cancels = shows.cancels ∙ ap (λ b. b && is_caution_target (the_book c.args.book.now) c.args.target) (sym c.pressed-3.ensures ∙ c.if-pressed.false) ∙ sym c.if-pressed.false;
    }

pub returns-then-pressed-clause-pages : goal.returns-then-pressed-clause-pages
returns-then-pressed-clause-pages c = ap length c.pages-pages.ensures.value ∙ sym (many-pages c.args.book.now)

pub returns-else-pressed-clause-pages : goal.returns-else-pressed-clause-pages
returns-else-pressed-clause-pages c = ap length c.pages-pages.ensures.value ∙ sym (many-pages c.args.book.now)
