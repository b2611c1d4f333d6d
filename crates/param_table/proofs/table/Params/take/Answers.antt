use Rattle.std.proofs.Common.{◌≡◌, false, refl, sym, ap, subst, ◌∙◌}
use Rattle.ecam_spec.specs.Word.{is_odd}
use Rattle.ecam_spec.specs.Value.{BusWord}
use Rattle.book_model.specs.Sealed.{the_book}
use Rattle.param_table.specs.declared.held.Held.{Held}
use Rattle.param_table.specs.declared.routing.Routing.{Routing}
use Rattle.param_table.specs.declared.table.Params.{Params}
use Rattle.param_table.specs.TableState.{ParamsFit, ParamsStand}
use Rattle.param_table.proofs.Tables.{word, even_word, unheard_word}
use Rattle.param_table.proofs.table.Params.take.Goals as goal

pub returns-in_default-clause-stands : goal.returns-in_default-clause-stands
returns-in_default-clause-stands c = λ old new k on stands.
    unheard_word (the_book c.args.book.now) old new k (record { bus = c.args.bus; bits = c.args.bits }) c.args.self.now on c.in_default.ensures.value stands

-- the table by a routing, holding this
abbrev holding : Params → Held → Routing → Params
holding p held routing = record { clock = p.clock; held = held; routing = routing }

pub returns-then-odd-clause-stands : goal.returns-then-odd-clause-stands
returns-then-odd-clause-stands c = λ old new k on stands.
    let b = the_book c.args.book.now in
    let w : BusWord = record { bus = c.args.bus; bits = c.args.bits } in
    let was = c.args.self.now in
    let before = holding was was.held c.table.result.now in
    let after = holding was c.receive.new.held c.table.result.now in
    let fits : ParamsFit b after = record { sound = stands.fits.sound; routed = c.receive.ensures.routed; held = c.receive.ensures.fits } in
    subst (λ r. ParamsStand b new k (holding was c.receive.new.held r)) c.table.ensures
    (word b old new k w before after fits on refl refl c.receive.ensures.received c.receive.ensures.renews c.receive.ensures.others
    (subst (λ r. ParamsStand b old k (holding was was.held r)) (sym c.table.ensures) stands))

pub returns-else-odd-clause-stands : goal.returns-else-odd-clause-stands
returns-else-odd-clause-stands c = λ old new k on stands.
    let even : is_odd c.args.bits ≡ false = ap is_odd (sym c.new.ensures) ∙ sym c.odd.ensures ∙ c.if-odd.false in
    even_word (the_book c.args.book.now) old new k (record { bus = c.args.bus; bits = c.args.bits }) c.args.self.now on even stands
