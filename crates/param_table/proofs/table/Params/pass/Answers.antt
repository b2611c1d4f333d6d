use Rattle.std.proofs.Common.{suc, List, ℕ, sym, subst}
use Rattle.book_model.specs.Sealed.{the_book}
use Rattle.param_table.specs.TableState.{ParamsFit, ParamsStand}
use Rattle.param_table.specs.declared.table.Params.{Params}
use Rattle.param_table.proofs.Tables.{passed, passed-fits, passed-stands}
use Rattle.param_table.proofs.table.Params.pass.Goals as goal

-- the same, with these keys
abbrev with-dues : Params → List ℕ → Params
with-dues p dues = record p { held = record p.held { dues = dues } }

pub returns-clause-fits : goal.returns-clause-fits
returns-clause-fits c =
    let old = c.args.self.now in
    subst (λ dues. ParamsFit (the_book c.args._book.now) (with-dues (passed old) dues)) (sym c.pass.ensures) (passed-fits (the_book c.args._book.now) old c.requires.fits)

pub returns-clause-stands : goal.returns-clause-stands
returns-clause-stands c = λ words k none stands.
    let old = c.args.self.now in
    subst (λ dues. ParamsStand (the_book c.args._book.now) words (suc k) (with-dues (passed old) dues)) (sym c.pass.ensures)
    (passed-stands (the_book c.args._book.now) old c.requires.fits c.requires.still words k none stands)
