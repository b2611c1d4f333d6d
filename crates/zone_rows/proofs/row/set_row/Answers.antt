use Rattle.std.proofs.Common.{sym, ◌∙◌, arith}
use Rattle.std.proofs.lemmas.List.{length-map}
use Rattle.ecam_spec.specs.Picture as spec
use Rattle.ecam_kinds.specs.Shown.{row_of}
use Rattle.zone_rows.proofs.Same.{set-same, set-written}
use Rattle.zone_rows.proofs.Mending.{mends-one, whole-set}
use Rattle.zone_rows.proofs.row.set_row.Goals as goal

pub returns-then-is-clause-row : goal.returns-then-is-clause-row
returns-then-is-clause-row c =
    mends-one c.args.place (spec.row c.args.colour c.args.text.now) _ _ c.requires.whole c.requires.place
    (set-same c.args.rows.now c.args.changed.now c.args.place c.index-rows-place.result (spec.row c.args.colour c.args.text.now)
    (omega (arith, length-map c.args.rows.now row_of, c.requires.whole.rows)) (sym c.is.ensures ∙ c.if-is.true))

pub returns : goal.returns
returns c =
    let written =
    set-written c.args.rows.now c.args.changed.now c.args.place c.index-rows-place.result (spec.row c.args.colour c.args.text.now)
    (omega (arith, length-map c.args.rows.now row_of, c.requires.whole.rows)) c.new.result c.new.ensures
    (sym c.is.ensures ∙ c.if-is.false) in
    record {
      whole = whole-set c.args.place (spec.row c.args.colour c.args.text.now) _ _ written c.requires.whole;
      row = mends-one c.args.place (spec.row c.args.colour c.args.text.now) _ _ c.requires.whole c.requires.place written;
    }
