use Rattle.std.proofs.lemmas.Bool.{ltb-false}
use Rattle.ecam_kinds.specs.Shown.{picture_of}
use Rattle.fwc_pair.proofs.Faces.{mended-shown, none-told}
use Rattle.fwc_pair.proofs.face.show_lane.Goals as goal

pub returns-then-not-begins-clause-shown : goal.returns-then-not-begins-clause-shown
returns-then-not-begins-clause-shown c = λ names.
    mended-shown (picture_of c.args.lane.now.picture) (picture_of c.args.face.now) _ c.args.changed.now c.args.changed.now (none-told c.args.changed.now c.requires.none)
    (c.keep.ensures (names c.if-not-begins.true))

pub returns-then-not-begins-clause-still : goal.returns-then-not-begins-clause-still
returns-then-not-begins-clause-still c = λ _. none-told c.args.changed.now c.requires.none

pub returns-clause-shown : goal.returns-clause-shown
returns-clause-shown c = λ names.
    mended-shown (picture_of c.args.lane.now.picture) (picture_of c.args.face.now) _ c.args.changed.now c.mend.new.changed (none-told c.args.changed.now c.requires.none)
    (c.mend.ensures.mended (λ later. names (ltb-false c.args.lane.now.moments 2 later)))
