use Rattle.ecam_spec.specs.Picture.{dead}
use Rattle.ecam_kinds.specs.Shown.{picture_of}
use Rattle.fwc_pair.proofs.Faces.{mended-shown, none-told}
use Rattle.fwc_pair.proofs.face.show_dead.Goals as goal

pub returns : goal.returns
returns c = mended-shown dead (picture_of c.args.face.now) _ c.args.changed.now c.mend_dead.new.changed (none-told c.args.changed.now c.requires) c.mend_dead.ensures.mended
