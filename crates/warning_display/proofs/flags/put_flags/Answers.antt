use Rattle.std.proofs.Common.{[]}
use Rattle.ecam_spec.specs.StatusPage as status
use Rattle.warning_display.proofs.Joining.{joined-none}
use Rattle.warning_display.proofs.flags.put_flags.Goals as goal

pub returns : goal.returns
unfolding status.flags
returns c = λ rows many.
    let more = c.put_if.ensures.joined [] (rw c.requires joined-none) in
    let beyond = c.put_number.ensures.joined _ more in
    let right = c.put_number-2.ensures.joined _ beyond in
    rw many (c.put_if-2.ensures.joined _ right)
