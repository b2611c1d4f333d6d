use Rattle.std.proofs.Common.{◌≡◌, true, false, sym, ap, ◌∙◌}
use Rattle.ecam_spec.specs.History.{none_up, flags_after}
use Rattle.fwc_pair.proofs.Pairs.{some-up, lane-counts}
use Rattle.fwc_pair.proofs.pair.Pair.moments.Goals as goal

pub returns-in-Some-clause-counts : goal.returns-in-Some-clause-counts
returns-in-Some-clause-counts c = λ b h st.
    let up : none_up (flags_after h) ≡ false = ap none_up (sym st.flags) ∙ some-up c.args.self.now (λ none. let e : true ≡ false = c.in-Some.ensures.none.1 none in let w : ⊥ = cc in w) in
    lane-counts b h c.in-Some.lane.now up (c.in-Some.ensures.stands b h st)
