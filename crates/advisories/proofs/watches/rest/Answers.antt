use Rattle.std.proofs.Common.{◌∙◌, sym, ap, slice_set}
use Rattle.std.proofs.lemmas.List.Edits.{map_over_more}
use Rattle.advisories.specs.Watches.{rested}
use Rattle.advisories.proofs.watches.rest.Goals as goal

pub loop-i-preserved : goal.loop-i-preserved
loop-i-preserved c =
    ap (slice_set c.loop-i.watches c.loop-i.i) (c.rest_one.ensures ∙ ap rested (sym c.index-watches-i.is))
    ∙ map_over_more rested c.args.watches.now c.loop-i.watches c.loop-i.i c.index-watches-i.result c.loop-i-test.true c.loop-i.invariant c.index-watches-i.is
