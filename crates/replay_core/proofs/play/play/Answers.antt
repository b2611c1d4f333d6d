use Rattle.std.proofs.Common.{◌∙◌}
use Rattle.ecam_io.proofs.Calls.{Rose-earlier}
use Rattle.replay_core.specs.Calls.{shelf_call, sink_call}
use Rattle.replay_core.proofs.Playing.{played}
use Rattle.replay_core.proofs.play.play.Goals as goal

pub returns-in-Ok-clause-plays : goal.returns-in-Ok-clause-plays
returns-in-Ok-clause-plays g c =
    let opening = c.in-Ok.ensures in
    let showing = c.run_view.ensures in
    played (shelf_call g.F.Source c.args.files.now c.run_view.new.source) (sink_call g.O.Sink c.args.out.now c.run_view.new.out) _ _ c.run_view.new.pair
    c.args.record_name.now _ _ c.run_view.result opening.found (showing.is_open ∙ opening.is_open)
    (λ e. Rose-earlier _ _ _ opening.faults (showing.read e)) showing.write showing.shows
