use Rattle.std.proofs.Common.{◌≡◌, Err, sym, ap}
use Rattle.record_views.specs.declared.show.RunError.TheVariants as runs
use Rattle.replay_core.specs.Play.{uncounted}
use Rattle.replay_core.proofs.show.show.Goals as goal

pub returns-in-Ok-clause-shows : goal.returns-in-Ok-clause-shows
returns-in-Ok-clause-shows g c = record {
  played = c.play-played.result;
  result_is = sym (ap uncounted c.in-Ok.is);
  pair = c.play-played.new.loaded.pair;
  plays = c.play-played.ensures.plays;
}

pub returns-clause-shows : goal.returns-clause-shows
returns-clause-shows g c = record {
  played = c.play-played.result;
  result_is = sym (ap uncounted c.in-Err.is);
  pair = c.play-played.new.loaded.pair;
  plays = c.play-played.ensures.plays;
}

pub returns-clause-quiet : goal.returns-clause-quiet
returns-clause-quiet g c = λ other. c.in-Err.ensures.quiet (λ same. other (ap Err (let w : c.in-Err.error ≡ runs.Read = cc in w)))

pub returns-clause-out_quiet : goal.returns-clause-out_quiet
returns-clause-out_quiet g c = λ other. c.in-Err.ensures.out_quiet (λ same. other (ap Err (let w : c.in-Err.error ≡ runs.Write = cc in w)))
