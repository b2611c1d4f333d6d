use Rattle.replay_core.proofs.load.load.Goals as goal

pub returns-in-Ok-new-clause-readies : goal.returns-in-Ok-new-clause-readies
returns-in-Ok-new-clause-readies g c = record { book = c.in-Ok.ensures.loads; fits = c.in-Ok-new.ensures.fits }
