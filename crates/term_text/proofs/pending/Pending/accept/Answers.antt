use Rattle.term_text.proofs.pending.Pending.accept.Goals as goal

pub meet-requires-clause-count : goal.meet-requires-clause-count
meet-requires-clause-count c = c.in-Some.ensures.count c.args.at c.requires.counts
