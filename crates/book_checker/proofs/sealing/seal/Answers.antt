use Rattle.book_checker.proofs.Counts.{few_alerts, few_terms, few_memos}
use Rattle.book_checker.proofs.sealing.seal.Goals as goal

pub first_fault-requires-clause-alerts : goal.first_fault-requires-clause-alerts
first_fault-requires-clause-alerts c = few_alerts c.args.draft c.requires.sound

pub first_fault-requires-clause-memos : goal.first_fault-requires-clause-memos
first_fault-requires-clause-memos c = few_memos c.args.draft c.requires.sound

pub first_fault-requires-clause-terms : goal.first_fault-requires-clause-terms
first_fault-requires-clause-terms c = few_terms c.args.draft c.requires.sound
