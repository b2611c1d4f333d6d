use Rattle.record_maker.proofs.Moments.{word_line-bytes}
use Rattle.record_maker.proofs.lines.put_word.Goals as goal

pub returns-clause-line : goal.returns-clause-line
returns-clause-line c =
    word_line-bytes c.args.lines.now.items _ _ _ _ c.args.bus c.args.word c.requires.bus c.put.ensures c.word_digits.ensures c.put-2.ensures c.put-3.ensures
