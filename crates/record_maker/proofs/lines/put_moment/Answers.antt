use Rattle.std.proofs.Common.{◌+◌, ◌%◌, ◌++◌, ◌∙◌, ap}
use Rattle.ecam_spec.specs.Output.{line}
use Rattle.record_maker.specs.Words.{drawn_word}
use Rattle.record_maker.specs.Lines.{word_line, key_lines, computer_lines}
use Rattle.record_maker.specs.Record.{text_of}
use Rattle.record_maker.proofs.Moments.{draw-three, moment_text}
use Rattle.record_maker.proofs.lines.put_moment.Goals as goal

pub returns-clause-lines : goal.returns-clause-lines
returns-clause-lines c =
    let one = c.draw_after-one.result in
    let draws = draw-three c.args.s one c.draw_after-two.result c.draw_after-three.result c.draw_after-one.ensures c.draw_after-two.ensures c.draw_after-three.ensures in
    let begin = c.put_word.new.lines.items in
    moment_text c.args.moment c.args.s c.args.lines.now.items begin c.put_word-2.new.lines.items c.put_key.new.lines.items c.put_computer.new.lines.items c.put.new.lines.items c.requires
    (c.put_word.ensures.line ∙ ap (λ w. c.args.lines.now.items ++ line (word_line 0 w)) c.flags_word.ensures)
    (c.put_word-2.ensures.line ∙ ap (λ w. begin ++ line (word_line (1 + one % 3) w)) c.drawn_word.ensures ∙ ap (λ r. begin ++ line (word_line (1 + r % 3) (drawn_word r))) draws.0)
    (c.put_key.ensures.lines ∙ ap (λ r. c.put_word-2.new.lines.items ++ text_of (key_lines r)) draws.1)
    (c.put_computer.ensures.lines ∙ ap (λ r. c.put_key.new.lines.items ++ text_of (computer_lines r)) draws.2)
    c.put.ensures

pub returns-clause-draw : goal.returns-clause-draw
returns-clause-draw c =
    (draw-three c.args.s c.draw_after-one.result c.draw_after-two.result c.draw_after-three.result c.draw_after-one.ensures c.draw_after-two.ensures c.draw_after-three.ensures).2
