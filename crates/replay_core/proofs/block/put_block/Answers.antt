use Rattle.std.proofs.Common.{◌∷◌, ◌++◌, sym, ap, ◌∙◌, append_assoc, append-nil}
use Rattle.std.specs.Prelude.{decimal}
use Rattle.ecam_spec.specs.Output as output
use Rattle.ecam_kinds.specs.Shown.{picture_of}
use Rattle.replay_core.specs.Flagged.{flagged_lines}
use Rattle.replay_core.proofs.Blocks.{block-none, block-some}
use Rattle.replay_core.proofs.block.put_block.Goals as goal

pub returns-then-not-has_any : goal.returns-then-not-has_any
returns-then-not-has_any c = λ old names.
    sym (append-nil c.args.out.now.items)
    ∙ ap (λ more. c.args.out.now.items ++ more)
    (sym (block-none c.args.tick old (picture_of c.args.picture.now) c.args.changed.now c.told-changed names (sym c.has_any.ensures ∙ c.if-not-has_any.true)))

pub returns : goal.returns
returns c = λ old names.
    let number = output.line (64 ∷ decimal c.args.tick) in
    let changes = flagged_lines output.row_names c.args.changed.now (picture_of c.args.picture.now) in
    c.put_changes.ensures
    ∙ ap (λ front. front ++ changes) c.put_number.ensures.line
    ∙ append_assoc c.args.out.now.items number changes
    ∙ ap (λ more. c.args.out.now.items ++ more)
    (sym (block-some c.args.tick old (picture_of c.args.picture.now) c.args.changed.now c.told-changed names (sym c.has_any.ensures ∙ c.if-not-has_any.false)))
