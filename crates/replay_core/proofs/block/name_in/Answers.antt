use Rattle.std.proofs.Common.{[], Bor, get_or, sym, ap, ◌∙◌}
use Rattle.std.proofs.Math.ListN.{get_or-map}
use Rattle.ecam_spec.specs.Book.{Text}
use Rattle.replay_core.proofs.block.name_in.Goals as goal

pub returns : goal.returns
returns c =
    let now : Bor Text → Text = λ n. n.now in
    let nameless : Bor Text = record { ref_ptr = (0, 0); now = [] } in
    sym (get_or-map now c.args.names.now c.args.row nameless) ∙ ap (λ names. get_or names c.args.row []) c.requires.names
