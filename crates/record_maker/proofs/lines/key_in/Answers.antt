use Rattle.std.proofs.Common.{[], List, ℕ, Bor, sym, ◌∙◌}
use Rattle.std.proofs.Math.ListN.{get_or-map}
use Rattle.record_maker.proofs.Texts.{key_word-at}
use Rattle.record_maker.proofs.lines.key_in.Goals as goal

pub returns : goal.returns
returns c =
    let now : Bor (List ℕ) → List ℕ = λ k. k.now in
    let nameless : Bor (List ℕ) = record { ref_ptr = (0, 0); now = [] } in
    sym (get_or-map now c.args.keys.now c.args.number nameless) ∙ key_word-at _ c.args.number c.requires.few c.requires.keys
