use Rattle.std.proofs.Common.{refl, sym, ◌∙◌, ap, set}
use Rattle.std.proofs.lemmas.List.{set-get_or}
use Rattle.std.proofs.lemmas.Bool.{ne_eqb}
use Rattle.attention.specs.Watches.{has_open}
use Rattle.attention.proofs.Walking.{marked-more}
use Rattle.attention.proofs.walk.keep.Goals as goal

pub returns-then-differ-clause-still_open : goal.returns-then-differ-clause-still_open
returns-then-differ-clause-still_open c =
    marked-more has_open c.args.watches.now _ c.args.still_open.now c.write_mark.new.set c.args.i c.args.watch
    c.requires.watches refl
    (λ j apart. c.write_mark.ensures.others j (ne_eqb j c.args.i apart))
    (λ is. c.write_mark.ensures.own ∙ c.has_open.ensures ∙ is)

pub returns-else-differ-clause-watches : goal.returns-else-differ-clause-watches
returns-else-differ-clause-watches c =
    let watches = c.args.watches.now in
    sym (ap (set watches c.args.i) (sym (c.differ.ensures.0 c.if-differ.false)) ∙ set-get_or watches c.args.i _)
