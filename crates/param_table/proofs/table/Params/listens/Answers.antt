use Rattle.std.proofs.Common.{◌≡◌, ℕ, false, Option, Some, None, refl, sym, ◌∙◌}
use Rattle.std.specs.Prelude.{is_some}
use Rattle.ecam_spec.specs.Value.{BusWord}
use Rattle.book_model.specs.Sealed.{the_book}
use Rattle.param_table.proofs.Tables.{unheard_word}
use Rattle.param_table.proofs.table.Params.listens.Goals as goal

nothing : (o : Option ℕ) → is_some o ≡ false → None ≡ o
nothing None none = refl
nothing (Some n) none = absurd (let w : ⊥ = cc in w)

pub returns : goal.returns
returns c = λ off p old new k on stands.
    let w : BusWord = record { bus = c.args.bus; bits = c.args.bits } in
    unheard_word (the_book c.args.book.now) old new k w p on (nothing c.last_listener.result (sym c.is_some.ensures ∙ off) ∙ c.last_listener.ensures.value) stands
