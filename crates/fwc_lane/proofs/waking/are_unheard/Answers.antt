use Rattle.std.proofs.Common.{◌≡◌, ◌+◌, ◌≤◌, length, sym, ap, ◌∙◌, arith}
use Rattle.book_model.specs.Sealed.{the_book}
use Rattle.book_model.specs.Conditions.{places}
use Rattle.book_model.proofs.BookLists.{many-parameters, many-alerts}
use Rattle.watch_lists.specs.declared.number.Sizes.{Sizes}
use Rattle.watch_lists.specs.Naming.{sizes_of, operand_count, names_at}
use Rattle.fwc_lane.specs.Waking.{sizes_in}
use Rattle.fwc_lane.proofs.Hitting.{sizes-same, count-same}
use Rattle.fwc_lane.proofs.waking.are_unheard.Goals as goal

pub is_silent-requires : goal.is_silent-requires
is_silent-requires c =
    let b = c.args.book.now in (
      c.requires.0,
      c.requires.2,
      omega arith,
      omega (
        arith,
        ap length c.params.ensures.value,
        ap length c.alerts.ensures.value,
        many-parameters b,
        many-alerts b,
        count-same c.requires.0 (the_book b) c.requires.1,
      ),
    )

pub returns : goal.returns
returns c on o j low high =
    let d = c.requires.0 in
    let b = c.args.book.now in
    let params : length c.params.result.now ≡ length (the_book b).parameters = omega (arith, ap length c.params.ensures.value, many-parameters b) in
    let alerts : length c.alerts.result.now ≡ length (the_book b).alerts = omega (arith, ap length c.alerts.ensures.value, many-alerts b) in
    let few : length c.params.result.now + length c.alerts.result.now + 1 + 25 ≤ operand_count (sizes_of d) = omega (arith, params, alerts, count-same d (the_book b) c.requires.1) in
    sym (ap (λ (n : Sizes). names_at n (places (the_book d)) j o) (sizes-same d) ∙ ap (λ x. names_at (sizes_in x) (places x) j o) c.requires.1)
    ∙ c.is_silent.ensures.silent d c.requires.2 few on o j (omega (arith, low, params, alerts)) (omega (arith, high, params, alerts))
