use Rattle.std.proofs.Common.{◌≡◌, ◌+◌, ◌-◌, ◌/◌, ◌^◌, ap, ◌∙◌, arith}
use Rattle.std.proofs.lemmas.Nat.Bits.{bit_at-zero}
use Rattle.std.specs.Int.{bit_at}
use Rattle.wakes.proofs.Groups.{behind}
use Rattle.wakes.proofs.rows.next_group.Goals as goal

pub returns-then-later-eq0 : goal.returns-then-later-eq0
returns-then-later-eq0 c = λ g lt.
    behind c.args.busy c.args.group c.bits_from-later.result g (c.bits_from-later.ensures.bits ∙ ap (λ n. n / 2 ^ 1) c.bits_from.ensures.bits) lt
    ∙ ap (λ n. bit_at n (g - (c.args.group + 1))) c.if-later-eq0.true ∙ bit_at-zero (g - (c.args.group + 1))

pub returns-else-later-eq0 : goal.returns-else-later-eq0
returns-else-later-eq0 c =
    let next = c.args.group + 1 + c.lowest.result in
    let is : c.bits_from-later.result ≡ c.args.busy / 2 ^ c.args.group / 2 ^ 1 = c.bits_from-later.ensures.bits ∙ ap (λ n. n / 2 ^ 1) c.bits_from.ensures.bits in
    let at : next - (c.args.group + 1) ≡ c.lowest.result = omega arith in (
      omega arith,
      behind c.args.busy c.args.group c.bits_from-later.result next is (omega arith) ∙ ap (bit_at c.bits_from-later.result) at ∙ c.lowest.ensures.set,
      λ g lt less. behind c.args.busy c.args.group c.bits_from-later.result g is lt ∙ c.lowest.ensures.lowest (g - (c.args.group + 1)) (omega (arith, lt, less)),
    )
