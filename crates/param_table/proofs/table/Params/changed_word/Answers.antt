use Rattle.std.proofs.Common.{◌≡◌, ◌+◌, ◌*◌, ◌==◌, true, false, length, sym, ap, ◌∙◌, inl, inr, arith}
use Rattle.std.proofs.lemmas.Bool.{cases_lt, false≢true}
use Rattle.std.specs.Int.{bit_at}
use Rattle.wakes.specs.Marks.{is_marked}
use Rattle.wakes.proofs.Bits.{word-bit}
use Rattle.book_model.specs.Sealed.{the_book}
use Rattle.book_model.proofs.BookLists.{many-parameters}
use Rattle.param_table.proofs.Values.{unchanged_is, few_sources}
use Rattle.param_table.proofs.table.Params.changed_word.Goals as goal

pub word-requires : goal.word-requires
word-requires c = omega (arith, c.requires.fits.held.room, c.requires.place, many-parameters c.args._book.now)

pub returns-clause-within : goal.returns-clause-within
returns-clause-within c = λ i low on.
    let p = 64 * c.args.place + i in
    let changed = c.args.self.now.held.changed in
    elim (cases_lt p (length c.args._book.now.params.items)) [
      | inl lt ↦ lt
      | inr past ↦
          let off = c.requires.fits.held.within p (omega (arith, past, many-parameters c.args._book.now)) in
          let is : is_marked changed p ≡ true = word-bit changed c.args.place i low ∙ ap (λ w. bit_at w i == 1) (sym c.word.ensures.bits) ∙ ap (λ n. n == 1) on in
          absurd (false≢true (sym off ∙ is))
    ]

pub returns-clause-same : goal.returns-clause-same
returns-clause-same c = λ words k stands i low off within asked.
    let b = the_book c.args._book.now in
    let p = 64 * c.args.place + i in
    let changed = c.args.self.now.held.changed in
    let unmarked : is_marked changed p ≡ false = word-bit changed c.args.place i low ∙ ap (λ w. bit_at w i == 1) (sym c.word.ensures.bits) ∙ ap (λ n. n == 1) off in
    unchanged_is b words k c.args.self.now p stands (few_sources b p c.requires.fits.sound (omega (arith, within, many-parameters c.args._book.now))) asked unmarked
