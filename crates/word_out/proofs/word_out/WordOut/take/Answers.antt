use Rattle.std.proofs.Common.{◌≡◌, ◌∙◌, ◌∷◌, ◌++◌, [], length, get_or, subst, ◌<◌, refl, sym, ap, arith}
use Rattle.std.proofs.lemmas.List.{with_items_is}
use Rattle.std.specs.Prelude.{flat_map, ◌==◌}
use Rattle.std.specs.Vec.{with_items}
use Rattle.ecam_spec.specs.Places.{below}
use Rattle.book_model.specs.Sealed.{the_book}
use Rattle.word_out.specs.Told.{pair_word, written_line}
use Rattle.word_out.proofs.Standing.{few_words, lines_told, stands_tick}
use Rattle.word_out.proofs.word_out.WordOut.take.Goals as goal

pub put_words-requires-clause-count : goal.put_words-requires-clause-count
put_words-requires-clause-count c =
    let few = few_words c.args.book.now c.sealed.ensures in
    omega (arith, few, c.requires.1.fits, ap length c.deref_mut.ensures.value)

pub put-requires : goal.put-requires
put-requires c =
    let few = few_words c.args.book.now c.sealed.ensures in
    omega (arith, few, c.requires.1.fits, ap length c.deref_mut.ensures.value, c.put_words.ensures.short)

pub returns-clause-lines : goal.returns-clause-lines
returns-clause-lines c = λ h stands st.
    let w = c.args.self.now in
    let p = c.args.pair.now in
    lines_told (the_book c.args.book.now) h w p stands st c.put.new.lines.items
    (c.put.ensures
    ∙ ap (λ l. l ++ 84 ∷ 10 ∷ [])
    (c.put_words.ensures.lines
    ∙ ap (λ ws. flat_map (λ n. written_line (w.tick == 0) (get_or ws n 0) (pair_word p n)) (below (length ws))) c.deref_mut.ensures.value))

pub returns-clause-stands : goal.returns-clause-stands
returns-clause-stands c = λ h stands st.
    let old = c.args.self.now.words in
    let many : length c.put_words.new.words ≡ length old.items = c.put_words.ensures.count ∙ ap length c.deref_mut.ensures.value in
    let kept : (with_items old c.put_words.new.words).items ≡ c.put_words.new.words = with_items_is old c.put_words.new.words (many ∙ sym old.ok.0) in
    stands_tick (the_book c.args.book.now) h c.args.self.now c.args.pair.now stands st _
    (ap length kept ∙ many)
    refl
    (λ n within.
    ap (λ ws. get_or ws n 0) kept
    ∙ c.put_words.ensures.words n (subst (λ ws. n < length ws) (sym c.deref_mut.ensures.value) within))
