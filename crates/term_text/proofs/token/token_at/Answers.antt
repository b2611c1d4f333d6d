use Rattle.std.proofs.Common.{◌≡◌, ◌+◌, suc, sym, ◌∙◌, ap, arith, drop, take, ◌∷◌}
use Rattle.std.specs.Prelude.{slice_index}
use Rattle.ecam_spec.specs.Token.{more_bytes}
use Rattle.term_text.proofs.TokenAt.{letter_token, word_bytes, tail_whole}
use Rattle.term_text.proofs.token.token_at.Goals as goal

pub returns-then-is_letter-clause-token : goal.returns-then-is_letter-clause-token
returns-then-is_letter-clause-token c =
    let text = c.args.text.now in
    let at = c.args.at in
    let first = slice_index text at in
    let rest = drop (at + 1) text in
    let more : c.more_bytes-more.result ≡ more_bytes first rest = c.more_bytes-more.ensures.value ∙ ap (more_bytes first) (tail_whole text (at + 1)) in
    let ends : at + 1 + c.more_bytes-more.result ≡ at + suc (more_bytes first rest) = omega (arith, more) in
    c.word_token-token.ensures
    ∙ letter_token at first _ rest _ (sym c.is_letter.ensures ∙ c.if-is_letter.true) ends
    (word_bytes text at c.more_bytes-more.result c.requires ∙ ap (λ n. first ∷ take n rest) more)
