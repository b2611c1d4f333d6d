use Rattle.std.proofs.Common.{◌≡◌, ℕ, List, [], ◌∷◌, ◌++◌, cond, ◌==◌, ◌%◌, sym, ◌∙◌, ap, append_assoc}
use Rattle.std.proofs.lemmas.Bool.{eq-eqb, ne_eqb}
use Rattle.std.specs.Prelude.{codes}
use Rattle.record_maker.specs.Draws.{moved_right}
use Rattle.record_maker.proofs.Texts.{and_none, a_key, no_key}
use Rattle.record_maker.proofs.lines.put_key.Goals as goal
use Rattle.record_maker.proofs.lines.put_key.Goals.{then-r-eq0-2, else-r-eq0-2}

-- what three calls appended, one after the other
three : (old one two now a b c : List ℕ) → one ≡ old ++ a → two ≡ one ++ b → now ≡ two ++ c → now ≡ old ++ (a ++ (b ++ c))
three old one two now a b c first second third =
    third ∙ ap (λ l. l ++ c) (second ∙ ap (λ l. l ++ b) first) ∙ ap (λ l. l ++ c) (append_assoc old a b) ∙ append_assoc old (a ++ b) c ∙ ap (λ l. old ++ l) (append_assoc a b c)

pub returns-after-r-eq0-2-clause-lines : goal.returns-after-r-eq0-2-clause-lines
returns-after-r-eq0-2-clause-lines c =
    let r = c.args.r in
    let letter = c.if-r-eq0-2.letter in
    let is : cond (moved_right r 32 % 2 == 0) (codes "P ") (codes "R ") ≡ letter ∷ 32 ∷ [] = elim c.if-r-eq0-2.branch [
      | then-r-eq0-2 w ↦ ap (λ b. cond b (codes "P ") (codes "R ")) (eq-eqb (moved_right r 32 % 2) 0 w.if-r-eq0-2.true) ∙ ap (λ l. l ∷ 32 ∷ []) (sym w.letter-is)
      | else-r-eq0-2 w ↦ ap (λ b. cond b (codes "P ") (codes "R ")) (ne_eqb (moved_right r 32 % 2) 0 w.if-r-eq0-2.false) ∙ ap (λ l. l ∷ 32 ∷ []) (sym w.letter-is)
    ] in
    three c.args.lines.now.items _ _ _ (letter ∷ 32 ∷ []) _ (10 ∷ []) c.put.ensures (c.put-then-r-eq0.ensures ∙ ap (λ t. c.put.new.lines.items ++ t) (c.as_bytes.ensures.value ∙ c.key_word.ensures.word)) c.put-then-r-eq0-2.ensures
    ∙ ap (λ t. c.args.lines.now.items ++ t) (sym (a_key r letter c.if-r-eq0.true is))

pub returns-else-r-eq0-clause-lines : goal.returns-else-r-eq0-clause-lines
returns-else-r-eq0-clause-lines c = and_none c.args.lines.now.items _ (no_key c.args.r c.if-r-eq0.false)
