-- After a letter and a blank the letter says which form it is.
use Rattle.std.proofs.Common.{sym, ap, ◌∙◌, ◌∷◌, rules, arith}
use Rattle.ecam_spec.specs.declared.kinds.Event.TheVariants.{Fail, Up}
use Rattle.std.specs.Prelude.{option_map}
use Rattle.ecam_spec.specs.RecordLine.{event_of}
use Rattle.record_lines.proofs.Forms.{event_of-word, event_of-press, event_of-release, event_of-fail, event_of-up, event_of-words}
use Rattle.record_lines.proofs.Numbers.{computer_of-within}
use Rattle.record_lines.proofs.line.event_of_words.Goals as goal

pub returns-in-87 : goal.returns-in-87
returns-in-87 c =
    let e = ap (λ l. event_of (l ∷ 32 ∷ c.args.words.now)) c.in-87.is ∙ event_of-word c.args.words.now in
    c.word_event.ensures ∙ sym e

pub returns-in-80 : goal.returns-in-80
returns-in-80 c =
    let e = ap (λ l. event_of (l ∷ 32 ∷ c.args.words.now)) c.in-80.is ∙ event_of-press c.args.words.now in
    rw e (search rules)

pub returns-in-82 : goal.returns-in-82
returns-in-82 c =
    let e = ap (λ l. event_of (l ∷ 32 ∷ c.args.words.now)) c.in-82.is ∙ event_of-release c.args.words.now in
    rw e (search rules)

pub returns-in-70 : goal.returns-in-70
returns-in-70 c =
    let e = ap (λ l. event_of (l ∷ 32 ∷ c.args.words.now)) c.in-70.is ∙ event_of-fail c.args.words.now
    ∙ ap (option_map Fail) (computer_of-within c.args.words.now (λ k h. omega (arith, c.type_inv.words k))) in
    rw e (search rules)

pub returns-in-85 : goal.returns-in-85
returns-in-85 c =
    let e = ap (λ l. event_of (l ∷ 32 ∷ c.args.words.now)) c.in-85.is ∙ event_of-up c.args.words.now
    ∙ ap (option_map Up) (computer_of-within c.args.words.now (λ k h. omega (arith, c.type_inv.words k))) in
    rw e (search rules)

pub returns-in_default : goal.returns-in_default
returns-in_default c =
    sym (event_of-words c.args.letter c.args.words.now (λ h. omega arith) (λ h. omega arith) (λ h. omega arith) (λ h. omega arith) (λ h. omega arith))
