-- A bus and a word's digits, on both sides of the first blank.
use Rattle.std.proofs.Common.{sym, ap, ◌∙◌, ◌≡◌, ◌+◌, take, drop, Some, None, refl, arith}
use Rattle.std.proofs.lemmas.List.{take_rest}
use Rattle.ecam_spec.specs.RecordLine.{bits_of}
use Rattle.record_lines.specs.Line.{number_within}
use Rattle.record_lines.proofs.Forms.{word_event-nowhere, word_event-at}
use Rattle.record_lines.proofs.line.word_event.Goals as goal

pub returns-in_err-blank : goal.returns-in_err-blank
returns-in_err-blank c = c.from_residual.ensures ∙ sym (word_event-nowhere c.args.words.now (sym c.place_of.ensures ∙ c.in_err-blank.was))

pub returns-in_err-bus : goal.returns-in_err-bus
returns-in_err-bus c =
    let at = word_event-at c.args.words.now c.in_ok-blank.blank (sym c.place_of.ensures ∙ c.in_ok-blank.was) (λ k h. omega (arith, c.type_inv.words k)) in
    let bus : number_within 0 15 (take c.in_ok-blank.blank c.args.words.now) ≡ None = sym c.number_within.ensures ∙ c.in_err-bus.was in
    c.from_residual-in_err-bus.ensures ∙ sym (rw (at, bus) refl)

pub returns-in_err-bits : goal.returns-in_err-bits
returns-in_err-bits c =
    let at = word_event-at c.args.words.now c.in_ok-blank.blank (sym c.place_of.ensures ∙ c.in_ok-blank.was) (λ k h. omega (arith, c.type_inv.words k)) in
    let bus : number_within 0 15 (take c.in_ok-blank.blank c.args.words.now) ≡ Some c.in_ok-bus.bus = sym c.number_within.ensures ∙ c.in_ok-bus.was in
    let bits : bits_of (drop (c.in_ok-blank.blank + 1) c.args.words.now) ≡ None = ap bits_of (sym (take_rest c.args.words.now (c.in_ok-blank.blank + 1))) ∙ sym c.bits_of.ensures ∙ c.in_err-bits.was in
    c.from_residual-in_err-bits.ensures ∙ sym (rw (at, bus, bits) refl)

pub returns : goal.returns
returns c =
    let at = word_event-at c.args.words.now c.in_ok-blank.blank (sym c.place_of.ensures ∙ c.in_ok-blank.was) (λ k h. omega (arith, c.type_inv.words k)) in
    let bus : number_within 0 15 (take c.in_ok-blank.blank c.args.words.now) ≡ Some c.in_ok-bus.bus = sym c.number_within.ensures ∙ c.in_ok-bus.was in
    let bits : bits_of (drop (c.in_ok-blank.blank + 1) c.args.words.now) ≡ Some c.in_ok-bits.bits = ap bits_of (sym (take_rest c.args.words.now (c.in_ok-blank.blank + 1))) ∙ sym c.bits_of.ensures ∙ c.in_ok-bits.was in
    rw (at, bus, bits) refl
