use Rattle.std.proofs.Common.{◌||◌, sym, ◌∙◌, ap, drop, ◌+◌}
use Rattle.ecam_spec.specs.DraftFaults.{have_atom}
use Rattle.term_tree.specs.View.{trees_of}
use Rattle.book_checker.specs.Flaws.{is_flawed}
use Rattle.book_checker.proofs.Walking.{none_left, this_or_later}
use Rattle.book_checker.proofs.atoms.+walk.Goals as goal

pub have_atom-returns-then-has_atom : goal.have_atom-returns-then-has_atom
have_atom-returns-then-has_atom t c =
    let q = is_flawed c.args.flaw.now in
    sym (c.loop-member.invariant
    ∙ this_or_later q c.args.members.now c.loop-member.member-index c.member-item.result c.loop-member-test.true c.member-item.is
    ∙ ap (λ b. b || have_atom q (trees_of (drop (c.loop-member.member-index + 1) c.args.members.now))) (sym c.has_atom.ensures ∙ c.if-has_atom.true))

pub have_atom-loop-member-preserved : goal.have_atom-loop-member-preserved
have_atom-loop-member-preserved t c =
    let q = is_flawed c.args.flaw.now in
    c.loop-member.invariant
    ∙ this_or_later q c.args.members.now c.loop-member.member-index c.member-item.result c.loop-member-test.true c.member-item.is
    ∙ ap (λ b. b || have_atom q (trees_of (drop (c.loop-member.member-index + 1) c.args.members.now))) (sym c.has_atom.ensures ∙ c.if-has_atom.false)

pub have_atom-returns : goal.have_atom-returns
have_atom-returns t c =
    sym (c.loop-member.invariant ∙ none_left (is_flawed c.args.flaw.now) c.args.members.now c.loop-member.member-index c.loop-member-test.false)
