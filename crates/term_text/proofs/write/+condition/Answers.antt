use Rattle.std.proofs.Common.{rules, string_bytes, sym, ◌∙◌}
use borrow.Author.Rules.{get_or_read}
use Rattle.term_tree.specs.declared.cond.Cond.TheFolds.{the_lemmas}
use Rattle.term_tree.proofs.Members.{trees_of-end, trees_of-next}
use Rattle.term_text.specs.Known.{known_names}
use Rattle.term_text.proofs.MemberSteps.{member_written, members_written, within_next}
use Rattle.term_text.proofs.write.+condition.Goals as goal

pub push_members-push_condition-requires : goal.push_members-push_condition-requires
push_members-push_condition-requires t c =
    let next = trees_of-next c.args.members.now c.loop-member.member-index c.member-item.result c.loop-member-test.true c.member-item.is in
    (search (rules, the_lemmas, get_or_read), (within_next _ _ _ _ _ next c.loop-member.invariant.names).0)

pub push_members-loop-member-preserved : goal.push_members-loop-member-preserved
push_members-loop-member-preserved t c =
    let next = trees_of-next c.args.members.now c.loop-member.member-index c.member-item.result c.loop-member-test.true c.member-item.is in
    let more = member_written (known_names c.args.names.now) (string_bytes c.loop-member.text) c.loop-member.is_first _ _ _ next in
    record {
      whole = cc (more, c.in_ok-push_str.ensures.bytes, c.in_ok-push_condition.ensures, c.separator.ensures);
      names = (within_next _ _ _ _ _ next c.loop-member.invariant.names).1;
    }

pub push_members-returns : goal.push_members-returns
push_members-returns t c =
    let end = trees_of-end c.args.members.now c.loop-member.member-index c.loop-member-test.false in
    sym (members_written (known_names c.args.names.now) (string_bytes c.loop-member.text) c.loop-member.is_first _ end) ∙ c.loop-member.invariant.whole
