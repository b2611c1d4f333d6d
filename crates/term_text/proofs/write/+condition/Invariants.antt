use Rattle.std.proofs.Common.{◌≡◌, ◌++◌, true, length, drop, string_bytes}
use Rattle.ecam_spec.specs.TermNames.{AreWithin}
use Rattle.term_tree.specs.View.{trees_of}
use Rattle.term_text.specs.Known.{known_names}
use Rattle.term_text.specs.Written.{listed}
use Rattle.term_text.proofs.write.+condition.Given as goal

-- what was written, and what is left of the members, make the whole
abbrev pub invariant-push_members-loop-member : goal.invariant-push_members-loop-member
invariant-push_members-loop-member l = record {
  whole : string_bytes l.text ++ listed (known_names l.names) l.is_first (trees_of (drop l.member-index l.members))
      ≡ string_bytes l.initial.text ++ listed (known_names l.names) true (trees_of l.members);
  names : AreWithin (length l.names.params.now) (length l.names.alerts.now) (trees_of (drop l.member-index l.members));
}
