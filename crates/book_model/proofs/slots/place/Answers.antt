use Rattle.std.proofs.Common.{◌+◌, map, ap, ◌∙◌, arith}
use Rattle.std.specs.List.{flat_map}
use Rattle.ecam_spec.specs.BookTerms.{slots_in}
use Rattle.ecam_spec.specs.TermSize.{trees, placed}
use Rattle.book_model.specs.View.{draft_of}
use Rattle.book_model.specs.Slots.{phase_trees, when_tree, lines_trees, memo_tree, draft_trees, draft_places}
use Rattle.book_model.proofs.Placing.{slots_in-four, lines_trees-from, draft_of-same, placed-joined}
use Rattle.book_model.proofs.slots.place.Goals as goal

pub place_phase-alerts_at-requires : goal.place_phase-alerts_at-requires
unfolding draft_trees
place_phase-alerts_at-requires c =
    let d = c.args.draft.now in
    omega (arith, c.requires, slots_in-four (phase_trees d.phase) (map when_tree d.alerts.items) (flat_map lines_trees d.alerts.items) (map memo_tree d.memos.items))

pub place_alerts-lines_at-requires : goal.place_alerts-lines_at-requires
unfolding draft_trees
place_alerts-lines_at-requires c =
    let d = c.args.draft.now in
    omega (arith, c.requires, slots_in-four (phase_trees d.phase) (map when_tree d.alerts.items) (flat_map lines_trees d.alerts.items) (map memo_tree d.memos.items))

pub place_procedures-memos_at-requires : goal.place_procedures-memos_at-requires
unfolding draft_trees
place_procedures-memos_at-requires c =
    let d = c.args.draft.now in
    let lines = lines_trees-from _ _ c.place_alerts-lines_at.ensures.lines in
    rw lines (omega (arith, c.requires, slots_in-four (phase_trees d.phase) (map when_tree d.alerts.items) (flat_map lines_trees d.alerts.items) (map memo_tree d.memos.items)))

pub place_memos-requires : goal.place_memos-requires
unfolding draft_trees
place_memos-requires c =
    let d = c.args.draft.now in
    let lines = ap slots_in (lines_trees-from _ _ c.place_alerts-lines_at.ensures.lines) in
    omega (arith, c.requires, slots_in-four (phase_trees d.phase) (map when_tree d.alerts.items) (flat_map lines_trees d.alerts.items) (map memo_tree d.memos.items))

pub returns-clause-same : goal.returns-clause-same
unfolding draft_of
returns-clause-same c =
    draft_of-same c.args.draft.now c.place_phase-alerts_at.new.phase c.place_procedures-memos_at.new.alerts c.place_memos.new.memos
    c.place_phase-alerts_at.ensures.same (c.place_procedures-memos_at.ensures.same ∙ c.place_alerts-lines_at.ensures.same) c.place_memos.ensures.same

pub returns-clause-placed : goal.returns-clause-placed
unfolding draft_trees draft_places
returns-clause-placed c =
    let d = c.args.draft.now in
    let lines = lines_trees-from _ _ c.place_alerts-lines_at.ensures.lines in
    placed-joined _ _ _ _ (phase_trees d.phase) (map when_tree d.alerts.items) (flat_map lines_trees d.alerts.items) (map memo_tree d.memos.items)
    c.place_phase-alerts_at.result c.place_alerts-lines_at.result c.place_procedures-memos_at.result
    c.place_phase-alerts_at.ensures.placed
    (c.place_procedures-memos_at.ensures.whens ∙ c.place_alerts-lines_at.ensures.placed)
    (c.place_procedures-memos_at.ensures.placed ∙ ap (λ cs. placed c.place_alerts-lines_at.result (trees cs)) lines)
    c.place_memos.ensures.placed
    c.place_phase-alerts_at.ensures.next c.place_alerts-lines_at.ensures.next
    (c.place_procedures-memos_at.ensures.next ∙ ap (λ cs. c.place_alerts-lines_at.result + slots_in cs) lines)

pub returns-clause-next : goal.returns-clause-next
unfolding draft_trees
returns-clause-next c =
    let d = c.args.draft.now in
    let lines = ap slots_in (lines_trees-from _ _ c.place_alerts-lines_at.ensures.lines) in
    omega (arith, slots_in-four (phase_trees d.phase) (map when_tree d.alerts.items) (flat_map lines_trees d.alerts.items) (map memo_tree d.memos.items))
