-- How many items a sound draft has at most.
use Rattle.std.proofs.Common.{◌<◌, ◌^◌, length, arith}
use Rattle.std.proofs.lemmas.List.{length-map}
use Rattle.ecam_spec.specs.KeepsLimits.{IsSound}
use Rattle.term_tree.specs.View.{named_term}
use Rattle.book_model.specs.View.{draft_of, alert_of, memo_of}
use Rattle.book_model.specs.declared.draft.Draft.{Draft}

module _ (d : Draft) (sound : IsSound (draft_of d)) where
  pub few_alerts : length d.alerts.items < 2 ^ 32
  unfolding draft_of
  few_alerts = omega (arith, length-map d.alerts.items alert_of, sound.alert_count)

  pub few_terms : length d.terms.items < 2 ^ 32
  unfolding draft_of
  few_terms = omega (arith, length-map d.terms.items named_term, sound.term_count)

  pub few_memos : length d.memos.items < 2 ^ 32
  unfolding draft_of
  few_memos = omega (arith, length-map d.memos.items memo_of, sound.memo_count)
