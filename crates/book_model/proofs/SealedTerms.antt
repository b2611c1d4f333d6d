-- The conditions of a sound draft: they are those of its book, and their slots fit in memory.
use Rattle.std.proofs.Common.{◌≡◌, ℕ, suc, ◌+◌, ◌*◌, ◌^◌, ◌<◌, ◌≤◌, List, [], ◌∷◌, ◌++◌, map, length, All, refl, ap, ◌∙◌, sym, arith}
use Rattle.std.proofs.lemmas.List.Concat.{flat_map-append}
use Rattle.std.specs.List.{flat_map}
use Rattle.ecam_spec.specs.Book.{Text, Tree, Trees, constant, discrete, valid, compared, in_phase, alert, press, computer, negation, all, any, at_least, confirmed, held, risen, latched, none, more, PhaseTerms as PhasePlain, Line as LinePlain, Memo as MemoPlain, Alert as AlertPlain}
use Rattle.ecam_spec.specs.BookTerms.{slots_in, phase_terms, line_terms, lines_of, terms_of}
use Rattle.ecam_spec.specs.TermSize.{slots, slots_of, nodes, nodes_of}
use Rattle.ecam_spec.specs.Draft.{DraftAlert, Draft as PlainDraft, book_of, resolved, alert_names}
use Rattle.ecam_spec.specs.KeepsLimits.{IsSoundTerm, IsSoundPhase, IsSoundLine, IsSoundMemo, IsSoundAlert, IsSound}
use Rattle.book_model.specs.View.{line_of, alert_of, memo_of, draft_of}
use Rattle.book_model.specs.Slots.{line_trees, lines_trees, when_tree, memo_tree, draft_trees}
use Rattle.book_model.specs.declared.draft.Line.{Line}
use Rattle.book_model.specs.declared.draft.Alert.{Alert}
use Rattle.book_model.specs.declared.draft.Memo.{Memo}
use Rattle.book_model.specs.declared.draft.Draft.{Draft}
use Rattle.book_model.proofs.Placing.{slots_in-append, slots_in-four}

mutual
  unfolding slots nodes slots_of nodes_of

  pub slots-le-nodes : (c : Tree) → slots c ≤ nodes c
  slots-le-nodes (constant b) = omega arith
  slots-le-nodes (discrete p) = omega arith
  slots-le-nodes (valid p) = omega arith
  slots-le-nodes (compared p op x) = omega arith
  slots-le-nodes (in_phase set) = omega arith
  slots-le-nodes (alert a) = omega arith
  slots-le-nodes (press key) = omega arith
  slots-le-nodes (computer n) = omega arith
  slots-le-nodes (negation c) = omega (arith, slots-le-nodes c)
  slots-le-nodes (all cs) = omega (arith, slots_of-le-nodes cs)
  slots-le-nodes (any cs) = omega (arith, slots_of-le-nodes cs)
  slots-le-nodes (at_least n cs) = omega (arith, slots_of-le-nodes cs)
  slots-le-nodes (confirmed c n) = omega (arith, slots-le-nodes c)
  slots-le-nodes (held c n) = omega (arith, slots-le-nodes c)
  slots-le-nodes (risen c) = omega (arith, slots-le-nodes c)
  slots-le-nodes (latched s r) = omega (arith, slots-le-nodes s, slots-le-nodes r)

  pub slots_of-le-nodes : (cs : Trees) → slots_of cs ≤ nodes_of cs
  slots_of-le-nodes none = omega arith
  slots_of-le-nodes (more c cs) = omega (arith, slots-le-nodes c, slots_of-le-nodes cs)

module _ {params alerts : ℕ} where
  term-bound : {c : Tree} → IsSoundTerm params alerts c → slots c ≤ 64
  term-bound {c} sound = omega (arith, slots-le-nodes c, sound.small)

  phase-bound : (p : PhasePlain) → IsSoundPhase params alerts p → slots_in (phase_terms p) ≤ 384
  phase-bound p h =
      omega (arith, term-bound h.gnd, term-bound h.run, term-bound h.tp, term-bound h.fast, term-bound h.high, term-bound h.low)

  lines-bound : (ls : List LinePlain) → All (IsSoundLine params alerts) ls → slots_in (line_terms ls) ≤ 128 * length ls
  lines-bound [] h = omega arith
  lines-bound (l ∷ ls) h =
      let here = h 0 l (omega arith) in
      omega (arith, term-bound here.when, term-bound here.done, lines-bound ls (λ k d w. h (suc k) d (omega arith)))

  memos-bound : (ms : List MemoPlain) → All (IsSoundMemo params alerts) ms → slots_in (map (λ m. m.when) ms) ≤ 64 * length ms
  memos-bound [] h = omega arith
  memos-bound (m ∷ ms) h = omega (arith, term-bound (h 0 m (omega arith)).when, memos-bound ms (λ k d w. h (suc k) d (omega arith)))

  module _ {systems pages : ℕ} where
    whens-bound : (xs : List DraftAlert) → All (IsSoundAlert params alerts systems pages) xs → slots_in (map (λ a. a.when) xs) ≤ 64 * length xs
    whens-bound [] h = omega arith
    whens-bound (x ∷ xs) h = omega (arith, term-bound (h 0 x (omega arith)).when, whens-bound xs (λ k d w. h (suc k) d (omega arith)))

    procedures-bound : (xs : List DraftAlert) → All (IsSoundAlert params alerts systems pages) xs → slots_in (line_terms (flat_map (λ a. a.lines) xs)) ≤ 2048 * length xs
    procedures-bound [] h = omega arith
    procedures-bound (x ∷ xs) h =
        let here = h 0 x (omega arith) in
        let rest = flat_map (λ (a : DraftAlert). a.lines) xs in
        let apart : slots_in (line_terms (x.lines ++ rest)) ≡ slots_in (line_terms x.lines) + slots_in (line_terms rest) =
        ap slots_in (flat_map-append (λ l. l.when ∷ l.done ∷ []) x.lines rest) ∙ slots_in-append (line_terms x.lines) (line_terms rest) in
        omega (arith, apart, here.line_count, lines-bound x.lines here.lines, procedures-bound xs (λ k d w. h (suc k) d (omega arith)))

-- the conditions of a draft in stepping order
abbrev pub plain_terms : PlainDraft → List Tree
plain_terms d = phase_terms d.phase ++ map (λ a. a.when) d.alerts ++ line_terms (flat_map (λ a. a.lines) d.alerts) ++ map (λ m. m.when) d.memos

-- the slots of a sound draft have numbers of 32 bits
pub slots-fit : (d : PlainDraft) → IsSound d → slots_in (plain_terms d) < 2 ^ 32
slots-fit d h =
    omega (
      arith,
      slots_in-four (phase_terms d.phase) (map (λ a. a.when) d.alerts) (line_terms (flat_map (λ a. a.lines) d.alerts)) (map (λ m. m.when) d.memos),
      phase-bound d.phase h.phase,
      whens-bound d.alerts h.alerts,
      procedures-bound d.alerts h.alerts,
      memos-bound d.memos h.memos,
      h.alert_count,
      h.memo_count,
    )

whens-resolved : (names : List Text) (xs : List DraftAlert) → map (λ (a : AlertPlain). a.when) (map (resolved names) xs) ≡ map (λ a. a.when) xs
whens-resolved names [] = refl
whens-resolved names (x ∷ xs) = ap (λ cs. x.when ∷ cs) (whens-resolved names xs)

pub lines-resolved : (names : List Text) (xs : List DraftAlert) → lines_of (map (resolved names) xs) ≡ flat_map (λ a. a.lines) xs
lines-resolved names [] = refl
lines-resolved names (x ∷ xs) = ap (λ ls. x.lines ++ ls) (lines-resolved names xs)

-- the conditions of a book are those of its draft
pub terms_of-book : (d : PlainDraft) → terms_of (book_of d) ≡ plain_terms d
unfolding terms_of book_of
terms_of-book d = rw (whens-resolved (alert_names d.alerts) d.alerts, lines-resolved (alert_names d.alerts) d.alerts) refl

whens-view : (xs : List Alert) → map when_tree xs ≡ map (λ a. a.when) (map alert_of xs)
whens-view [] = refl
whens-view (x ∷ xs) = ap (λ cs. when_tree x ∷ cs) (whens-view xs)

memos-view : (ms : List Memo) → map memo_tree ms ≡ map (λ m. m.when) (map memo_of ms)
memos-view [] = refl
memos-view (m ∷ ms) = ap (λ cs. memo_tree m ∷ cs) (memos-view ms)

lines-view : (ls : List Line) → flat_map line_trees ls ≡ line_terms (map line_of ls)
lines-view [] = refl
lines-view (l ∷ ls) = ap (λ cs. line_trees l ++ cs) (lines-view ls)

procedures-view : (xs : List Alert) → flat_map lines_trees xs ≡ line_terms (flat_map (λ a. a.lines) (map alert_of xs))
procedures-view [] = refl
procedures-view (x ∷ xs) =
    ap (λ cs. lines_trees x ++ cs) (procedures-view xs)
    ∙ ap (λ cs. cs ++ line_terms (flat_map (λ a. a.lines) (map alert_of xs))) (lines-view x.lines.items)
    ∙ sym (flat_map-append (λ l. l.when ∷ l.done ∷ []) (map line_of x.lines.items) (flat_map (λ a. a.lines) (map alert_of xs)))

pub draft_trees-view : (d : Draft) → draft_trees d ≡ plain_terms (draft_of d)
unfolding draft_trees draft_of
draft_trees-view d = rw (whens-view d.alerts.items, procedures-view d.alerts.items, memos-view d.memos.items) refl
