-- Giving the conditions of a list their places, one member after another.
use Rattle.std.proofs.Common.{◌≡◌, ℕ, ◌+◌, ◌<◌, ◌≤◌, List, [], ◌∷◌, ◌++◌, map, length, take, drop, get_or, set, refl, ap, ◌∙◌, sym, arith, append_assoc, append-nil, Vec, Global}
use Rattle.std.proofs.lemmas.List.{take_more_set, drop_more, take_all, drop-set-lt, drop_all}
use Rattle.std.proofs.lemmas.List.Concat.{flat_map-append}
use Rattle.std.specs.List.{flat_map}
use Rattle.ecam_spec.specs.Book.{Tree}
use Rattle.ecam_spec.specs.BookTerms.{slots_in}
use Rattle.ecam_spec.specs.TermSize.{Placed, slots, trees, placed}
use Rattle.ecam_spec.specs.Book as book
use Rattle.ecam_spec.specs.Draft.{DraftAlert}
use Rattle.term_tree.specs.View.{tree_of}
use Rattle.ecam_spec.specs.Draft as plain
use Rattle.book_model.specs.declared.draft.Draft.{Draft}
use Rattle.book_model.specs.declared.draft.PhaseTerms.{PhaseTerms}
use Rattle.book_model.specs.View.{tree_in, placed_of, alert_of, memo_of, line_of, phase_of, draft_of}
use Rattle.book_model.specs.Slots.{lines_trees, line_trees}
use Rattle.book_model.specs.declared.draft.Term.{Term}
use Rattle.book_model.specs.declared.draft.Line.{Line}
use Rattle.book_model.specs.declared.draft.Alert.{Alert}
use Rattle.book_model.specs.declared.draft.Memo.{Memo}

pub slots_in-append : (cs ds : List Tree) → slots_in (cs ++ ds) ≡ slots_in cs + slots_in ds
slots_in-append [] ds = omega arith
slots_in-append (c ∷ cs) ds = omega (arith, slots_in-append cs ds)

-- the places of two lists of conditions, one behind the other
placed-none : (at : ℕ) → placed at (trees []) ≡ []
unfolding placed
placed-none at = refl

pub placed-append : (at : ℕ) (cs ds : List Tree) → placed at (trees (cs ++ ds)) ≡ placed at (trees cs) ++ placed (at + slots_in cs) (trees ds)
unfolding placed
placed-append at [] ds = ap (λ n. placed n (trees ds)) (omega arith)
placed-append at (c ∷ cs) ds =
    ap (λ ps. record { tree = c; at = at } ∷ ps) (
    placed-append (at + slots c) cs ds
    ∙ ap (λ n. placed (at + slots c) (trees cs) ++ placed n (trees ds)) (omega arith))

-- the conditions of the first i members have their places, from `start` on, and the next ones begin at `at`
pub record Placing {X : Type 0} (ts : X → List Tree) (ps : X → List Placed) (before xs : List X) (i start at : ℕ) : Type 0 where
  pub placed_so_far : flat_map ps (take i xs) ++ placed at (trees (flat_map ts (drop i xs))) ≡ placed start (trees (flat_map ts before))
  pub next : at + slots_in (flat_map ts (drop i xs)) ≡ start + slots_in (flat_map ts before)

module _ {X : Type 0} {ts : X → List Tree} {ps : X → List Placed} where
  module _ {before xs : List X} {i start at : ℕ} (so_far : Placing ts ps before xs i start at) where
    -- there is room for the next member
    pub placing-room : (d : X) → i < length xs → at + slots_in (ts (get_or xs i d)) ≤ start + slots_in (flat_map ts before)
    placing-room d within =
        omega (arith, so_far.next, ap (λ ys. slots_in (flat_map ts ys)) (drop_more xs i d within), slots_in-append (ts (get_or xs i d)) (flat_map ts (drop (i + 1) xs)))

    -- one more member has its places
    pub placing-more : (d y : X) (then_at : ℕ) → i < length xs → ps y ≡ placed at (trees (ts (get_or xs i d))) → then_at ≡ at + slots_in (ts (get_or xs i d))
        → Placing ts ps before (set xs i y) (i + 1) start then_at
    placing-more d y then_at within own follows =
        let x = get_or xs i d in
        let rest = flat_map ts (drop (i + 1) xs) in
        let left : drop (i + 1) (set xs i y) ≡ drop (i + 1) xs = drop-set-lt (i + 1) xs i y (omega arith) in
        let whole : flat_map ts (drop i xs) ≡ ts x ++ rest = ap (flat_map ts) (drop_more xs i d within) in
        let parts : placed at (trees (ts x ++ rest)) ≡ ps y ++ placed then_at (trees rest) = rw (follows, own) (placed-append at (ts x) rest) in
        let front : flat_map ps (take (i + 1) (set xs i y)) ≡ flat_map ps (take i xs) ++ ps y =
        ap (flat_map ps) (take_more_set xs i y within) ∙ flat_map-append ps (take i xs) (y ∷ []) ∙ ap (λ z. flat_map ps (take i xs) ++ z) (append-nil (ps y)) in
        record {
          placed_so_far = rw (left, front) (
              append_assoc (flat_map ps (take i xs)) (ps y) _
              ∙ ap (λ z. flat_map ps (take i xs) ++ z) (sym parts)
              ∙ ap (λ cs. flat_map ps (take i xs) ++ placed at (trees cs)) (sym whole)
              ∙ so_far.placed_so_far);
          next = rw left (omega (arith, follows, so_far.next, ap slots_in whole, slots_in-append (ts x) rest));
        }

    -- all have their places
    pub placing-all : length xs ≤ i → flat_map ps xs ≡ placed start (trees (flat_map ts before))
    placing-all all =
        let none : drop i xs ≡ [] = drop_all i xs all in
        let every : take i xs ≡ xs = take_all i xs all in
        let end : placed at (trees (flat_map ts (drop i xs))) ≡ [] = rw none (placed-none at) in
        ap (flat_map ps) (sym every) ∙ sym (append-nil (flat_map ps (take i xs))) ∙ ap (λ z. flat_map ps (take i xs) ++ z) (sym end) ∙ so_far.placed_so_far

-- what a vector has once all its items went through an `iter_mut`
pub written-items : {X : Type 0} (n : ℕ) (xs olds : List X) → length xs ≡ length olds → n ≡ length olds → take n (xs ++ drop (length xs) olds) ≡ xs
written-items n xs olds long all =
    let none : drop (length xs) olds ≡ [] = drop_all (length xs) olds (omega arith) in
    rw (none, append-nil) (take_all n xs (omega arith))

-- a condition that was given its place
pub placed-term : (new old : Term) (at : ℕ) → new.cond ≡ old.cond → new.at ≡ at → placed_of new ∷ [] ≡ placed at (trees (tree_in old ∷ []))
unfolding placed
placed-term new old at same here = ap (λ ps. ps ∷ []) (rw (same, here) refl)

-- an alert or a memo, under its meaning, doesn't tell where its condition has its place
pub alert_of-when : (a : Alert) (t : Term) → t.cond ≡ a.when.cond → alert_of (record a { when = t }) ≡ alert_of a
alert_of-when a t same =
    ap (λ c. let d : DraftAlert = record (alert_of a) { when = tree_of c } in d) same

pub memo_of-when : (m : Memo) (t : Term) → t.cond ≡ m.when.cond → memo_of (record m { when = t }) ≡ memo_of m
memo_of-when m t same = ap (λ c. let n : book.Memo = record (memo_of m) { when = tree_of c } in n) same

-- and its lines don't
pub alert_of-lines : (a : Alert) (ls : Vec Line Global) → map line_of ls.items ≡ map line_of a.lines.items → alert_of (record a { lines = ls }) ≡ alert_of a
alert_of-lines a ls same = ap (λ xs. let d : DraftAlert = record (alert_of a) { lines = xs } in d) same

-- four lists of conditions, one behind the other
pub slots_in-four : (a b c d : List Tree) → slots_in (a ++ b ++ c ++ d) ≡ slots_in a + slots_in b + slots_in c + slots_in d
slots_in-four a b c d = omega (arith, slots_in-append (a ++ b ++ c) d, slots_in-append (a ++ b) c, slots_in-append a b)

pub placed-four : (a b c d : List Tree) (second third fourth : ℕ) → second ≡ 0 + slots_in a → third ≡ second + slots_in b → fourth ≡ third + slots_in c
    → placed 0 (trees a) ++ placed second (trees b) ++ placed third (trees c) ++ placed fourth (trees d) ≡ placed 0 (trees (a ++ b ++ c ++ d))
placed-four a b c d second third fourth e f g =
    let two : placed 0 (trees (a ++ b)) ≡ placed 0 (trees a) ++ placed second (trees b) = rw e (placed-append 0 a b) in
    let at_third : third ≡ 0 + slots_in (a ++ b) = omega (arith, slots_in-append a b) in
    let three : placed 0 (trees (a ++ b ++ c)) ≡ placed 0 (trees (a ++ b)) ++ placed third (trees c) = rw at_third (placed-append 0 (a ++ b) c) in
    let at_fourth : fourth ≡ 0 + slots_in (a ++ b ++ c) = omega (arith, slots_in-append (a ++ b) c) in
    let all : placed 0 (trees (a ++ b ++ c ++ d)) ≡ placed 0 (trees (a ++ b ++ c)) ++ placed fourth (trees d) = rw at_fourth (placed-append 0 (a ++ b ++ c) d) in
    sym (all ∙ ap (λ ps. ps ++ placed fourth (trees d)) (three ∙ ap (λ ps. ps ++ placed third (trees c)) two))

-- what is read of the lines alone
pub lines_trees-from : (xs ys : List Alert) → map (λ (a : Alert). a.lines) xs ≡ map (λ (a : Alert). a.lines) ys → flat_map lines_trees xs ≡ flat_map lines_trees ys
lines_trees-from xs ys same = over xs ∙ ap (flat_map (λ ls. flat_map line_trees ls.items)) same ∙ sym (over ys)
  where
    over : (zs : List Alert) → flat_map lines_trees zs ≡ flat_map (λ ls. flat_map line_trees ls.items) (map (λ (a : Alert). a.lines) zs)
    over [] = refl
    over (z ∷ zs) = ap (λ cs. lines_trees z ++ cs) (over zs)

pub placed-joined : (p q r s : List Placed) (a b c d : List Tree) (second third fourth : ℕ)
    → p ≡ placed 0 (trees a) → q ≡ placed second (trees b) → r ≡ placed third (trees c) → s ≡ placed fourth (trees d)
    → second ≡ 0 + slots_in a → third ≡ second + slots_in b → fourth ≡ third + slots_in c
    → p ++ q ++ r ++ s ≡ placed 0 (trees (a ++ b ++ c ++ d))
placed-joined p q r s a b c d second third fourth pp qq rr ss e f g =
    rw (pp, qq, rr, ss) (placed-four a b c d second third fourth e f g)

-- a draft is the same where its phase inputs, alerts and memos are
pub draft_of-same : (d : Draft) (p : PhaseTerms) (alerts : Vec Alert Global) (memos : Vec Memo Global)
    → phase_of p ≡ phase_of d.phase → map alert_of alerts.items ≡ map alert_of d.alerts.items → map memo_of memos.items ≡ map memo_of d.memos.items
    → draft_of (record d { phase = p; alerts = alerts; memos = memos }) ≡ draft_of d
unfolding draft_of
draft_of-same d p alerts memos same_phase same_alerts same_memos =
    let with = λ (q : book.PhaseTerms) (xs : List DraftAlert) (ms : List book.Memo). let e : plain.Draft = record (draft_of d) { phase = q; alerts = xs; memos = ms } in e in
    ap (λ q. with q (map alert_of alerts.items) (map memo_of memos.items)) same_phase
    ∙ ap (λ xs. with (phase_of d.phase) xs (map memo_of memos.items)) same_alerts
    ∙ ap (λ ms. with (phase_of d.phase) (map alert_of d.alerts.items) ms) same_memos
