-- One more mailbox, whose listeners stand behind those of the mailboxes before.
use Rattle.std.proofs.Common.{◌≡◌, ◌⊎◌, ℕ, ◌+◌, ◌-◌, ◌<◌, ◌≤◌, ◌++◌, Bool, List, [], ◌∷◌, length, get_or, Option, All, sym, ap, ◌∙◌, subst, arith, inl, inr}
use Rattle.std.specs.Prelude.{take, drop, slice_range}
use Rattle.std.proofs.lemmas.Bool.{cases_lt}
use Rattle.std.proofs.lemmas.List.{length-append, length-drop, take-append-le, drop-append-le, take_all, get_or_past}
use Rattle.std.proofs.Math.Seq.{drop-append_seam}
use Rattle.param_table.specs.declared.mailbox.Mailbox.{Mailbox}
use Rattle.param_table.specs.declared.mailbox.Hearers.{Hearers}
use Rattle.param_table.specs.declared.mailbox.Listener.{Listener}
use Rattle.param_table.specs.declared.rules.Rule.{Rule}
use Rattle.param_table.specs.HeldValues.{empty, unused, hearers_of}
use Rattle.param_table.specs.Routes.{AreListeners, Tells}
use Rattle.param_table.proofs.Numbering.{get_or-last, get_or-before}

same_range : (ls hs : List Listener) (a b : ℕ) → a ≤ b → b ≤ length ls → slice_range (ls ++ hs) a b ≡ slice_range ls a b
same_range ls hs a b order within = ap (take (b - a)) (drop-append-le a ls hs (omega (arith, order, within))) ∙ take-append-le (b - a) (drop a ls) hs (omega (arith, length-drop a ls, order, within))

own_range : (ls hs : List Listener) → slice_range (ls ++ hs) (length ls) (length ls + length hs) ≡ hs
own_range ls hs = ap (take (length ls + length hs - length ls)) (drop-append_seam ls hs) ∙ take_all (length ls + length hs - length ls) hs (omega arith)

-- those before tell their listeners as they did
tells_still : (is_asked : ℕ → Bool) (rules : List (Option Rule)) (ls hs : List Listener) (n : ℕ) (m : Mailbox) → Tells is_asked rules ls n m → Tells is_asked rules (ls ++ hs) n m
tells_still is_asked rules ls hs n m tells =
    let same : hearers_of (ls ++ hs) m ≡ hearers_of ls m = same_range ls hs m.hearers.first m.hearers.end tells.order tells.within in
    record {
      order = tells.order;
      within = omega (arith, tells.within, length-append ls hs);
      are = subst (AreListeners is_asked rules n) (sym same) tells.are;
      soonest = subst (All (λ (l : Listener). m.hearers.soonest ≤ l.stale)) (sym same) tells.soonest;
    }

abbrev pub one_behind : List Listener → List Listener → ℕ → Mailbox
one_behind ls hs soonest = empty (record { soonest = soonest; first = length ls; end = length ls + length hs })

tells_own : (is_asked : ℕ → Bool) (rules : List (Option Rule)) (ls hs : List Listener) (n soonest : ℕ) → AreListeners is_asked rules n hs → All (λ (l : Listener). soonest ≤ l.stale) hs → Tells is_asked rules (ls ++ hs) n (one_behind ls hs soonest)
tells_own is_asked rules ls hs n soonest are least = record {
  order = omega arith;
  within = omega (arith, length-append ls hs);
  are = subst (AreListeners is_asked rules n) (sym (own_range ls hs)) are;
  soonest = subst (All (λ (l : Listener). soonest ≤ l.stale)) (sym (own_range ls hs)) least;
}

pub more_tells : (is_asked : ℕ → Bool) (rules : List (Option Rule)) (n : ℕ) (boxes : List Mailbox) (ls hs : List Listener) (soonest : ℕ) → length boxes ≡ n
    → ((m : ℕ) → m < n → Tells is_asked rules ls m (get_or boxes m unused)) → AreListeners is_asked rules n hs → All (λ (l : Listener). soonest ≤ l.stale) hs
    → (m : ℕ) → m < n + 1 → Tells is_asked rules (ls ++ hs) m (get_or (boxes ++ one_behind ls hs soonest ∷ []) m unused)
more_tells is_asked rules n boxes ls hs soonest many tells are least m less = by (cases_lt m n) where
  by : (m < n) ⊎ (n ≤ m) → Tells is_asked rules (ls ++ hs) m (get_or (boxes ++ one_behind ls hs soonest ∷ []) m unused)
  by (inl before) = subst (Tells is_asked rules (ls ++ hs) m) (sym (get_or-before boxes (one_behind ls hs soonest ∷ []) unused n m many before)) (tells_still is_asked rules ls hs m (get_or boxes m unused) (tells m before))
  by (inr past) =
      let at : n ≡ m = omega (arith, past, less) in
      subst (λ i. Tells is_asked rules (ls ++ hs) i (get_or (boxes ++ one_behind ls hs soonest ∷ []) i unused)) at
      (subst (Tells is_asked rules (ls ++ hs) n) (sym (get_or-last boxes (one_behind ls hs soonest) unused n many)) (tells_own is_asked rules ls hs n soonest are least))

-- nor did a word come to it
pub more_empty : (n : ℕ) (boxes : List Mailbox) (h : Hearers) → length boxes ≡ n → ((m : ℕ) → (get_or boxes m unused).after ≡ 0) → (m : ℕ) → (get_or (boxes ++ empty h ∷ []) m unused).after ≡ 0
more_empty n boxes h many none m = by (cases_lt m n) (cases_lt n m) where
  by : (m < n) ⊎ (n ≤ m) → (n < m) ⊎ (m ≤ n) → (get_or (boxes ++ empty h ∷ []) m unused).after ≡ 0
  by (inl before) other = ap (λ (b : Mailbox). b.after) (get_or-before boxes (empty h ∷ []) unused n m many before) ∙ none m
  by (inr past) (inl far) = ap (λ (b : Mailbox). b.after) (get_or_past (boxes ++ empty h ∷ []) m unused (omega (arith, far, many, length-append boxes (empty h ∷ []))))
  by (inr past) (inr at) =
      let same : n ≡ m = omega (arith, past, at) in
      ap (λ (b : Mailbox). b.after) (get_or-last boxes (empty h) unused m (many ∙ same))
