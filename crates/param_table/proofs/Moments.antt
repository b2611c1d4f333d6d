-- One more word, and one more moment, against the last word that a source takes.
use Rattle.std.proofs.Common.{◌≡◌, ℕ, zero, suc, Bool, true, false, ◌||◌, List, [], ◌∷◌, ◌++◌, Option, Some, None, cond, refl, sym, ap, ◌∙◌, arith}
use Rattle.std.specs.Prelude.{is_some}
use Rattle.std.specs.List.{list_any}
use Rattle.std.specs.Option.{option_or, option_and_then}
use Rattle.ecam_spec.specs.Past.{last}
use Rattle.ecam_spec.specs.Book.{Source}
use Rattle.ecam_spec.specs.Value.{BusWord, takes, last_taken, arrives, word_of}
use Rattle.ecam_spec.proofs.PastSteps.{last-zero, last-suc}
use Rattle.ecam_spec.proofs.PastAgree.{last-below}
use Rattle.ecam_spec.proofs.ValueAgree.{word_of-below}
use Rattle.ecam_spec.specs.History.{OneMore}

-- a word in its place, if it is taken
abbrev if_taken : Source → BusWord → Option ℕ
if_taken s w = cond (takes s w) (Some w.bits) None

or-assoc : (a b c : Option ℕ) → option_or (option_or a b) c ≡ option_or a (option_or b c)
or-assoc None b c = refl
or-assoc (Some x) b c = refl

or-none : (a : Option ℕ) → option_or a None ≡ a
or-none None = refl
or-none (Some x) = refl

some-or : (o : Option ℕ) (b : Bool) (x : ℕ) → is_some (option_or o (cond b (Some x) None)) ≡ (b || is_some o)
some-or None true x = refl
some-or None false x = refl
some-or (Some y) true x = refl
some-or (Some y) false x = refl

some-taken : (s : Source) (ws : List BusWord) → list_any (takes s) ws ≡ is_some (last_taken s ws)
unfolding last_taken
some-taken s [] = refl
some-taken s (w ∷ ws) = ap (λ b. takes s w || b) (some-taken s ws) ∙ sym (some-or (last_taken s ws) (takes s w) w.bits)

-- the last of the words with one more
taken-push : (s : Source) (ws : List BusWord) (w : BusWord) → last_taken s (ws ++ w ∷ []) ≡ option_or (if_taken s w) (last_taken s ws)
unfolding last_taken
taken-push s [] w = sym (or-none (if_taken s w))
taken-push s (v ∷ ws) w = ap (λ o. option_or o (if_taken s v)) (taken-push s ws w) ∙ or-assoc (if_taken s w) (last_taken s ws) (if_taken s v)

-- what the last moment with something has, or an earlier one
found : (f : ℕ → Option ℕ) (m : ℕ) (p : Option ℕ) (o : Option ℕ) → f m ≡ o → option_and_then f (cond (is_some o) (Some m) p) ≡ option_or o (option_and_then f p)
found f m p None e = refl
found f m p (Some x) e = e

pub word_of-zero : (s : Source) (words : ℕ → List BusWord) → word_of s words 0 ≡ last_taken s (words 0)
unfolding word_of
word_of-zero s words =
    ap (option_and_then (λ m. last_taken s (words m))) (last-zero (arrives s words) ∙ ap (λ b. cond b (Some 0) None) (some-taken s (words 0)))
    ∙ found (λ m. last_taken s (words m)) 0 None (last_taken s (words 0)) refl ∙ or-none (last_taken s (words 0))

pub word_of-suc : (s : Source) (words : ℕ → List BusWord) (k : ℕ) → word_of s words (suc k) ≡ option_or (last_taken s (words (suc k))) (word_of s words k)
unfolding word_of
word_of-suc s words k =
    ap (option_and_then (λ m. last_taken s (words m)))
    (last-suc (arrives s words) k ∙ ap (λ b. cond b (Some (suc k)) (last (arrives s words) k)) (some-taken s (words (suc k))))
    ∙ found (λ m. last_taken s (words m)) (suc k) (last (arrives s words) k) (last_taken s (words (suc k))) refl

any-push : (s : Source) (ws : List BusWord) (w : BusWord) → list_any (takes s) (ws ++ w ∷ []) ≡ (takes s w || list_any (takes s) ws)
any-push s [] w = refl
any-push s (v ∷ ws) w = ap (λ b. takes s v || b) (any-push s ws w) ∙ or-swap (takes s v) (takes s w) (list_any (takes s) ws) where
  or-swap : (a b c : Bool) → (a || (b || c)) ≡ (b || (a || c))
  or-swap true true c = refl
  or-swap true false c = refl
  or-swap false b c = refl

either : (a b : Bool) (m : ℕ) (p : Option ℕ) → cond (a || b) (Some m) p ≡ cond a (Some m) (cond b (Some m) p)
either true b m p = refl
either false b m p = refl

-- one more word comes
module _ (s : Source) (old new : ℕ → List BusWord) (w : BusWord) where
  pub arrives-push : (k : ℕ) → OneMore old new k w → arrives s new k ≡ (takes s w || arrives s old k)
  arrives-push k on = ap (list_any (takes s)) on.now ∙ any-push s (old k) w

  pub word_of-push : (k : ℕ) → OneMore old new k w → word_of s new k ≡ option_or (if_taken s w) (word_of s old k)
  word_of-push zero on =
      word_of-zero s new ∙ ap (last_taken s) on.now ∙ taken-push s (old 0) w ∙ ap (option_or (if_taken s w)) (sym (word_of-zero s old))
  word_of-push (suc k) on =
      word_of-suc s new k
      ∙ ap (λ ws. option_or (last_taken s ws) (word_of s new k)) on.now
      ∙ ap (λ o. option_or o (word_of s new k)) (taken-push s (old (suc k)) w)
      ∙ ap (option_or (option_or (if_taken s w) (last_taken s (old (suc k))))) (word_of-below new old k (λ i h. on.before i (omega arith)) s)
      ∙ or-assoc (if_taken s w) (last_taken s (old (suc k))) (word_of s old k)
      ∙ ap (option_or (if_taken s w)) (sym (word_of-suc s old k))

  pub last-push : (k : ℕ) → OneMore old new k w → last (arrives s new) k ≡ cond (takes s w) (Some k) (last (arrives s old) k)
  last-push zero on =
      last-zero (arrives s new) ∙ ap (λ b. cond b (Some 0) None) (arrives-push 0 on)
      ∙ either (takes s w) (arrives s old 0) 0 None ∙ ap (cond (takes s w) (Some 0)) (sym (last-zero (arrives s old)))
  last-push (suc k) on =
      last-suc (arrives s new) k
      ∙ ap (λ b. cond b (Some (suc k)) (last (arrives s new) k)) (arrives-push (suc k) on)
      ∙ either (takes s w) (arrives s old (suc k)) (suc k) (last (arrives s new) k)
      ∙ ap (λ o. cond (takes s w) (Some (suc k)) (cond (arrives s old (suc k)) (Some (suc k)) o))
      (last-below (arrives s new) (arrives s old) k (λ i h. ap (list_any (takes s)) (on.before i (omega arith))))
      ∙ ap (cond (takes s w) (Some (suc k))) (sym (last-suc (arrives s old) k))

-- a moment begins, in which nothing has come
module _ (s : Source) (words : ℕ → List BusWord) where
  pub word_of-moment : (k : ℕ) → words (suc k) ≡ [] → word_of s words (suc k) ≡ word_of s words k
  unfolding last_taken
  word_of-moment k none = word_of-suc s words k ∙ ap (λ ws. option_or (last_taken s ws) (word_of s words k)) none

  pub last-moment : (k : ℕ) → words (suc k) ≡ [] → last (arrives s words) (suc k) ≡ last (arrives s words) k
  last-moment k none = last-suc (arrives s words) k ∙ ap (λ ws. cond (list_any (takes s) ws) (Some (suc k)) (last (arrives s words) k)) none

  pub word_of-start : words 0 ≡ [] → word_of s words 0 ≡ None
  unfolding last_taken
  word_of-start none = word_of-zero s words ∙ ap (last_taken s) none

  pub last-start : words 0 ≡ [] → last (arrives s words) 0 ≡ None
  last-start none = last-zero (arrives s words) ∙ ap (λ ws. cond (list_any (takes s) ws) (Some 0) None) none
