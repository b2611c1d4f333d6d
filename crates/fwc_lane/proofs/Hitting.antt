-- Conditions that are woken by the numbers of operands.
use Rattle.std.proofs.Common.{◌≡◌, ℕ, suc, ◌+◌, Bool, true, false, ◌||◌, List, [], ◌∷◌, length, slice_get, Some, refl, sym, ap, ◌∙◌}
use Rattle.std.specs.List.{list_any}
use Rattle.ecam_spec.specs.Book.{Book}
use Rattle.book_model.specs.declared.draft.Draft.{Draft}
use Rattle.book_model.specs.Sealed.{the_book}
use Rattle.book_model.proofs.BookLists.{many-parameters, many-alerts}
use Rattle.term_eval.specs.Woken.{operands}
use Rattle.watch_lists.specs.Naming.{sizes_of, operand_count, operand_number}
use Rattle.watch_lists.proofs.Lines.{sizes-are}
use Rattle.wakes.specs.Marks.{is_marked}
use Rattle.fwc_lane.specs.Waking.{sizes_in, WakesBy}

-- ---- some of a list pass a test

four : (a b c d : Bool) → ((a || b) || (c || d)) ≡ ((a || c) || (b || d))
four true b c d = refl
four false true true d = refl
four false true false d = refl
four false false c d = refl

or-or : (a b c : Bool) → ((a || b) || c) ≡ (a || (b || c))
or-or true b c = refl
or-or false b c = refl

pub any-alike : {X : Type 0} (f g : X → Bool) → ((x : X) → f x ≡ g x) → (xs : List X) → list_any f xs ≡ list_any g xs
any-alike f g same [] = refl
any-alike f g same (x ∷ xs) = ap (λ b. b || list_any f xs) (same x) ∙ ap (λ b. g x || b) (any-alike f g same xs)

-- where two agree on each of its members
pub any-each : {X : Type 0} (f g : X → Bool) (xs : List X) → ((i : ℕ) (x : X) → slice_get xs i ≡ Some x → f x ≡ g x) → list_any f xs ≡ list_any g xs
any-each f g [] same = refl
any-each f g (x ∷ xs) same = ap (λ b. b || list_any f xs) (same 0 x refl) ∙ ap (λ b. g x || b) (any-each f g xs (λ i y is. same (suc i) y is))

pub any-or : {X : Type 0} (f g : X → Bool) (xs : List X) → list_any (λ x. f x || g x) xs ≡ (list_any f xs || list_any g xs)
any-or f g [] = refl
any-or f g (x ∷ xs) = ap (λ b. (f x || g x) || b) (any-or f g xs) ∙ four (f x) (g x) (list_any f xs) (list_any g xs)

pub any-none : {X : Type 0} (f : X → Bool) → ((x : X) → f x ≡ false) → (xs : List X) → list_any f xs ≡ false
any-none f none [] = refl
any-none f none (x ∷ xs) = ap (λ b. b || list_any f xs) (none x) ∙ any-none f none xs

-- ---- what wakes

-- first by one test, then by another
pub wakes-then : (b : Book) (f g h : ℕ → Bool) (old mid new : List ℕ) → ((o : ℕ) → h o ≡ (f o || g o)) → WakesBy b f old mid → WakesBy b g mid new → WakesBy b h old new
wakes-then b f g h old mid new both first second = λ j p is.
    let n = sizes_in b in
    second j p is
    ∙ ap (λ x. x || list_any (λ y. g (operand_number n y)) (operands p.tree)) (first j p is)
    ∙ or-or (is_marked old j) (list_any (λ y. f (operand_number n y)) (operands p.tree)) (list_any (λ y. g (operand_number n y)) (operands p.tree))
    ∙ ap (λ x. is_marked old j || x)
    (sym (any-or (λ y. f (operand_number n y)) (λ y. g (operand_number n y)) (operands p.tree))
    ∙ any-alike (λ y. f (operand_number n y) || g (operand_number n y)) (λ y. h (operand_number n y)) (λ y. sym (both (operand_number n y))) (operands p.tree))

-- ---- the watch's lists

pub sizes-same : (d : Draft) → sizes_of d ≡ sizes_in (the_book d)
sizes-same d = sym (sizes-are d (length (the_book d).parameters) (length (the_book d).alerts) (many-parameters d) (many-alerts d))

pub count-same : (d : Draft) (b : Book) → the_book d ≡ b → operand_count (sizes_of d) ≡ length b.parameters + length b.alerts + 28
count-same d b e = ap operand_count (sizes-same d) ∙ ap (λ c. operand_count (sizes_in c)) e
