-- The places of a level, one alert after another.
use Rattle.std.proofs.Common.{◌≡◌, ℕ, zero, suc, ◌+◌, ◌<◌, Bool, cond, List, [], ◌∷◌, ◌++◌, map, length, take, get_or, filter, Option, refl, ap, ◌∙◌, sym, arith, add-one}
use Rattle.std.proofs.lemmas.List.Elements.{filter-append, filter_map-append}
use Rattle.std.proofs.lemmas.List.{take_more, map-append}
use Rattle.std.specs.List.{filter_map, cons_option}
use Rattle.ecam_spec.specs.declared.kinds.Level.{Level}
use Rattle.ecam_spec.specs.declared.kinds.Level.TheVariants.{One}
use Rattle.ecam_spec.specs.Places.{below}
use Rattle.book_model.specs.Parts.{has_level, is_level}
use Rattle.book_model.specs.declared.draft.Alert.{Alert}

pub filter_below-none : (p : ℕ → Bool) → filter p (below 0) ≡ []
unfolding below
filter_below-none p = refl

pub filter_below-more : (p : ℕ → Bool) (i : ℕ) → filter p (below (i + 1)) ≡ filter p (below i) ++ cond (p i) (i ∷ []) []
unfolding below
filter_below-more p i = rw add-one (filter-append p (below i) (i ∷ []))

-- an alert at its place has the level that it has
pub has_level-at : (alerts : List Alert) (wanted : Level) (i : ℕ) (a : Alert) → i < length alerts → a ≡ get_or alerts i a → has_level alerts wanted i ≡ is_level wanted a.level
has_level-at alerts wanted i a within here = ap (is_level wanted) (go alerts i a within ∙ ap (λ b. b.level) (sym here))
  where
    go : (rest : List Alert) (k : ℕ) (d : Alert) → k < length rest → get_or (map (λ b. b.level) rest) k One ≡ (get_or rest k d).level
    go [] k d h = absurd (omega arith)
    go (x ∷ xs) zero d h = refl
    go (x ∷ xs) (suc k) d h = go xs k d (omega arith)

-- what a `filter_map` gives of one more item
pub filter_map-more : {X Y Z : Type 0} (h : Y → Option Z) (f : X → Y) (xs : List X) (i : ℕ) (x : X) → i < length xs → x ≡ get_or xs i x
    → filter_map h (map f (take (i + 1) xs)) ≡ filter_map h (map f (take i xs)) ++ cons_option (h (f x)) []
filter_map-more h f xs i x within here =
    ap (λ ys. filter_map h (map f ys)) (take_more xs i x within ∙ ap (λ y. take i xs ++ y ∷ []) (sym here))
    ∙ ap (filter_map h) (map-append f (take i xs) (x ∷ []))
    ∙ filter_map-append h (map f (take i xs)) (f x ∷ [])
