-- Where what belongs to conditions starts, in one record for each.
use Rattle.std.proofs.Common.{◌≡◌, ℕ, ◌+◌, ◌<◌, List, [], ◌∷◌, ◌++◌, length, map, take, slice_index, slice_index_or, sym, ap, ◌∙◌}
use Rattle.std.proofs.Math.ListN.{get_or-map}
use Rattle.std.proofs.lemmas.List.{length-map, map-append, take_more, get_or_default}
use Rattle.condition_codes.specs.IsCodes.{node_starts}
use Rattle.condition_codes.specs.declared.starts.Starts.{Starts}

-- what is read of a record stands in the list
pub read-at : (f : Starts → ℕ) → f (record { node = 0; slot = 0; owner = 0 }) ≡ 0 → (xs : List Starts) (j : ℕ) (x : Starts) → j < length xs → x ≡ slice_index_or xs j x
    → f x ≡ slice_index (map f xs) j
read-at f zeros xs j x less is =
    let none : Starts = record { node = 0; slot = 0; owner = 0 } in
    ap f (is ∙ get_or_default xs j x none less) ∙ sym (get_or-map f xs j none) ∙ ap (slice_index_or (map f xs) j) zeros

-- where the nodes of a condition start
pub node-of : (xs : List Starts) (j : ℕ) → (slice_index_or xs j (record { node = 0; slot = 0; owner = 0 })).node ≡ slice_index (node_starts xs) j
node-of xs j = sym (get_or-map (λ (s : Starts). s.node) xs j (record { node = 0; slot = 0; owner = 0 }))

pub many-nodes : (xs : List Starts) → length (node_starts xs) ≡ length xs
many-nodes xs = length-map xs (λ (s : Starts). s.node)

-- one more
pub starts-more : (f : Starts → ℕ) (done : List Starts) (x : Starts) (xs : List ℕ) (i : ℕ) → map f done ≡ take i xs → i < length xs → f x ≡ slice_index_or xs i (f x)
    → map f (done ++ x ∷ []) ≡ take (i + 1) xs
starts-more f done x xs i before less is =
    map-append f done (x ∷ []) ∙ ap (λ l. l ++ f x ∷ []) before ∙ ap (λ n. take i xs ++ n ∷ []) is ∙ sym (take_more xs i (f x) less)
