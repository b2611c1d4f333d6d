-- One list more is put behind the others.
use Rattle.std.proofs.Common.{◌≡◌, ℕ, suc, ◌+◌, ◌-◌, ◌<◌, ◌≤◌, List, [], ◌∷◌, ◌++◌, length, take, drop, get_or, slice_index, refl, sym, ap, ◌∙◌, inl, inr, arith}
use Rattle.std.proofs.lemmas.Bool.{cases_lt}
use Rattle.std.proofs.lemmas.List.{get_or_append_left, get_or_push, length-append, length-take, length-drop, take_all, take_more, drop_all, take-append-le, drop-append-le}
use Rattle.watch_lists.specs.Flat.{piece, IsFlat}

pub flat-none : (lists : List (List ℕ)) → IsFlat (take 0 lists) (0 ∷ []) []
flat-none lists = record {
  count = refl;
  ordered = λ o lt. absurd (omega arith);
  within = λ o le. let e : o ≡ 0 = omega arith in omega (arith, ap (slice_index (0 ∷ [])) e);
  each = λ o lt. absurd (omega arith);
}

module _ (lists : List (List ℕ)) (i : ℕ) (lt : i < length lists) (starts items own : List ℕ) (flat : IsFlat (take i lists) starts items) (ends : slice_index starts i ≡ length items) (is : own ≡ get_or lists i []) where
  abbrev starts' : List ℕ
  starts' = starts ++ length (items ++ own) ∷ []

  some : length (take i lists) ≡ i
  some = omega (arith, length-take i lists)

  many : length starts ≡ suc i
  many = omega (arith, flat.count, some)

  longer : length (items ++ own) ≡ length items + length own
  longer = length-append items own

  start-old : (o : ℕ) → o ≤ i → slice_index starts' o ≡ slice_index starts o
  start-old o le = get_or_append_left starts (length (items ++ own) ∷ []) 0 o (omega (arith, many))

  start-last : slice_index starts' i ≡ length items
  start-last = start-old i (omega arith) ∙ ends

  pub start-new : slice_index starts' (suc i) ≡ length (items ++ own)
  start-new = get_or_push starts (length (items ++ own)) 0 (suc i) many

  old-within : (o : ℕ) → o ≤ i → slice_index starts o ≤ length items
  old-within o le = flat.within o (omega (arith, some))

  -- those before stand where they stood
  piece-old : (o : ℕ) → o < i → piece starts' (items ++ own) o ≡ get_or (take i lists) o []
  piece-old o less =
      let a = slice_index starts o in
      let b = slice_index starts (suc o) in
      let low : a ≤ length items = old-within o (omega arith) in
      let high : b ≤ length items = old-within (suc o) less in
      ap (λ n. take (slice_index starts' (suc o) - n) (drop n (items ++ own))) (start-old o (omega arith))
      ∙ ap (λ n. take (n - a) (drop a (items ++ own))) (start-old (suc o) less)
      ∙ ap (take (b - a)) (drop-append-le a items own low)
      ∙ take-append-le (b - a) (drop a items) own (omega (arith, length-drop a items, high))
      ∙ flat.each o (omega (arith, some))

  piece-new : piece starts' (items ++ own) i ≡ own
  piece-new =
      ap (λ n. take (slice_index starts' (suc i) - n) (drop n (items ++ own))) start-last
      ∙ ap (λ n. take (n - length items) (drop (length items) (items ++ own))) start-new
      ∙ ap (take (length (items ++ own) - length items)) (drop-append-le (length items) items own (omega arith) ∙ ap (λ l. l ++ own) (drop_all (length items) items (omega arith)))
      ∙ take_all (length (items ++ own) - length items) own (omega (arith, longer))

  more : take (i + 1) lists ≡ take i lists ++ own ∷ []
  more = take_more lists i [] lt ∙ ap (λ l. take i lists ++ l ∷ []) (sym is)

  count-more : length (take (i + 1) lists) ≡ suc i
  count-more = omega (arith, ap length more, length-append (take i lists) (own ∷ []), some)

  get-old : (o : ℕ) → o < i → get_or (take (i + 1) lists) o [] ≡ get_or (take i lists) o []
  get-old o less = ap (λ ls. get_or ls o []) more ∙ get_or_append_left (take i lists) (own ∷ []) [] o (omega (arith, some))

  get-new : get_or (take (i + 1) lists) i [] ≡ own
  get-new = ap (λ ls. get_or ls i []) more ∙ get_or_push (take i lists) own [] i some

  pub flat-next : IsFlat (take (i + 1) lists) starts' (items ++ own)
  flat-next = record {
    count = omega (arith, length-append starts (length (items ++ own) ∷ []), many, count-more);
    ordered = λ o less. elim (cases_lt o i) [
      | inl before ↦ omega (arith, start-old o (omega arith), start-old (suc o) before, flat.ordered o (omega (arith, some)))
      | inr after ↦ let e : o ≡ i = omega (arith, count-more) in omega (arith, ap (slice_index starts') e, ap (λ n. slice_index starts' (suc n)) e, start-last, start-new, longer)
    ];
    within = λ o le. elim (cases_lt i o) [
      | inl after ↦ let e : o ≡ suc i = omega (arith, count-more) in omega (arith, ap (slice_index starts') e, start-new)
      | inr before ↦ omega (arith, start-old o before, old-within o before, longer)
    ];
    each = λ o less. elim (cases_lt o i) [
      | inl before ↦ piece-old o before ∙ sym (get-old o before)
      | inr after ↦ let e : o ≡ i = omega (arith, count-more) in ap (piece starts' (items ++ own)) e ∙ piece-new ∙ sym (ap (λ n. get_or (take (i + 1) lists) n []) e ∙ get-new)
    ];
  }
