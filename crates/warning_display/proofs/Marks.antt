-- Marks of the systems of which an alert is starred, and the rows of the marked systems.
use Rattle.std.proofs.Common.{◌≡◌, ℕ, zero, suc, ◌+◌, ◌-◌, ◌<◌, ◌≤◌, min, Bool, true, false, ◌&&◌, ◌||◌, ◌==◌, List, [], ◌∷◌, ◌++◌, map, length, get_or, set, replicate, subst, cond, inl, inr, refl, sym, ◌∙◌, ap, arith}
use Rattle.std.specs.Prelude.{filter}
use Rattle.std.specs.List.{list_any}
use Rattle.std.proofs.Math.Bool.{or-false, and-false, and-true, or-true}
use Rattle.std.proofs.lemmas.Bool.{cases_eq, eq-eqb, ne_eqb}
use Rattle.std.proofs.lemmas.List.{get_or-set_same, get_or-set_other}
use Rattle.std.proofs.lemmas.List.Elements.{filter_agree}
use Rattle.std.proofs.lemmas.List.Folds.{list_any-append}
use Rattle.ecam_spec.specs.declared.kinds.Colour.TheVariants.{Amber}
use Rattle.ecam_spec.specs.Picture.{Row, row, zone}
use Rattle.ecam_spec.specs.Book.{Text, Memo, Book}
use Rattle.ecam_spec.specs.Places.{below}
use Rattle.ecam_spec.specs.RightZone.{right_rows, right_zone, right_beyond}
use Rattle.ecam_spec.specs.Situation.{alert_at}
use Rattle.ecam_spec.specs.Screen.{alert_numbers}
use Rattle.ecam_spec.proofs.OrderLaws.{below-below}
use Rattle.zone_rows.specs.Tracked.{TrackedRows}
use Rattle.zone_rows.specs.Mended.{Mends, IsFilled}
use Rattle.zone_rows.proofs.Filling.{fill-none}
use Rattle.book_model.specs.Told.{TellsBelow}
use Rattle.warning_display.specs.Counted.{Adds}
use Rattle.warning_display.specs.Memos.{memo_rows}
use Rattle.warning_display.specs.RightRows.{is_marked, system_row, right_of, FillsRight}
use Rattle.warning_display.proofs.Passing.{filter-on, filter_told, any_told, below-more}
use Rattle.warning_display.proofs.Adding.{adds-both}

-- what a mark tells of each system
marked : (marks : List Bool) (system s : ℕ) → system < length marks → get_or (set marks system true) s false ≡ (get_or marks s false || (system == s))
marked marks system s within =
    elim (cases_eq s system) [
      | inl e ↦
          ap (λ i. get_or (set marks system true) i false) e
          ∙ get_or-set_same marks system true false within
          ∙ sym (ap (λ b. get_or marks s false || b) (eq-eqb system s (sym e)) ∙ or-true (get_or marks s false))
      | inr ne ↦
          get_or-set_other marks system s true false ne
          ∙ sym (ap (λ b. get_or marks s false || b) (ne_eqb system s (λ e. ne (sym e))) ∙ or-false (get_or marks s false))
    ]

any-one : (b : Book) (starred : ℕ → Bool) (alerts : List ℕ) (a s : ℕ) → is_marked b starred (alerts ++ a ∷ []) s ≡ (is_marked b starred alerts s || (((alert_at b a).system == s) && starred a))
any-one b starred alerts a s =
    list_any-append (λ x. (alert_at b x).system == s && starred x) alerts (a ∷ [])
    ∙ ap (λ q. is_marked b starred alerts s || q) (or-false (((alert_at b a).system == s) && starred a))

any-kept : (test : ℕ → Bool) (kept : Bool) (a : ℕ) (alerts : List ℕ) → ((test a && kept) || list_any test alerts) ≡ list_any test (cond kept (a ∷ alerts) alerts)
any-kept test true a alerts = ap (λ q. q || list_any test alerts) (and-true (test a))
any-kept test false a alerts = ap (λ q. q || list_any test alerts) (and-false (test a))

marked-filter : (b : Book) (starred : ℕ → Bool) (s : ℕ) (alerts : List ℕ) → is_marked b starred alerts s ≡ list_any (λ a. (alert_at b a).system == s) (filter starred alerts)
marked-filter b starred s [] = refl
marked-filter b starred s (a ∷ alerts) =
    ap (λ q. ((alert_at b a).system == s && starred a) || q) (marked-filter b starred s alerts)
    ∙ any-kept (λ x. (alert_at b x).system == s) (starred a) a (filter starred alerts)

-- alerts of which the same are starred mark the same systems
pub marked-same : (b : Book) (starred : ℕ → Bool) (these those : List ℕ) → filter starred these ≡ filter starred those → (s : ℕ) → is_marked b starred these s ≡ is_marked b starred those s
marked-same b starred these those same s =
    marked-filter b starred s these ∙ ap (list_any (λ a. (alert_at b a).system == s)) same ∙ sym (marked-filter b starred s those)

-- one starred alert more
pub marked-on : (b : Book) (starred : ℕ → Bool) (a system : ℕ) (marks : List Bool) → (alert_at b a).system ≡ system → starred a ≡ true → system < length marks
    → ((s : ℕ) → s < 64 → get_or marks s false ≡ is_marked b starred (below a) s) → (s : ℕ) → s < 64 → get_or (set marks system true) s false ≡ is_marked b starred (below (a + 1)) s
marked-on b starred a system marks is tells within so_far s h =
    marked marks system s within
    ∙ ap (λ q. q || (system == s)) (so_far s h)
    ∙ ap (λ q. is_marked b starred (below a) s || q) (sym (and-true (system == s)) ∙ ap (λ q. (system == s) && q) (sym tells))
    ∙ ap (λ n. is_marked b starred (below a) s || ((n == s) && starred a)) (sym is)
    ∙ sym (any-one b starred (below a) a s)
    ∙ ap (λ xs. is_marked b starred xs s) (sym (below-more a))

-- one marked system more
pub systems-on : (f : ℕ → Row) (p : ℕ → Bool) (s : ℕ) (r : Row) → f s ≡ r → p s ≡ true → (a b c : ℕ) (t u v : TrackedRows)
    → Adds 7 (map f (filter p (below s))) a b t u → Adds 7 (r ∷ []) b c u v → Adds 7 (map f (filter p (below (s + 1)))) a c t v
systems-on f p s r is passes a b c t u v before next =
    let on : map f (filter p (below (s + 1))) ≡ map f (filter p (below s)) ++ r ∷ [] =
    ap (λ xs. map f (filter p xs)) (below-more s)
    ∙ filter-on f p (below s) s
    ∙ ap (λ q. map f (filter p (below s)) ++ cond q (f s ∷ []) []) passes
    ∙ ap (λ x. map f (filter p (below s)) ++ x ∷ []) is in
    rw on (adds-both 7 (map f (filter p (below s))) (r ∷ []) a b c t u v before next)

map-twice : (g : ℕ → Text) (xs : List ℕ) → map (λ s. system_row (g s)) xs ≡ map (λ s. row Amber (42 ∷ s)) (map g xs)
map-twice g [] = refl
map-twice g (x ∷ xs) = ap (λ rs. system_row (g x) ∷ rs) (map-twice g xs)

-- by marks that tell which systems have a starred alert the rows are those of the zone
pub rows-right : (b : Book) (marks : List Bool) (starred : ℕ → Bool) (holds : Memo → Bool) → length b.systems ≤ 64 → ((s : ℕ) → s < 64 → get_or marks s false ≡ is_marked b starred (alert_numbers b) s)
    → map (λ s. system_row (get_or b.systems s [])) (filter (λ s. get_or marks s false) (below (length b.systems))) ++ memo_rows false holds b.memos ≡ right_of b starred holds
unfolding right_of right_rows
rows-right b marks starred holds few tells =
    ap (λ xs. map (λ s. system_row (get_or b.systems s [])) xs ++ memo_rows false holds b.memos)
    (filter_told (length b.systems) (λ s. get_or marks s false) (is_marked b starred (alert_numbers b)) (λ s h. tells s (omega arith)) (below (length b.systems)) (below-below (length b.systems)))
    ∙ ap (λ rs. rs ++ memo_rows false holds b.memos) (map-twice (λ s. get_or b.systems s []) (filter (is_marked b starred (alert_numbers b)) (below (length b.systems))))

-- flags that tell which alerts are starred give the same rows
pub right-told : (b : Book) (told : List Bool) (starred : ℕ → Bool) (holds : Memo → Bool) → TellsBelow (length b.alerts) told starred → right_of b (λ a. get_or told a false) holds ≡ right_of b starred holds
unfolding right_of
right-told b told starred holds tells =
    let same : (s : ℕ) → is_marked b (λ a. get_or told a false) (alert_numbers b) s ≡ is_marked b starred (alert_numbers b) s =
    λ s. any_told (length b.alerts) (λ a. (alert_at b a).system == s && get_or told a false) (λ a. (alert_at b a).system == s && starred a)
    (λ a h. ap (λ q. (alert_at b a).system == s && q) (tells a h)) (alert_numbers b) (below-below (length b.alerts)) in
    ap (λ xs. right_rows (map (λ s. get_or b.systems s []) xs) (memo_rows false holds b.memos))
    (filter_agree (is_marked b (λ a. get_or told a false) (alert_numbers b)) (is_marked b starred (alert_numbers b)) same (below (length b.systems)))

-- rows that were added from the first on fill the zone
pub filled-right : (right : List Row) (total : ℕ) (s t : TrackedRows) → Adds 7 right 0 total s t → IsFilled 7 7 right (min total 8) s t
filled-right right total s t p = p.rows [] s (fill-none 7 7 s)

pub fills-right : (right : List Row) (total beyond : ℕ) (s t u : TrackedRows) → Adds 7 right 0 total s t → Mends 7 (zone 7 right) s u → beyond ≡ total - 7 → FillsRight right beyond s u
unfolding right_zone right_beyond
fills-right right total beyond s t u p mended e = record {
  rows = mended;
  beyond = e ∙ ap (λ n. n - 7) (p.count ∙ (let z : 0 + length right ≡ length right = omega arith in z));
}

-- the systems and then the memos are all rows of the zone
pub right-all : (b : Book) (marks : List Bool) (starred : ℕ → Bool) (holds : Memo → Bool) (names : List Text) (memos : List Memo) (n systems total : ℕ) (s t u : TrackedRows) → names ≡ b.systems → memos ≡ b.memos → n ≡ length b.systems
    → length b.systems ≤ 64 → ((s : ℕ) → s < 64 → get_or marks s false ≡ is_marked b starred (alert_numbers b) s)
    → Adds 7 (map (λ s. system_row (get_or names s [])) (filter (λ s. get_or marks s false) (below n))) 0 systems s t → Adds 7 (memo_rows false holds memos) systems total t u
    → Adds 7 (right_of b starred holds) 0 total s u
right-all b marks starred holds names memos n systems total s t u same_names same_memos many few tells first rest =
    let p : Adds 7 (map (λ x. system_row (get_or b.systems x [])) (filter (λ x. get_or marks x false) (below (length b.systems)))) 0 systems s t =
    subst (λ ns. Adds 7 (map (λ x. system_row (get_or ns x [])) (filter (λ x. get_or marks x false) (below (length b.systems)))) 0 systems s t) same_names
    (subst (λ k. Adds 7 (map (λ x. system_row (get_or names x [])) (filter (λ x. get_or marks x false) (below k))) 0 systems s t) many first) in
    let q : Adds 7 (memo_rows false holds b.memos) systems total t u = subst (λ ms. Adds 7 (memo_rows false holds ms) systems total t u) same_memos rest in
    subst (λ rs. Adds 7 rs 0 total s u) (rows-right b marks starred holds few tells)
    (adds-both 7 (map (λ x. system_row (get_or b.systems x [])) (filter (λ x. get_or marks x false) (below (length b.systems)))) (memo_rows false holds b.memos) 0 systems total s t u p q)

pub none-marked : (n s : ℕ) → get_or (replicate n false) s false ≡ false
none-marked zero s = refl
none-marked (suc n) zero = refl
none-marked (suc n) (suc s) = none-marked n s

pub fills-told : (b : Book) (told : List Bool) (starred : ℕ → Bool) (holds : Memo → Bool) (beyond : ℕ) (s t : TrackedRows) → TellsBelow (length b.alerts) told starred
    → FillsRight (right_of b (λ a. get_or told a false) holds) beyond s t → FillsRight (right_of b starred holds) beyond s t
fills-told b told starred holds beyond s t tells fills = subst (λ rs. FillsRight rs beyond s t) (right-told b told starred holds tells) fills
