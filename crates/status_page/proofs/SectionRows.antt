-- The lines of a section, one alert more; and that each line of an alert stands in exactly one of the five sections.
use Rattle.std.proofs.Common.{◌≡◌, ℕ, zero, suc, ◌+◌, ◌<◌, ◌≤◌, Bool, true, false, List, [], ◌∷◌, ◌++◌, map, length, take, get_or, cond, eqb, refl, sym, ◌∙◌, ap, subst, arith}
use Rattle.std.specs.Prelude.{filter, All, ◌==◌}
use Rattle.std.specs.List.{flat_map}
use Rattle.std.proofs.lemmas.List.{append-nil, map-append, length-append, length-map, take_more}
use Rattle.std.proofs.lemmas.List.Elements.{filter-append}
use Rattle.std.proofs.lemmas.Grind.{flat_map-append}
use Rattle.ecam_spec.specs.declared.kinds.Colour.{Colour}
use Rattle.ecam_spec.specs.declared.kinds.Colour.TheVariants.{Cyan, White, Green, Amber}
use Rattle.ecam_spec.specs.Book.{Alert, StatusLine, Book}
use Rattle.ecam_spec.specs.Situation.{alert_at}
use Rattle.ecam_spec.specs.Picture.{Row, row}
use Rattle.ecam_spec.specs.StatusPage.{sections, section_rows}
use Rattle.zone_rows.specs.Tracked.{TrackedRows}
use Rattle.status_page.specs.declared.place.Place.{Place}
use Rattle.status_page.specs.Behind.{AppendsBehind}
use Rattle.status_page.proofs.Behind.{behind-both}
use Rattle.status_page.proofs.AtPlaces.{alerts-more}

-- the lines of one alert in a section
abbrev pub own_rows : ℕ × Colour → List StatusLine → List Row
own_rows s lines = map (λ (l : StatusLine). row s.1 l.text) (filter (λ (l : StatusLine). l.section == s.0) lines)

pub section-more : (s : ℕ × Colour) (alerts : List Alert) (a : Alert) → section_rows (alerts ++ a ∷ []) s ≡ section_rows alerts s ++ own_rows s a.status
unfolding section_rows
section-more s alerts a =
    flat_map-append (λ (x : Alert). own_rows s x.status) alerts (a ∷ []) ∙ ap (λ rs. flat_map (λ (x : Alert). own_rows s x.status) alerts ++ rs) (append-nil (own_rows s a.status))

pub section-none : (s : ℕ × Colour) → section_rows [] s ≡ []
unfolding section_rows
section-none s = refl

abbrev one_if : Bool → ℕ
one_if b = cond b 1 0

-- a number below five is exactly one of the five
five : (n : ℕ) → n < 5 → one_if (eqb n 0) + (one_if (eqb n 1) + (one_if (eqb n 2) + (one_if (eqb n 3) + one_if (eqb n 4)))) ≡ 1
five zero h = refl
five (suc zero) h = refl
five (suc (suc zero)) h = refl
five (suc (suc (suc zero))) h = refl
five (suc (suc (suc (suc zero)))) h = refl
five (suc (suc (suc (suc (suc n))))) h = absurd (let w : ⊥ = omega arith in w)

-- how many lines stand in section n
abbrev in_section : ℕ → List StatusLine → ℕ
in_section n lines = length (filter (λ (l : StatusLine). l.section == n) lines)

longer : (b : Bool) (l : StatusLine) (rest : List StatusLine) → length (cond b (l ∷ rest) rest) ≡ one_if b + length rest
longer true l rest = let e : suc (length rest) ≡ 1 + length rest = omega arith in e
longer false l rest = let e : length rest ≡ 0 + length rest = omega arith in e

in_section-more : (n : ℕ) (l : StatusLine) (ls : List StatusLine) → in_section n (l ∷ ls) ≡ one_if (eqb l.section n) + in_section n ls
in_section-more n l ls = longer (eqb l.section n) l (filter (λ (x : StatusLine). x.section == n) ls)

all-sections : (lines : List StatusLine) → All (λ (l : StatusLine). l.section < 5) lines →
    in_section 0 lines + (in_section 1 lines + (in_section 2 lines + (in_section 3 lines + in_section 4 lines))) ≡ length lines
all-sections [] each = refl
all-sections (l ∷ ls) each =
    let rest = all-sections ls (λ i d h. each (suc i) d (omega arith)) in
    let own = five l.section (each 0 l (omega arith)) in
    omega (arith, in_section-more 0 l ls, in_section-more 1 l ls, in_section-more 2 l ls, in_section-more 3 l ls, in_section-more 4 l ls, rest, own)

-- how many rows the five sections have
abbrev pub section_count : List Alert → ℕ
section_count alerts = length (flat_map (section_rows alerts) sections)

five-parts : (a b c d e : List Row) → length (a ++ (b ++ (c ++ (d ++ (e ++ []))))) ≡ length a + (length b + (length c + (length d + length e)))
five-parts a b c d e =
    omega (arith, length-append a (b ++ (c ++ (d ++ (e ++ [])))), length-append b (c ++ (d ++ (e ++ []))), length-append c (d ++ (e ++ [])), length-append d (e ++ []), length-append e [])

sections-length : (f : ℕ × Colour → List Row) (a b c d e : ℕ × Colour) → length (flat_map f (a ∷ b ∷ c ∷ d ∷ e ∷ [])) ≡ length (f a) + (length (f b) + (length (f c) + (length (f d) + length (f e))))
sections-length f a b c d e = five-parts (f a) (f b) (f c) (f d) (f e)

own-length : (s : ℕ × Colour) (lines : List StatusLine) → length (own_rows s lines) ≡ in_section s.0 lines
own-length s lines = length-map (filter (λ (l : StatusLine). l.section == s.0) lines) (λ (l : StatusLine). row s.1 l.text)

section-longer : (s : ℕ × Colour) (alerts : List Alert) (a : Alert) → length (section_rows (alerts ++ a ∷ []) s) ≡ length (section_rows alerts s) + in_section s.0 a.status
section-longer s alerts a =
    ap length (section-more s alerts a) ∙ length-append (section_rows alerts s) (own_rows s a.status) ∙ ap (λ n. length (section_rows alerts s) + n) (own-length s a.status)

-- an alert more has all its lines in them
pub count-more : (alerts : List Alert) (a : Alert) → All (λ (l : StatusLine). l.section < 5) a.status → section_count (alerts ++ a ∷ []) ≡ section_count alerts + length a.status
unfolding sections
count-more alerts a each =
    let f = section_rows (alerts ++ a ∷ []) in
    let g = section_rows alerts in
    let all = all-sections a.status each in
    let new = sections-length f (0, Cyan) (1, White) (2, Cyan) (3, Green) (4, Amber) in
    let old = sections-length g (0, Cyan) (1, White) (2, Cyan) (3, Green) (4, Amber) in
    omega (arith, new, old, all, section-longer (0, Cyan) alerts a, section-longer (1, White) alerts a, section-longer (2, Cyan) alerts a, section-longer (3, Green) alerts a, section-longer (4, Amber) alerts a)

-- and takes none away, wherever its lines stand
pub count-least : (alerts : List Alert) (a : Alert) → section_count alerts ≤ section_count (alerts ++ a ∷ [])
unfolding sections
count-least alerts a =
    let new = sections-length (section_rows (alerts ++ a ∷ [])) (0, Cyan) (1, White) (2, Cyan) (3, Green) (4, Amber) in
    let old = sections-length (section_rows alerts) (0, Cyan) (1, White) (2, Cyan) (3, Green) (4, Amber) in
    omega (arith, new, old, section-longer (0, Cyan) alerts a, section-longer (1, White) alerts a, section-longer (2, Cyan) alerts a, section-longer (3, Green) alerts a, section-longer (4, Amber) alerts a)

pub count-none : section_count [] ≡ 0
unfolding sections section_rows
count-none = refl

-- one line more of an alert's
pub own-on : (s : ℕ × Colour) (lines : List StatusLine) (i : ℕ) (l : StatusLine) → i < length lines → l ≡ get_or lines i l → (p q r : Place) (x y z : TrackedRows)
    → AppendsBehind (own_rows s (take i lines)) p q x y → AppendsBehind (cond (l.section == s.0) (row s.1 l.text ∷ []) []) q r y z → AppendsBehind (own_rows s (take (i + 1) lines)) p r x z
own-on s lines i l within here p q r x y z before next =
    let taken : take (i + 1) lines ≡ take i lines ++ l ∷ [] = take_more lines i l within ∙ ap (λ k. take i lines ++ k ∷ []) (sym here) in
    let all : own_rows s (take i lines) ++ cond (l.section == s.0) (row s.1 l.text ∷ []) [] ≡ own_rows s (take (i + 1) lines)
    = sym (ap (own_rows s) taken
    ∙ ap (map (λ (k : StatusLine). row s.1 k.text)) (filter-append (λ (k : StatusLine). k.section == s.0) (take i lines) (l ∷ []))
    ∙ map-append (λ (k : StatusLine). row s.1 k.text) (filter (λ (k : StatusLine). k.section == s.0) (take i lines)) (cond (l.section == s.0) (l ∷ []) [])
    ∙ ap (λ rs. own_rows s (take i lines) ++ rs) (one-line (l.section == s.0))) in
    subst (λ rs. AppendsBehind rs p r x z) all (behind-both (own_rows s (take i lines)) (cond (l.section == s.0) (row s.1 l.text ∷ []) []) p q r x y z before next)
  where
    one-line : (b : Bool) → map (λ (k : StatusLine). row s.1 k.text) (cond b (l ∷ []) []) ≡ cond b (row s.1 l.text ∷ []) []
    one-line true = refl
    one-line false = refl

-- one alert more of a section
pub section-on : (b : Book) (places : List ℕ) (i : ℕ) → i < length places → (s : ℕ × Colour) (lines : List StatusLine) → (alert_at b (get_or places i 0)).status ≡ lines
    → (p q r : Place) (x y z : TrackedRows) → AppendsBehind (section_rows (map (alert_at b) (take i places)) s) p q x y → AppendsBehind (own_rows s lines) q r y z
    → AppendsBehind (section_rows (map (alert_at b) (take (i + 1) places)) s) p r x z
section-on b places i within s lines same p q r x y z before next =
    let all : section_rows (map (alert_at b) (take i places)) s ++ own_rows s lines ≡ section_rows (map (alert_at b) (take (i + 1) places)) s
    = ap (λ ls. section_rows (map (alert_at b) (take i places)) s ++ own_rows s ls) (sym same)
    ∙ sym (section-more s (map (alert_at b) (take i places)) (alert_at b (get_or places i 0))) ∙ ap (λ xs. section_rows xs s) (sym (alerts-more b places i within)) in
    subst (λ rs. AppendsBehind rs p r x z) all (behind-both (section_rows (map (alert_at b) (take i places)) s) (own_rows s lines) p q r x y z before next)
