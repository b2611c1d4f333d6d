-- The picture of a moment depends on the moments up to it alone; and not on which computers are up, where the book
-- doesn't ask.
use Rattle.std.proofs.Common.{◌≡◌, ℕ, zero, suc, ◌+◌, ◌≤◌, Bool, true, false, not, ◌&&◌, ◌==◌, ◌⊎◌, inl, inr, List, [], ◌∷◌, ◌++◌, map, length, get_or, Option, Some, None, ℤ, refl, ◌∙◌, ap, cond, arith}
use Rattle.std.specs.Prelude.{filter, find, flat_map, slice_get, option_and_then}
use Rattle.std.specs.List.{list_any}
use Rattle.std.specs.Option.{option_or}
use Rattle.std.proofs.lemmas.List.Elements.{filter_agree}
use Rattle.ecam_spec.specs.declared.kinds.Key.TheVariants.{Clr, Sts, All, Emer, Page}
use Rattle.ecam_spec.specs.declared.kinds.Colour.TheVariants.{White}
use Rattle.ecam_spec.specs.declared.kinds.Sound.{Sound}
use Rattle.ecam_spec.specs.declared.kinds.Choice.{Choice}
use Rattle.ecam_spec.specs.declared.kinds.Choice.TheVariants.{Auto, Page as PageChoice, Status}
use Rattle.ecam_spec.specs.Places.{below, first_place, first_in}
use Rattle.ecam_spec.specs.Book.{Tree, Line, Memo, PageRow, Page as BookPage, Book}
use Rattle.ecam_spec.specs.Computers.{names_computer}
use Rattle.ecam_spec.specs.Term.{holds, in_set}
use Rattle.ecam_spec.specs.History.{Moment}
use Rattle.ecam_spec.specs.Keys.{pressed}
use Rattle.ecam_spec.specs.Picture.{Row, row, Picture, zone}
use Rattle.ecam_spec.specs.Crew.{normal}
use Rattle.ecam_spec.specs.LeftZone.{LeftRow, title_colour, plain, alert_rows, left_rows, left_zone, has_more, overflow}
use Rattle.ecam_spec.specs.RightZone.{right_rows, right_zone, right_beyond}
use Rattle.ecam_spec.specs.StatusPage.{status_rows, status_page, flags, flags_row}
use Rattle.ecam_spec.specs.Selection.{choice}
use Rattle.ecam_spec.specs.SystemDisplay.{shown_value, page_row, page_rows, called_page, display_rows}
use Rattle.ecam_spec.specs.Lamps.{warns, cautions, sound}
use Rattle.ecam_spec.specs.LampRows.{lamp_rows}
use Rattle.ecam_spec.specs.Situation.{alert_at, strokes_in, value_in, phase_in, world, active_in, starred_in}
use Rattle.ecam_spec.specs.Screen.{alert_numbers, cockpit, shown_in, cancelled_in, target_in, attention, panel, targets_caution, line_stands, memo_rows, left_in, starred_systems, right_in, status_in, display, picture_in}
use Rattle.ecam_spec.proofs.ComputerNames.{asks, line-asks, left-part, right-part, free-lines, free-memos}
use Rattle.ecam_spec.proofs.SituationAgree.{SameUpTo, SameComputers, flags-computers, values-same, pressed-same, phase-same, active-same, starred-same, world-same, any-agree}
use Rattle.ecam_spec.proofs.ScreenAgree.{held-same, shown_in-same, cancelled_in-same, target_in-same, normal_in-same, warns-same, cautions-same, sound-same}
use Rattle.ecam_spec.proofs.SelectionAgree.{SamePanel, choice-same}

-- a filter by tests that agree where they have to
filter-where : {X U : Type 0} (bad p q : X → Bool) (xs : List X) → (list_any bad xs ≡ false) ⊎ U → ((x : X) → (bad x ≡ false) ⊎ U → p x ≡ q x) → filter p xs ≡ filter q xs
filter-where bad p q [] free same = refl
filter-where bad p q (x ∷ xs) free same =
    ap (λ b. cond b (x ∷ filter p xs) (filter p xs)) (same x (left-part (bad x) (list_any bad xs) free))
    ∙ ap (λ ys. cond (q x) (x ∷ ys) ys) (filter-where bad p q xs (right-part (bad x) (list_any bad xs) free) same)

flat_map-agree : {Y : Type 0} (f g : ℕ → List Y) (xs : List ℕ) → ((a : ℕ) → f a ≡ g a) → flat_map f xs ≡ flat_map g xs
flat_map-agree f g [] same = refl
flat_map-agree f g (x ∷ xs) same = ap (λ ys. ys ++ flat_map f xs) (same x) ∙ ap (λ ys. g x ++ ys) (flat_map-agree f g xs same)

first_place-agree : (p q : ℕ → Bool) (n : ℕ) → ((i : ℕ) → p i ≡ q i) → first_place p n ≡ first_place q n
unfolding first_place
first_place-agree p q zero same = refl
first_place-agree p q (suc n) same =
    ap (λ o. option_or o (elim (p n) [ true ↦ Some n | false ↦ None ])) (first_place-agree p q n same)
    ∙ ap (λ b. option_or (first_place q n) (elim b [ true ↦ Some n | false ↦ None ])) (same n)

map-agree : {X Y : Type 0} (f g : X → Y) (xs : List X) → ((x : X) → f x ≡ g x) → map f xs ≡ map g xs
map-agree f g [] same = refl
map-agree f g (x ∷ xs) same = ap (λ y. y ∷ map f xs) (same x) ∙ ap (λ ys. g x ∷ ys) (map-agree f g xs same)

-- what a picture is put together of
picture-of : List LeftRow → List Row → List Row → List Row → Bool → Bool → Sound → Picture
picture-of left right status rows warn caution sounds =
    left_zone left ++ right_zone right ++ flags_row (flags (has_more left) (overflow left) (right_beyond right) status) ∷ []
    ++ rows ++ lamp_rows warn caution sounds

module _ (b : Book) (m n : ℕ → Moment) (k : ℕ) (s : SameUpTo b m n k) where
  -- in each moment up to now the same computers are up
  abbrev SameAll : ℕ → Type 0
  SameAll i = (j : ℕ) → j ≤ i → SameComputers b m n k s j

  all-of : {A : Type 0} (i : ℕ) → i ≤ k → A ⊎ ((j : ℕ) → j ≤ k → (m j).flags ≡ (n j).flags) → A ⊎ SameAll i
  all-of i h (inl a) = inl a
  all-of i h (inr f) = inr (λ j l. flags-computers b m n k s j (f j (omega arith)))

  all-computers : (i : ℕ) → i ≤ k → (names_computer b ≡ false) ⊎ SameAll i
  all-computers i h = all-of i h s.flags

  spread : {A : Type 0} (i : ℕ) → A ⊎ SameAll i → (j : ℕ) → j ≤ i → A ⊎ SameComputers b m n k s j
  spread i (inl a) j l = inl a
  spread i (inr f) j l = inr (f j l)

  holds-at : (c : Tree) (i : ℕ) → i ≤ k → (asks c ≡ false) ⊎ SameAll i → holds (world b m) c i ≡ holds (world b n) c i
  holds-at c i h free = world-same b m n k s c i h (spread i free)

  -- the left zone
  line-same : (i : ℕ) → i ≤ k → (l : Line) → (line-asks l ≡ false) ⊎ SameAll i → line_stands b m i l ≡ line_stands b n i l
  unfolding line_stands
  line-same i h l free =
      ap (λ x. x && not (holds (world b m) l.done i)) (holds-at l.when i h (left-part (asks l.when) (asks l.done) free))
      ∙ ap (λ x. holds (world b n) l.when i && not x) (holds-at l.done i h (right-part (asks l.when) (asks l.done) free))

  rows-same : (i : ℕ) → i ≤ k → (a : ℕ) → alert_rows (line_stands b m i) a (alert_at b a) ≡ alert_rows (line_stands b n i) a (alert_at b a)
  unfolding alert_rows
  rows-same i h a =
      ap (λ ls. record { row = row (title_colour (alert_at b a).level) (alert_at b a).title; title_of = Some a } ∷ map (λ (l : Line). plain (row l.colour l.text)) ls)
      (filter-where line-asks (line_stands b m i) (line_stands b n i) (alert_at b a).lines (free-lines b (all-computers i h) a) (line-same i h))

  memos-same : (z : Memo → Bool) (i : ℕ) → i ≤ k → memo_rows b m z i ≡ memo_rows b n z i
  unfolding memo_rows
  memos-same z i h =
      ap (map (λ (x : Memo). row x.colour x.text))
      (filter-where (λ (x : Memo). asks x.when) (λ (x : Memo). z x && holds (world b m) x.when i) (λ (x : Memo). z x && holds (world b n) x.when i) b.memos
      (free-memos b (all-computers i h)) (λ x free. ap (λ y. z x && y) (holds-at x.when i h free)))

  pub left-same : (i : ℕ) → i ≤ k → left_in b m i ≡ left_in b n i
  unfolding left_in
  left-same i h =
      ap (λ xs. left_rows (flat_map (λ a. alert_rows (line_stands b m i) a (alert_at b a)) xs) (normal (cockpit b m) i) (memo_rows b m (λ (x : Memo). x.left) i)) (shown_in-same b m n k s i h)
      ∙ ap (λ rs. left_rows rs (normal (cockpit b m) i) (memo_rows b m (λ (x : Memo). x.left) i))
      (flat_map-agree (λ a. alert_rows (line_stands b m i) a (alert_at b a)) (λ a. alert_rows (line_stands b n i) a (alert_at b a)) (shown_in b n i) (rows-same i h))
      ∙ ap (λ x. left_rows (flat_map (λ a. alert_rows (line_stands b n i) a (alert_at b a)) (shown_in b n i)) x (memo_rows b m (λ (y : Memo). y.left) i)) (normal_in-same b m n k s i h)
      ∙ ap (left_rows (flat_map (λ a. alert_rows (line_stands b n i) a (alert_at b a)) (shown_in b n i)) (normal (cockpit b n) i)) (memos-same (λ (y : Memo). y.left) i h)

  -- the right zone
  right-same : (i : ℕ) → i ≤ k → right_in b m i ≡ right_in b n i
  unfolding right_in starred_systems
  right-same i h =
      ap (λ ss. right_rows (map (λ x. get_or b.systems x []) ss) (memo_rows b m (λ (x : Memo). not x.left) i))
      (filter_agree (λ x. list_any (λ a. (alert_at b a).system == x && starred_in b m a i) (alert_numbers b)) (λ x. list_any (λ a. (alert_at b a).system == x && starred_in b n a i) (alert_numbers b))
      (λ x. any-agree (λ a. (alert_at b a).system == x && starred_in b m a i) (λ a. (alert_at b a).system == x && starred_in b n a i) (alert_numbers b)
      (λ a. ap (λ y. (alert_at b a).system == x && y) (starred-same b m n k s a i h))) (below (length b.systems)))
      ∙ ap (right_rows (starred_systems b n i)) (memos-same (λ (x : Memo). not x.left) i h)

  -- the status page
  status-same : (i : ℕ) → i ≤ k → status_in b m i ≡ status_in b n i
  unfolding status_in
  status-same i h =
      ap (λ as'. status_rows (map (alert_at b) as') (map (alert_at b) (filter (λ a. cancelled_in b m a i) as')))
      (filter_agree (λ a. active_in b m a i) (λ a. active_in b n a i) (λ a. active-same b m n k s a i h) (alert_numbers b))
      ∙ ap (λ as'. status_rows (map (alert_at b) (filter (λ a. active_in b n a i) (alert_numbers b))) (map (alert_at b) as'))
      (filter_agree (λ a. cancelled_in b m a i) (λ a. cancelled_in b n a i) (λ a. cancelled_in-same b m n k s a i h) (filter (λ a. active_in b n a i) (alert_numbers b)))

  -- the pages
  value-row-same : (r : PageRow) (p : ℕ) (o : Option ℤ) (i : ℕ) → shown_value (display b m i) r p o ≡ shown_value (display b n i) r p o
  unfolding shown_value display
  value-row-same r p None i = refl
  value-row-same r p (Some z) i = refl

  row-same : (i : ℕ) → i ≤ k → (r : PageRow) (o : Option ℕ) → page_row (display b m i) r o ≡ page_row (display b n i) r o
  unfolding page_row display
  row-same i h r None = refl
  row-same i h r (Some p) = ap (shown_value (display b m i) r p) (values-same b m n k s p i h) ∙ value-row-same r p (value_in b n p i) i

  page-same : (i : ℕ) → i ≤ k → (o : Option BookPage) → page_rows (display b m i) o ≡ page_rows (display b n i) o
  unfolding page_rows
  page-same i h None = refl
  page-same i h (Some p) =
      ap (λ rs. zone 18 (row White p.title ∷ rs))
      (map-agree (λ (r : PageRow). page_row (display b m i) r r.show) (λ (r : PageRow). page_row (display b n i) r r.show) p.rows (λ r. row-same i h r r.show))

  called-same : (i : ℕ) → i ≤ k → called_page (display b m i) ≡ called_page (display b n i)
  unfolding called_page display
  called-same i h =
      ap (λ xs. option_or (option_and_then (slice_get b.pages) (option_and_then (λ a. (alert_at b a).page) (first_in xs))) (find (λ (p : BookPage). in_set p.phases (phase_in b m i)) b.pages)) (shown_in-same b m n k s i h)
      ∙ ap (λ x. option_or (option_and_then (slice_get b.pages) (option_and_then (λ a. (alert_at b a).page) (first_in (shown_in b n i)))) (find (λ (p : BookPage). in_set p.phases x) b.pages)) (phase-same b m n k s i h)

  display-same : (i : ℕ) → i ≤ k → (c : Choice) → display_rows (display b m i) c ≡ display_rows (display b n i) c
  unfolding display_rows display
  display-same i h Auto = ap (page_rows (display b m i)) (called-same i h) ∙ page-same i h (called_page (display b n i))
  display-same i h (PageChoice x) = page-same i h (slice_get b.pages x)
  display-same i h (Status q) = ap (status_page q) (status-same i h)

  panel-same : SamePanel (panel b m) (panel b n) k
  unfolding panel
  panel-same =
      record {
        pages = refl;
        all_held = held-same (strokes_in b m) (strokes_in b n) k s.strokes All;
        page_called = λ i h. first_place-agree (λ x. pressed (strokes_in b m) (Page (x + 1)) i) (λ x. pressed (strokes_in b n) (Page (x + 1)) i) (length b.pages) (λ x. pressed-same b m n k s (Page (x + 1)) i h);
        sts = pressed-same b m n k s Sts;
        clr = pressed-same b m n k s Clr;
        cancels = λ i h.
            ap (λ x. x && targets_caution b m (target_in b m i)) (pressed-same b m n k s Emer i h)
            ∙ ap (λ t. pressed (strokes_in b n) Emer i && targets_caution b n t) (target_in-same b m n k s i h);
      }

  -- the whole picture
  pub picture-same : (i : ℕ) → i ≤ k → picture_in b m i ≡ picture_in b n i
  unfolding picture_in picture-of
  picture-same i h =
      ap (λ x. picture-of x (right_in b m i) (status_in b m i) (display_rows (display b m i) (choice (panel b m) i)) (warns (attention b m) i) (cautions (attention b m) i) (sound (attention b m) i)) (left-same i h)
      ∙ ap (λ x. picture-of (left_in b n i) x (status_in b m i) (display_rows (display b m i) (choice (panel b m) i)) (warns (attention b m) i) (cautions (attention b m) i) (sound (attention b m) i)) (right-same i h)
      ∙ ap (λ x. picture-of (left_in b n i) (right_in b n i) x (display_rows (display b m i) (choice (panel b m) i)) (warns (attention b m) i) (cautions (attention b m) i) (sound (attention b m) i)) (status-same i h)
      ∙ ap (λ x. picture-of (left_in b n i) (right_in b n i) (status_in b n i) x (warns (attention b m) i) (cautions (attention b m) i) (sound (attention b m) i))
      (ap (display_rows (display b m i)) (choice-same (panel b m) (panel b n) k panel-same i h) ∙ display-same i h (choice (panel b n) i))
      ∙ ap (λ x. picture-of (left_in b n i) (right_in b n i) (status_in b n i) (display_rows (display b n i) (choice (panel b n) i)) x (cautions (attention b m) i) (sound (attention b m) i)) (warns-same b m n k s i h)
      ∙ ap (λ x. picture-of (left_in b n i) (right_in b n i) (status_in b n i) (display_rows (display b n i) (choice (panel b n) i)) (warns (attention b n) i) x (sound (attention b m) i)) (cautions-same b m n k s i h)
      ∙ ap (λ x. picture-of (left_in b n i) (right_in b n i) (status_in b n i) (display_rows (display b n i) (choice (panel b n) i)) (warns (attention b n) i) (cautions (attention b n) i) x) (sound-same b m n k s i h)

-- moments that are the same up to now give the same picture now
pub picture_causal : (b : Book) (m n : ℕ → Moment) (k : ℕ) → ((i : ℕ) → i ≤ k → m i ≡ n i) → picture_in b m k ≡ picture_in b n k
picture_causal b m n k same =
    picture-same b m n k
    (record {
      words = λ i h. ap (λ (x : Moment). x.words) (same i h);
      strokes = λ i h. ap (λ (x : Moment). x.strokes) (same i h);
      flags = inr (λ i h. ap (λ (x : Moment). x.flags) (same i h));
    })
    k (omega arith)
