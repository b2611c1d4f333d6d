-- The rows of a picture are proper: each text that a sound book brings into one has a byte, and a colour.
use Rattle.std.proofs.Common.{◌≡◌, ◌≢◌, ℕ, zero, suc, ◌-◌, ◌≤◌, ◌==◌, Bool, true, false, List, [], ◌∷◌, ◌++◌, map, length, filter, replicate, get_or, slice_get, Option, Some, None, All, refl, ap, cond, arith, length-append, ℤ}
use Rattle.std.specs.Prelude.{IfSome, find, codes, decimal, nat_lt, if◌then◌else◌}
use Rattle.std.specs.List.{flat_map, join_by}
use Rattle.std.specs.Option.{option_or, option_and_then}
use Rattle.std.proofs.lemmas.Bool.{leb-true, and_parts}
use Rattle.std.proofs.lemmas.List.Elements.{All-nil, All-cons, All-head, All-tail, All-append, All-map, All-filter, All-take, All-drop, All-replicate, All-weaker}
use Rattle.ecam_spec.specs.declared.kinds.Colour.{Colour}
use Rattle.ecam_spec.specs.declared.kinds.Colour.TheVariants.{Red, Amber, Green, White, Cyan, Blank}
use Rattle.ecam_spec.specs.declared.kinds.Level.{Level}
use Rattle.ecam_spec.specs.declared.kinds.Level.TheVariants.{One, Two, Three}
use Rattle.ecam_spec.specs.declared.kinds.Choice.{Choice}
use Rattle.ecam_spec.specs.declared.kinds.Choice.TheVariants.{Auto, Page as PageChoice, Status}
use Rattle.ecam_spec.specs.declared.kinds.Sound.{Sound}
use Rattle.ecam_spec.specs.declared.kinds.Sound.TheVariants.{Quiet, Chime, Repetitive, Cavalry, Cricket}
use Rattle.ecam_spec.specs.BookText.{is_text}
use Rattle.ecam_spec.specs.Book.{Text, Line, StatusLine, Alert, Memo, Page, PageRow}
use Rattle.ecam_spec.specs.Picture.{Row, row, blank_row, zone}
use Rattle.ecam_spec.specs.ProperRows.{IsProper}
use Rattle.ecam_spec.specs.LeftZone.{LeftRow, plain, title_colour, alert_rows, left_rows, left_zone}
use Rattle.ecam_spec.specs.RightZone.{right_rows, right_zone}
use Rattle.ecam_spec.specs.StatusPage.{sections, section_rows, cancelled_rows, status_rows, status_page, flags, flags_row}
use Rattle.ecam_spec.specs.SystemDisplay.{Display, filled, filled_before, unit_text, value_text, value_row, shown_value, page_row, page_rows, called_page, display_rows}
use Rattle.ecam_spec.specs.LampRows.{sound_row, lamp_rows}

-- a row of a colour with a text that has a byte, and a blank one
pub proper-text : (c : Colour) (t : Text) → c ≢ Blank → 1 ≤ length t → IsProper (row c t)
proper-text c t shown some = record { empty = λ e. absurd (shown e); blank = λ e. absurd (let none : length t ≡ 0 = ap length e in let w : ⊥ = omega arith in w) }

pub proper-blank : IsProper blank_row
proper-blank = record { empty = λ e. refl; blank = λ e. refl }

-- a text of a book has a byte
pub text-some : (n : ℕ) (t : Text) → is_text n t ≡ true → 1 ≤ length t
unfolding is_text
text-some n t is = leb-true 1 (length t) ((and_parts _ _ ((and_parts _ _ is).0)).0)

-- what is so of the pieces is so of their join
pub All-flat : {X Y : Type 0} (Q : X → Type 0) (P : Y → Type 0) (f : X → List Y) → ((x : X) → Q x → All P (f x)) → (xs : List X) → All Q xs → All P (flat_map f xs)
All-flat Q P f each [] all = All-nil P
All-flat Q P f each (x ∷ xs) all = All-append P (f x) (flat_map f xs) (each x (All-head Q x xs all)) (All-flat Q P f each xs (All-tail Q x xs all))

pub zone-proper : (n : ℕ) (rows : List Row) → All IsProper rows → All IsProper (zone n rows)
unfolding zone
zone-proper n rows all = All-take IsProper n (rows ++ replicate n blank_row) (All-append IsProper rows (replicate n blank_row) all (All-replicate IsProper n blank_row proper-blank))

-- what a sound book brings into pictures
pub record IsShownAlert (a : Alert) : Type 0 where
  pub title : 1 ≤ length a.title
  pub lines : All (λ (l : Line). IsProper (row l.colour l.text)) a.lines
  pub status : All (λ (s : StatusLine). 1 ≤ length s.text) a.status

abbrev pub IsShownMemo : Memo → Type 0
IsShownMemo m = IsProper (row m.colour m.text)

pub record IsShownRow (r : PageRow) : Type 0 where
  pub text : 1 ≤ length r.text
  pub colour : r.colour ≢ Blank

pub record IsShownPage (p : Page) : Type 0 where
  pub title : 1 ≤ length p.title
  pub rows : All IsShownRow p.rows

-- ---- the left zone

abbrev IsLeft : LeftRow → Type 0
IsLeft r = IsProper r.row

title-shown : (l : Level) → title_colour l ≢ Blank
title-shown One = λ e. cc
title-shown Two = λ e. cc
title-shown Three = λ e. cc

alert-left : (stands : Line → Bool) (a : ℕ) (alert : Alert) → IsShownAlert alert → All IsLeft (alert_rows stands a alert)
unfolding alert_rows
alert-left stands a alert shown =
    let title : LeftRow = record { row = row (title_colour alert.level) alert.title; title_of = Some a } in
    let as_row : (Line → LeftRow) = λ l. plain (row l.colour l.text) in
    let is_line = λ (l : Line). IsProper (row l.colour l.text) in
    All-cons IsLeft title (map as_row (filter stands alert.lines))
    (proper-text (title_colour alert.level) alert.title (title-shown alert.level) shown.title)
    (All-map IsLeft as_row (filter stands alert.lines) (All-filter stands is_line alert.lines shown.lines))

left-of : (rows : List LeftRow) (normal : Bool) (memos : List Row) → All IsLeft rows → All IsProper memos → All IsLeft (left_rows rows normal memos)
unfolding left_rows
left-of [] true memos all those = All-cons IsLeft (plain (row Green (codes "NORMAL"))) [] (proper-text Green (codes "NORMAL") (λ e. cc) (omega arith)) (All-nil IsLeft)
left-of [] false memos all those = All-map IsLeft plain memos those
left-of (r ∷ rows) normal memos all those = all

pub left-proper : (stands : Line → Bool) (alerts : ℕ → Alert) (shown : List ℕ) (normal : Bool) (memos : List Row) → All (λ a. IsShownAlert (alerts a)) shown → All IsProper memos
    → All IsProper (left_zone (left_rows (flat_map (λ a. alert_rows stands a (alerts a)) shown) normal memos))
unfolding left_zone
left-proper stands alerts shown normal memos all those =
    let rows = left_rows (flat_map (λ a. alert_rows stands a (alerts a)) shown) normal memos in
    zone-proper 7 (map (λ (r : LeftRow). r.row) rows)
    (All-map IsProper (λ (r : LeftRow). r.row) rows
    (left-of (flat_map (λ a. alert_rows stands a (alerts a)) shown) normal memos
    (All-flat (λ a. IsShownAlert (alerts a)) IsLeft (λ a. alert_rows stands a (alerts a)) (λ a is. alert-left stands a (alerts a) is) shown all) those))

-- ---- the right zone

pub right-proper : (systems : List Text) (memos : List Row) → All IsProper memos → All IsProper (right_zone (right_rows systems memos))
unfolding right_zone right_rows
right-proper systems memos those =
    zone-proper 7 (map (λ s. row Amber (42 ∷ s)) systems ++ memos)
    (All-append IsProper (map (λ s. row Amber (42 ∷ s)) systems) memos
    (All-map IsProper (λ s. row Amber (42 ∷ s)) systems (λ i e h. proper-text Amber (42 ∷ get_or systems i e) (λ e. cc) (omega arith))) those)

-- ---- the status page

section-proper : (alerts : List Alert) (s : ℕ × Colour) → s.1 ≢ Blank → All IsShownAlert alerts → All IsProper (section_rows alerts s)
unfolding section_rows
section-proper alerts s shown all =
    All-flat IsShownAlert IsProper (λ (a : Alert). map (λ (l : StatusLine). row s.1 l.text) (filter (λ (l : StatusLine). l.section == s.0) a.status))
    (λ a is.
    All-map IsProper (λ (l : StatusLine). row s.1 l.text) (filter (λ (l : StatusLine). l.section == s.0) a.status)
    (All-filter (λ (l : StatusLine). l.section == s.0) (λ (l : StatusLine). IsProper (row s.1 l.text)) a.status
    (All-weaker (λ (l : StatusLine). 1 ≤ length l.text) (λ (l : StatusLine). IsProper (row s.1 l.text)) (λ l some. proper-text s.1 l.text shown some) a.status is.status)))
    alerts all

cancelled-proper : (alerts : List Alert) → All IsShownAlert alerts → All IsProper (cancelled_rows alerts)
unfolding cancelled_rows
cancelled-proper [] all = All-nil IsProper
cancelled-proper (a ∷ as') all =
    All-cons IsProper (row White (codes "CANCELLED CAUTION")) (map (λ (b : Alert). row Amber b.title) (a ∷ as'))
    (proper-text White (codes "CANCELLED CAUTION") (λ e. cc) (omega arith))
    (All-map IsProper (λ (b : Alert). row Amber b.title) (a ∷ as')
    (All-weaker IsShownAlert (λ (b : Alert). IsProper (row Amber b.title)) (λ b is. proper-text Amber b.title (λ e. cc) is.title) (a ∷ as') all))

sections-shown : All (λ s. s.1 ≢ Blank) sections
unfolding sections
sections-shown =
    let shown = λ (s : ℕ × Colour). s.1 ≢ Blank in
    All-cons shown (0, Cyan) ((1, White) ∷ (2, Cyan) ∷ (3, Green) ∷ (4, Amber) ∷ []) (λ e. cc)
    (All-cons shown (1, White) ((2, Cyan) ∷ (3, Green) ∷ (4, Amber) ∷ []) (λ e. cc)
    (All-cons shown (2, Cyan) ((3, Green) ∷ (4, Amber) ∷ []) (λ e. cc)
    (All-cons shown (3, Green) ((4, Amber) ∷ []) (λ e. cc)
    (All-cons shown (4, Amber) [] (λ e. cc) (All-nil shown)))))

pub status-proper : (active cancelled : List Alert) → All IsShownAlert active → All IsShownAlert cancelled → All IsProper (status_rows active cancelled)
unfolding status_rows
status-proper active cancelled all those =
    All-append IsProper (flat_map (section_rows active) sections) (cancelled_rows cancelled)
    (All-flat (λ s. s.1 ≢ Blank) IsProper (section_rows active) (λ s is. section-proper active s is all) sections
    sections-shown)
    (cancelled-proper cancelled those)

status-page-proper : (q : ℕ) (rows : List Row) → All IsProper rows → All IsProper (status_page q rows)
unfolding status_page
status-page-proper q [] all = zone-proper 18 (row Green (codes "NORMAL") ∷ []) (All-cons IsProper (row Green (codes "NORMAL")) [] (proper-text Green (codes "NORMAL") (λ e. cc) (omega arith)) (All-nil IsProper))
status-page-proper q (r ∷ rows) all = zone-proper 18 _ (All-drop IsProper _ (r ∷ rows) all)

-- ---- the system display

value-proper : (text : Text) (unit : Option Text) (c : Colour) (value : Text) → 1 ≤ length text → c ≢ Blank → IsProper (value_row text unit c value)
unfolding value_row
value-proper text unit c value some shown =
    proper-text c (filled 24 text ++ filled_before 8 value ++ unit_text unit) shown
    (omega (arith, length-append (filled 24 text ++ filled_before 8 value) (unit_text unit), length-append (filled 24 text) (filled_before 8 value), length-append text (replicate (24 - length text) 32)))

module _ (d : Display) where
  shown-proper : (r : PageRow) (p : ℕ) (v : Option ℤ) → IsShownRow r → IsProper (shown_value d r p v)
  unfolding shown_value
  shown-proper r p None is = value-proper r.text r.unit Amber (codes "XX") is.text (λ e. cc)
  shown-proper r p (Some z) is = value-proper r.text r.unit Green (value_text (d.kinds p) z) is.text (λ e. cc)

  row-proper : (r : PageRow) (o : Option ℕ) → IsShownRow r → IsProper (page_row d r o)
  unfolding page_row
  row-proper r None is = proper-text r.colour r.text is.colour is.text
  row-proper r (Some p) is = shown-proper r p (d.values p) is

  page-proper : (o : Option Page) → IfSome o IsShownPage → All IsProper (page_rows d o)
  unfolding page_rows
  page-proper None is = zone-proper 18 [] (All-nil IsProper)
  page-proper (Some p) is =
      zone-proper 18 (row White p.title ∷ map (λ (r : PageRow). page_row d r r.show) p.rows)
      (All-cons IsProper (row White p.title) (map (λ (r : PageRow). page_row d r r.show) p.rows) (proper-text White p.title (λ e. cc) is.title)
      (All-map IsProper (λ (r : PageRow). page_row d r r.show) p.rows
      (All-weaker IsShownRow (λ (r : PageRow). IsProper (page_row d r r.show)) (λ r one. row-proper r r.show one) p.rows is.rows)))

  -- the page that is shown is one of the book's
  get-shown : (pages : List Page) (i : ℕ) → All IsShownPage pages → IfSome (slice_get pages i) IsShownPage
  get-shown [] i all = tt
  get-shown (p ∷ pages) zero all = All-head IsShownPage p pages all
  get-shown (p ∷ pages) (suc i) all = get-shown pages i (All-tail IsShownPage p pages all)

  then-shown : (pages : List Page) (o : Option ℕ) → All IsShownPage pages → IfSome (option_and_then (slice_get pages) o) IsShownPage
  then-shown pages None all = tt
  then-shown pages (Some i) all = get-shown pages i all

  find-shown : (test : Page → Bool) (pages : List Page) → All IsShownPage pages → IfSome (find test pages) IsShownPage
  find-shown test [] all = tt
  find-shown test (p ∷ pages) all =
      elim (test p) as (λ b. IfSome (cond b (Some p) (find test pages)) IsShownPage) [
        | true ↦ All-head IsShownPage p pages all
        | false ↦ find-shown test pages (All-tail IsShownPage p pages all)
      ]

  or-shown : (o p : Option Page) → IfSome o IsShownPage → IfSome p IsShownPage → IfSome (option_or o p) IsShownPage
  or-shown None p is other = other
  or-shown (Some x) p is other = is

  pub display-proper : (c : Choice) → All IsShownPage d.pages → All IsProper d.status → All IsProper (display_rows d c)
  unfolding display_rows called_page
  display-proper Auto all status =
      page-proper (called_page d) (or-shown (option_and_then (slice_get d.pages) d.alert_page) (find _ d.pages) (then-shown d.pages d.alert_page all) (find-shown _ d.pages all))
  display-proper (PageChoice i) all status = page-proper (slice_get d.pages i) (get-shown d.pages i all)
  display-proper (Status q) all status = status-page-proper q d.status status

-- ---- the flags and the lamps

flags-some : (fs : List Text) → All (λ t. 1 ≤ length t) fs → IsProper (flags_row fs)
unfolding flags_row
flags-some [] all = proper-blank
flags-some (f ∷ fs) all =
    proper-text White (join_by (λ t. t) (codes " ") (f ∷ fs)) (λ e. cc)
    (omega (arith, length-append f (flat_map (λ y. codes " " ++ y) fs), All-head (λ t. 1 ≤ length t) f fs all))

pub flags-proper : (more : Bool) (titles right : ℕ) (status : List Row) → IsProper (flags_row (flags more titles right status))
unfolding flags
flags-proper more titles right status =
    let some = λ (t : Text). 1 ≤ length t in
    let one = λ (b : Bool) (t : Text) (h : 1 ≤ length t). one-flag b t h in
    flags-some (flags more titles right status)
    (All-append some _ _ (All-append some _ _ (All-append some _ _ (one more (codes "v") (omega arith)) (one (nat_lt 0 titles) (codes "OVF " ++ decimal titles) (omega (arith, length-append (codes "OVF ") (decimal titles)))))
    (one (nat_lt 0 right) (codes "RGT " ++ decimal right) (omega (arith, length-append (codes "RGT ") (decimal right)))))
    (one (nat_lt 0 (length status)) (codes "STS") (omega arith)))
  where
    one-flag : (b : Bool) (t : Text) → 1 ≤ length t → All (λ (x : Text). 1 ≤ length x) (if b then t ∷ [] else [])
    one-flag true t h = All-cons (λ (x : Text). 1 ≤ length x) t [] h (All-nil (λ (x : Text). 1 ≤ length x))
    one-flag false t h = All-nil (λ (x : Text). 1 ≤ length x)

light-proper : (b : Bool) (c : Colour) (t : Text) → c ≢ Blank → 1 ≤ length t → IsProper (if b then row c t else blank_row)
light-proper true c t shown some = proper-text c t shown some
light-proper false c t shown some = proper-blank

sound-proper : (s : Sound) → IsProper (sound_row s)
sound-proper Quiet = proper-blank
sound-proper Chime = proper-text White (codes "SC") (λ e. cc) (omega arith)
sound-proper Repetitive = proper-text White (codes "CRC") (λ e. cc) (omega arith)
sound-proper Cavalry = proper-text White (codes "CAV") (λ e. cc) (omega arith)
sound-proper Cricket = proper-text White (codes "CRI") (λ e. cc) (omega arith)

pub lamps-proper : (warns cautions : Bool) (sound : Sound) → All IsProper (lamp_rows warns cautions sound)
unfolding lamp_rows
lamps-proper warns cautions sound =
    All-cons IsProper (if warns then row Red (codes "MASTER WARN") else blank_row) ((if cautions then row Amber (codes "MASTER CAUT") else blank_row) ∷ sound_row sound ∷ []) (light-proper warns Red (codes "MASTER WARN") (λ e. cc) (omega arith))
    (All-cons IsProper (if cautions then row Amber (codes "MASTER CAUT") else blank_row) (sound_row sound ∷ []) (light-proper cautions Amber (codes "MASTER CAUT") (λ e. cc) (omega arith))
    (All-cons IsProper (sound_row sound) [] (sound-proper sound) (All-nil IsProper)))
