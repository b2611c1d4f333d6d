-- The rows of alerts, one alert after another, and the flags of their lines.
use Rattle.std.proofs.Common.{◌≡◌, ℕ, ◌+◌, ◌≤◌, min, Bool, true, false, List, [], ◌∷◌, ◌++◌, map, length, take, drop, slice_get, Some, cond, refl, sym, ◌∙◌, ap, subst, arith}
use Rattle.std.specs.Prelude.{filter}
use Rattle.std.proofs.lemmas.List.{map-append, append-nil, length-take, length-drop}
use Rattle.std.proofs.lemmas.List.Elements.{filter-append}
use Rattle.std.proofs.lemmas.Grind.{flat_map-append}
use Rattle.ecam_spec.specs.declared.kinds.Colour.{Colour}
use Rattle.ecam_spec.specs.declared.kinds.Level.{Level}
use Rattle.ecam_spec.specs.Picture.{Row, row}
use Rattle.ecam_spec.specs.Book.{Text, Line, Alert, Book}
use Rattle.ecam_spec.specs.LeftZone.{LeftRow, plain, title_colour, alert_rows}
use Rattle.ecam_spec.specs.Situation.{alert_at}
use Rattle.book_model.specs.declared.draft.Line as code
use Rattle.book_model.specs.View.{line_of}
use Rattle.zone_rows.specs.Tracked.{TrackedRows}
use Rattle.zone_rows.specs.Mended.{Appends}
use Rattle.zone_rows.proofs.Filling.{append-both}
use Rattle.book_model.specs.Told.{TellsOf}
use Rattle.warning_display.specs.LeftRows.{line_rows, block, rows_in, blocks}
use Rattle.warning_display.proofs.Passing.{taken}

plain-rows : (lines : List Line) → rows_in (map (λ (l : Line). plain (row l.colour l.text)) lines) ≡ map (λ (l : Line). row l.colour l.text) lines
plain-rows [] = refl
plain-rows (l ∷ ls) = ap (λ rs. row l.colour l.text ∷ rs) (plain-rows ls)

-- an alert's rows are its block
pub block-rows : (stands : Line → Bool) (a : ℕ) (x : Alert) → rows_in (alert_rows stands a x) ≡ block stands x.level x.title x.lines
unfolding alert_rows
block-rows stands a x = ap (λ rs. row (title_colour x.level) x.title ∷ rs) (plain-rows (filter stands x.lines))

one-block : (b : Book) (stands : Line → Bool) (p : Bool) (a : ℕ) → blocks b stands (cond p (a ∷ []) []) ≡ cond p (alert_rows stands a (alert_at b a)) []
one-block b stands true a = append-nil (alert_rows stands a (alert_at b a))
one-block b stands false a = refl

-- one alert more
pub blocks-on : (b : Book) (stands : Line → Bool) (shown : ℕ → Bool) (order : List ℕ) (i a : ℕ) → slice_get order i ≡ Some a
    → blocks b stands (filter shown (take (i + 1) order)) ≡ blocks b stands (filter shown (take i order)) ++ cond (shown a) (alert_rows stands a (alert_at b a)) []
blocks-on b stands shown order i a here =
    ap (λ xs. blocks b stands (filter shown xs)) (taken order i a here)
    ∙ ap (blocks b stands) (filter-append shown (take i order) (a ∷ []))
    ∙ flat_map-append (λ x. alert_rows stands x (alert_at b x)) (filter shown (take i order)) (cond (shown a) (a ∷ []) [])
    ∙ ap (λ rs. blocks b stands (filter shown (take i order)) ++ rs) (one-block b stands (shown a) a)

rows-if : (p : Bool) (rows : List LeftRow) → rows_in (cond p rows []) ≡ cond p (rows_in rows) []
rows-if true rows = refl
rows-if false rows = refl

pub appends-block : (b : Book) (stands : Line → Bool) (shown : ℕ → Bool) (order : List ℕ) (i a : ℕ) → slice_get order i ≡ Some a → (c d e : ℕ) (s t u : TrackedRows)
    → Appends 0 7 (rows_in (blocks b stands (filter shown (take i order)))) c d s t → Appends 0 7 (cond (shown a) (rows_in (alert_rows stands a (alert_at b a))) []) d e t u
    → Appends 0 7 (rows_in (blocks b stands (filter shown (take (i + 1) order)))) c e s u
appends-block b stands shown order i a here c d e s t u before next =
    let on : rows_in (blocks b stands (filter shown (take (i + 1) order))) ≡ rows_in (blocks b stands (filter shown (take i order))) ++ cond (shown a) (rows_in (alert_rows stands a (alert_at b a))) [] =
    ap rows_in (blocks-on b stands shown order i a here)
    ∙ map-append (λ (r : LeftRow). r.row) (blocks b stands (filter shown (take i order))) (cond (shown a) (alert_rows stands a (alert_at b a)) [])
    ∙ ap (λ rs. rows_in (blocks b stands (filter shown (take i order))) ++ rs) (rows-if (shown a) (alert_rows stands a (alert_at b a))) in
    rw on
    (append-both 0 7 (rows_in (blocks b stands (filter shown (take i order)))) (cond (shown a) (rows_in (alert_rows stands a (alert_at b a))) []) c d e s t u before next)

-- a row that is put where a flag says so
pub put-if : (told : Bool) (colour : Colour) (text bytes : Text) (count later : ℕ) (s t : TrackedRows) → told ≡ true → text ≡ bytes → Appends 0 7 (row colour text ∷ []) count later s t → Appends 0 7 (cond told (row colour bytes ∷ []) []) count later s t
put-if told colour text bytes count later s t h e put = rw (h, ← e) put

-- a title, and then the lines under it
pub block-put : (test : Line → Bool) (stands : List Bool) (level : Level) (title text : Text) (colour : Colour) (own lines : List code.Line) (a b c : ℕ) (s t u : TrackedRows) → colour ≡ title_colour level → text ≡ title → own ≡ lines
    → Appends 0 7 (row colour text ∷ []) a b s t → (TellsOf stands (map line_of own) test → Appends 0 7 (line_rows test (map line_of own)) b c t u) → TellsOf stands (map line_of lines) test
    → Appends 0 7 (block test level title (map line_of lines)) a c s u
block-put test stands level title text colour own lines a b c s t u shade e same first rest tells =
    let here : Appends 0 7 (row (title_colour level) title ∷ []) a b s t = rw (← shade, ← e) first in
    let under : Appends 0 7 (line_rows test (map line_of lines)) b c t u =
    subst (λ ls. Appends 0 7 (line_rows test (map line_of ls)) b c t u) same (rest (subst (λ ls. TellsOf stands (map line_of ls) test) (sym same) tells)) in
    append-both 0 7 (row (title_colour level) title ∷ []) (line_rows test (map line_of lines)) a b c s t u here under

-- the rows of an alert that is shown
pub show-block : (told : Bool) (rows these : List Row) (count later : ℕ) (s t : TrackedRows) → told ≡ true → rows ≡ these → Appends 0 7 these count later s t → Appends 0 7 (cond told rows []) count later s t
show-block told rows these count later s t h e put = rw (h, e) put

pub part-long : (at n : ℕ) (flags part : List Bool) → at + n ≤ length flags → part ≡ take n (drop at flags) → length part ≡ n
part-long at n flags part within e = ap length e ∙ length-take n (drop at flags) ∙ ap (min n) (length-drop at flags) ∙ omega arith
