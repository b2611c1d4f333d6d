-- The books of the rows on the display: memos, status lines, pages, values.
use Rattle.std.specs.Prelude.{ℕ, ◌+◌, Bool, true, false, [], ◌∷◌, ◌++◌, map, Some, None, codes, decimal}
use Rattle.ecam_spec.specs.declared.kinds.Colour.TheVariants.{Green, White, Cyan, Magenta}
use Rattle.ecam_spec.specs.declared.kinds.Kind.TheVariants.{Bcd}
use Rattle.ecam_spec.specs.declared.kinds.Level.TheVariants.{One, Two, Three}
use Rattle.ecam_spec.specs.Book.{Text, constant, discrete, Parameter, StatusLine, Alert, Memo, PageRow, Book}
use Rattle.ecam_spec.specs.Places.{below}
use Rattle.worked_rows.specs.Books.{bit_of, flag, phases, alert, hydraulics, low_level, pump_off, reservoir, line, bare_page, green_pressure, book_d}

-- a memo that stands while a discrete is 1
abbrev pub memo : Text → Text → Bool → ℕ → Memo
memo name text left p = record { name = name; text = text; left = left; when = discrete p; colour = Green }

abbrev pub left_memo : ℕ → Memo
left_memo n = memo (codes "l" ++ decimal n) (codes "LEFT " ++ decimal n) true 0

abbrev pub right_memo : ℕ → Memo
right_memo n = record (memo (codes "r" ++ decimal n) (codes "RIGHT " ++ decimal n) false 0) { colour = Magenta }

-- memos of both zones: eight left and nine right ones of one bit, and a left one of another bit
abbrev pub book_memos : Book
book_memos =
    record (hydraulics (low_level ∷ pump_off ∷ []) []) {
      memos =
          map left_memo (1 ∷ 2 ∷ 3 ∷ 4 ∷ 5 ∷ 6 ∷ 7 ∷ 8 ∷ [])
          ++ memo (codes "off") (codes "PUMP OFF") true 1
          ∷ map right_memo (1 ∷ 2 ∷ 3 ∷ 4 ∷ 5 ∷ 6 ∷ 7 ∷ 8 ∷ 9 ∷ []);
    }

-- a failure that explains one of ELEC and one of HYD, and a right memo
abbrev pub book_explained : Book
book_explained =
    record (hydraulics (low_level ∷ []) (
    record (alert (codes "pump") (codes "PUMP FAULT") One (discrete 0)) { secondary = 1 ∷ 2 ∷ [] }
    ∷ record (alert (codes "bus") (codes "BUS FAULT") One (discrete 0)) { system = 1 }
    ∷ alert (codes "lo_pr") (codes "LO PR") One (discrete 0)
    ∷ [])) {
      systems = codes "HYD" ∷ codes "ELEC" ∷ [];
      memos = memo (codes "seat") (codes "SEAT BELTS") false 0 ∷ [];
    }

abbrev pub status_line : ℕ → Text → StatusLine
status_line section text = record { section = section; text = text }

-- two alerts with status lines: the first with one of each section, the last section first
abbrev pub book_sections : Book
book_sections =
    hydraulics (low_level ∷ [])
    (record (reservoir One (discrete 0)) {
      status =
          status_line 4 (codes "GREEN PUMP") ∷ status_line 3 (codes "SLATS SLOW") ∷ status_line 2 (codes "GRAVITY EXTENSION")
          ∷ status_line 1 (codes "FLAPS 3") ∷ status_line 0 (codes "MAX SPEED 250") ∷ [];
    }
    ∷ record (alert (codes "y_rsvr") (codes "HYD Y RSVR LO LVL") One (discrete 0)) {
      status = status_line 0 (codes "AVOID ICING") ∷ status_line 4 (codes "YELLOW PUMP") ∷ [];
    }
    ∷ [])

-- alert number a with n status lines, numbered on from some number
abbrev pub alert_with_systems : ℕ → ℕ → ℕ → Alert
alert_with_systems a after n =
    record (alert (codes "n" ++ decimal a) (codes "ALERT " ++ decimal a) One (discrete 0)) {
      status = map (λ i. status_line 4 (codes "SYSTEM " ++ decimal (after + i + 1))) (below n);
    }

-- three alerts with twenty status lines
abbrev pub book_status_pages : Book
book_status_pages = hydraulics (low_level ∷ []) (alert_with_systems 1 0 8 ∷ alert_with_systems 2 8 8 ∷ alert_with_systems 3 16 4 ∷ [])

-- Book D with pages: the alert's, one of phases 1 and 2, one of phases 2 and 3
abbrev pub book_phase_pages : Book
book_phase_pages =
    record (book_d One) {
      pages =
          bare_page (codes "p1") (codes "P1")
          ∷ record (bare_page (codes "p2") (codes "P2")) { phases = phases (1 ∷ 2 ∷ []) }
          ∷ record (bare_page (codes "p3") (codes "P3")) { phases = phases (2 ∷ 3 ∷ []) }
          ∷ [];
      alerts = record (reservoir One (discrete 0)) { inhibit = phases (3 ∷ 4 ∷ 5 ∷ []); page = Some 0 } ∷ [];
    }

-- two alerts, of which the second has a page
abbrev pub book_second_page : Book
book_second_page =
    record (hydraulics (flag (codes "x") (bit_of 0 0o270 11) ∷ flag (codes "y") (bit_of 0 0o270 12) ∷ [])
    (alert (codes "ax") (codes "ALERT X") One (discrete 0)
    ∷ record (alert (codes "ay") (codes "ALERT Y") One (discrete 1)) { page = Some 0 }
    ∷ [])) {
      pages = bare_page (codes "p1") (codes "P1") ∷ [];
    }

-- a row of a page with a parameter's value
abbrev pub row_of : Text → ℕ → PageRow
row_of text p = record { text = text; show = Some p; unit = None; colour = White }

-- a quantity in decimal
abbrev pub quantity : Parameter
quantity =
    record {
      name = codes "g_qty";
      kind = Bcd;
      stale = 10;
      sources = record { bus = 2; label = 0; sdi = None; bit = 11; low = 11; range = 1 } ∷ [];
    }

-- a page of two discretes, a number with a unit, one without, and a row of mere text
abbrev pub book_values : Book
book_values =
    record (hydraulics (low_level ∷ pump_off ∷ green_pressure ∷ quantity ∷ []) []) {
      pages =
          record (bare_page (codes "hyd") (codes "HYD")) {
            rows =
                row_of (codes "LEVEL LOW") 0 ∷ row_of (codes "PUMP OFF") 1
                ∷ record (row_of (codes "GREEN PRESS") 2) { unit = Some (codes "PSI") }
                ∷ row_of (codes "QUANTITY") 3
                ∷ record { text = codes "GROUND TEST"; show = None; unit = None; colour = Cyan }
                ∷ [];
          }
          ∷ [];
    }

-- a warning with a page, a procedure line and a status line; a caution; a right memo
abbrev pub book_fire : Book
book_fire =
    record (hydraulics (low_level ∷ green_pressure ∷ [])
    (record (alert (codes "fire") (codes "ENG 1 FIRE") Three (discrete 0)) {
      page = Some 0;
      lines = line (codes "-ENG 1 MASTER......OFF") (constant false) ∷ [];
      status = status_line 4 (codes "ENG 1") ∷ [];
    }
    ∷ alert (codes "g_pump") (codes "HYD G PUMP") Two (discrete 0)
    ∷ [])) {
      pages =
          record (bare_page (codes "eng") (codes "ENG")) {
            rows = record (row_of (codes "OIL PRESS") 1) { unit = Some (codes "PSI") } ∷ [];
          }
          ∷ [];
      memos = memo (codes "apu") (codes "APU AVAIL") false 0 ∷ [];
    }
