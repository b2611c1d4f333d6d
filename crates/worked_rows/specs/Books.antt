-- The books of the worked rows, as plain data.
use Rattle.std.specs.Prelude.{ℕ, ◌-◌, ◌^◌, true, false, List, [], ◌∷◌, ◌++◌, map, replicate, sum_by, Some, None, pos, codes, decimal}
use Rattle.ecam_spec.specs.declared.kinds.Key.TheVariants.{ToCfg}
use Rattle.ecam_spec.specs.declared.kinds.Op.TheVariants.{Less}
use Rattle.ecam_spec.specs.declared.kinds.Colour.TheVariants.{Green, Cyan}
use Rattle.ecam_spec.specs.declared.kinds.Kind.TheVariants.{Disc, Bnr}
use Rattle.ecam_spec.specs.declared.kinds.Level.{Level}
use Rattle.ecam_spec.specs.declared.kinds.Level.TheVariants.{One, Two, Three}
use Rattle.ecam_spec.specs.declared.kinds.Sound.{Sound}
use Rattle.ecam_spec.specs.declared.kinds.Sound.TheVariants.{Quiet, Chime, Repetitive, Cavalry}
use Rattle.ecam_spec.specs.Book.{Text, Tree, constant, discrete, compared, press, computer, negation, confirmed, Source, Parameter, PhaseTerms, Line, Alert, Page, Book}

-- the words with a label on a bus, of which one bit is read
abbrev pub bit_of : ℕ → ℕ → ℕ → Source
bit_of bus label bit = record { bus = bus; label = label; sdi = None; bit = bit; low = 11; range = 1 }

-- a discrete, fresh for a minute
abbrev pub flag : Text → Source → Parameter
flag name source = record { name = name; kind = Disc; stale = 600; sources = source ∷ [] }

-- always on ground, with no engine running
abbrev pub parked : PhaseTerms
parked = record { gnd = constant true; run = constant false; tp = constant false; fast = constant false; high = constant false; low = constant false }

-- a set of phases
abbrev pub phases : List ℕ → ℕ
phases ps = sum_by (λ p. 2 ^ (p - 1)) ps

-- the sound that a level has by itself
abbrev pub own_sound : Level → Sound
own_sound One = Quiet
own_sound Two = Chime
own_sound Three = Repetitive

-- an alert of the book's first system, with nothing but its condition
abbrev pub alert : Text → Text → Level → Tree → Alert
alert name title level when =
    record {
      name = name;
      title = title;
      system = 0;
      level = level;
      when = when;
      page = None;
      confirm = 0;
      sound = own_sound level;
      inhibit = 0;
      secondary = [];
      lines = [];
      status = [];
    }

-- a book with the system HYD, and no pages, phases or memos
abbrev pub hydraulics : List Parameter → List Alert → Book
hydraulics parameters alerts =
    record { systems = codes "HYD" ∷ []; pages = []; parameters = parameters; phase = parked; alerts = alerts; memos = [] }

-- the level in the green reservoir is low: bit 11 of label 270
abbrev pub low_level : Parameter
low_level = flag (codes "g_lo") (bit_of 0 0o270 11)

-- the alert of it, of some level and with some condition
abbrev pub reservoir : Level → Tree → Alert
reservoir level when = alert (codes "g_rsvr") (codes "HYD G RSVR LO LVL") level when

-- Book A: a level 1 alert of one bit
abbrev pub book_a : Book
book_a = hydraulics (low_level ∷ []) (reservoir One (discrete 0) ∷ [])

-- Book B: the same alert of level 2
abbrev pub book_b : Book
book_b = hydraulics (low_level ∷ []) (reservoir Two (discrete 0) ∷ [])

-- Book A with the same alert seventeen times
abbrev pub book_of_seventeen : Book
book_of_seventeen = hydraulics (low_level ∷ []) (replicate 17 (reservoir One (discrete 0)))

-- Book A or B with the alert confirmed for three moments
abbrev pub book_confirmed : Level → Book
book_confirmed level = hydraulics (low_level ∷ []) (record (reservoir level (discrete 0)) { confirm = 3 } ∷ [])

-- Book A with another condition
abbrev pub book_when : Tree → Book
book_when when = hydraulics (low_level ∷ []) (reservoir One when ∷ [])

-- Book A with the alert confirmed for one moment
abbrev pub book_confirmed_once : Book
book_confirmed_once = hydraulics (low_level ∷ []) (record (reservoir One (discrete 0)) { confirm = 1 } ∷ [])

-- Book A or B with words that stay fresh for two moments
abbrev pub book_fresh : Level → Book
book_fresh level = hydraulics (record low_level { stale = 2 } ∷ []) (reservoir level (discrete 0) ∷ [])

-- Book A with a second source, on bus 1
abbrev pub book_two_sources : Book
book_two_sources =
    hydraulics (record low_level { sources = bit_of 0 0o270 11 ∷ bit_of 1 0o270 11 ∷ [] } ∷ []) (reservoir One (discrete 0) ∷ [])

-- Book A with a source that names an SDI
abbrev pub book_sdi : Book
book_sdi = hydraulics (flag (codes "g_lo") (record (bit_of 0 0o270 11) { sdi = Some 1 }) ∷ []) (reservoir One (discrete 0) ∷ [])

-- Book D: six bits of label 350 for the phases, and the alert inhibited in phases 3, 4 and 5
abbrev pub book_d : Level → Book
book_d level =
    record {
      systems = codes "HYD" ∷ [];
      pages = [];
      memos = [];
      parameters =
          low_level
          ∷ flag (codes "gnd") (bit_of 0 0o350 11) ∷ flag (codes "run") (bit_of 0 0o350 12)
          ∷ flag (codes "tp") (bit_of 0 0o350 13) ∷ flag (codes "fast") (bit_of 0 0o350 14)
          ∷ flag (codes "low") (bit_of 0 0o350 15) ∷ flag (codes "high") (bit_of 0 0o350 16) ∷ [];
      phase = record { gnd = discrete 1; run = discrete 2; tp = discrete 3; fast = discrete 4; low = discrete 5; high = discrete 6 };
      alerts = record (reservoir level (discrete 0)) { inhibit = phases (3 ∷ 4 ∷ 5 ∷ []) } ∷ [];
    }

-- a record for Book D: the phases 1 to 4 in a moment each, the level low in the last, and RCL in the next moment
abbrev pub until_recall : Text
until_recall = codes "W 0 00000417/T/W 0 80000c17/T/W 0 00001c17/T/W 0 80003c17/W 0 0000041d/T/P RCL/T/"

-- Book E: two alerts of two bits
abbrev pub book_e : Book
book_e =
    hydraulics (flag (codes "x") (bit_of 0 0o270 11) ∷ flag (codes "y") (bit_of 0 0o270 12) ∷ [])
    (alert (codes "ax") (codes "ALERT X") One (discrete 0) ∷ alert (codes "ay") (codes "ALERT Y") One (discrete 1) ∷ [])

-- Book N: nine alerts of one bit
abbrev pub numbered_alert : ℕ → Alert
numbered_alert n = alert (codes "n" ++ decimal n) (codes "ALERT " ++ decimal n) One (discrete 0)

abbrev pub book_n : Book
book_n = hydraulics (low_level ∷ []) (map numbered_alert (1 ∷ 2 ∷ 3 ∷ 4 ∷ 5 ∷ 6 ∷ 7 ∷ 8 ∷ 9 ∷ []))

-- Book L: Book A with a procedure of seven lines, the first done when the pump is off
abbrev pub pump_off : Parameter
pump_off = flag (codes "pump_off") (bit_of 0 0o270 12)

abbrev pub line : Text → Tree → Line
line text done = record { text = text; colour = Cyan; when = constant true; done = done }

abbrev pub numbered_line : ℕ → Line
numbered_line n = line (codes "LINE " ++ decimal n) (constant false)

abbrev pub book_l : Book
book_l =
    hydraulics (low_level ∷ pump_off ∷ [])
    (record (reservoir One (discrete 0)) {
      lines = line (codes "LINE 1") (discrete 1) ∷ map numbered_line (2 ∷ 3 ∷ 4 ∷ 5 ∷ 6 ∷ 7 ∷ []);
    }
    ∷ [])

-- Book W: a warning of the same bit
abbrev pub book_w : Book
book_w = hydraulics (low_level ∷ []) (alert (codes "g_rsvr") (codes "ENG 1 FIRE") Three (discrete 0) ∷ [])

-- the green pressure: a number of 12 bits and a sign
abbrev pub green_pressure : Parameter
green_pressure =
    record {
      name = codes "g_press";
      kind = Bnr;
      stale = 10;
      sources = record { bus = 1; label = 0o300; sdi = None; bit = 11; low = 17; range = 4096 } ∷ [];
    }

-- Book S: an ordinary failure, with a page, a pressure, a procedure line, a status line and a secondary failure
abbrev pub book_s : Book
book_s =
    record {
      systems = codes "HYD" ∷ [];
      phase = parked;
      memos = [];
      pages =
          record {
            name = codes "hyd";
            title = codes "HYD";
            phases = 0;
            rows = record { text = codes "GREEN PRESS"; show = Some 2; unit = Some (codes "PSI"); colour = Green } ∷ [];
          }
          ∷ [];
      parameters =
          low_level ∷ pump_off ∷ green_pressure ∷ [];
      alerts =
          record (reservoir Two (discrete 0)) {
            page = Some 0;
            secondary = 1 ∷ [];
            lines = line (codes "-G ENG 1 PUMP.....OFF") (discrete 1) ∷ [];
            status = record { section = 4; text = codes "GREEN HYD" } ∷ [];
          }
          ∷ alert (codes "g_press_lo") (codes "HYD G SYS LO PR") Two (compared 2 Less (pos 1450))
          ∷ [];
    }

-- a book of three pages without rows, and nothing else
abbrev pub bare_page : Text → Text → Page
bare_page name title = record { name = name; title = title; phases = 0; rows = [] }

abbrev pub book_pages : Book
book_pages =
    record {
      systems = [];
      parameters = [];
      phase = parked;
      alerts = [];
      memos = [];
      pages = bare_page (codes "p1") (codes "P1") ∷ bare_page (codes "p2") (codes "P2") ∷ bare_page (codes "p3") (codes "P3") ∷ [];
    }

-- Book E with two warnings of different sounds
abbrev pub book_warnings : Book
book_warnings =
    record book_e {
      alerts =
          alert (codes "ax") (codes "ALERT X") Three (discrete 0)
          ∷ record (alert (codes "ay") (codes "ALERT Y") Three (discrete 1)) { sound = Cavalry }
          ∷ [];
    }

-- seven alerts: the third explains the fourth and has six lines, the sixth is inhibited in phase 1, and the
-- seventh is of another bit
abbrev pub book_standings : Book
book_standings =
    hydraulics (low_level ∷ pump_off ∷ []) (
    numbered_alert 1 ∷ numbered_alert 2
    ∷ record (numbered_alert 3) { secondary = 3 ∷ []; lines = map numbered_line (2 ∷ 3 ∷ 4 ∷ 5 ∷ 6 ∷ 7 ∷ []) }
    ∷ numbered_alert 4 ∷ numbered_alert 5
    ∷ record (numbered_alert 6) { inhibit = phases (1 ∷ []) }
    ∷ record (numbered_alert 7) { when = discrete 1 }
    ∷ [])

-- a book that tells of the failure of computer 1
abbrev pub book_computer : Book
book_computer =
    hydraulics (low_level ∷ []) (alert (codes "g_rsvr") (codes "FWS FWC 1 FAULT") One (negation (computer 1)) ∷ [])

-- the two conditions that stand in the place of Book A's
abbrev pub low_for_two : Tree
low_for_two = confirmed (discrete 0) 2

abbrev pub take_off_test : Tree
take_off_test = press ToCfg
