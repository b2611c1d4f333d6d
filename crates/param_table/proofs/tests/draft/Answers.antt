use Rattle.std.proofs.Common.{◌≡◌, ℕ, ◌<◌, Bool, false, [], ◌∷◌, map, codes, Some, None, All, refl, sym, ap, ◌∙◌, subst, arith}
use Rattle.std.proofs.lemmas.List.Elements.{All-nil, All-cons}
use Rattle.ecam_spec.specs.declared.kinds.Kind.TheVariants.{Bcd, Disc}
use Rattle.ecam_spec.specs.Book.{constant, discrete, valid, Text, Source, Parameter}
use Rattle.ecam_spec.specs.BookText.{is_name, reserved}
use Rattle.ecam_spec.specs.Token.{reserved_words}
use Rattle.ecam_spec.specs.TermSize.{nodes, depth}
use Rattle.ecam_spec.specs.TermNames.{IsWithin}
use Rattle.ecam_spec.specs.Draft as plain
use Rattle.ecam_spec.specs.KeepsLimits.{IsSound, IsSoundParameter, IsSoundSource, IsSoundTerm, IsInRange, is_repeated}
use Rattle.ecam_spec.specs.DraftFaults.{draft_fault, has_atom}
use Rattle.book_model.specs.declared.draft.Draft.{Draft}
use Rattle.book_model.specs.View.{draft_of, tree_in, parameter_of}
use Rattle.param_table.proofs.tests.draft.Goals as goal

abbrev source : ℕ → ℕ → Source
source bus label = record { bus = bus; label = label; sdi = None; bit = 11; low = 11; range = 1 }

abbrev number : Parameter
number = record { name = codes "number"; kind = Bcd; stale = 1; sources = record (source 0 0o170) { sdi = Some 1 } ∷ source 2 0o170 ∷ [] }

abbrev bit : Parameter
bit = record { name = codes "bit"; kind = Disc; stale = 2; sources = source 0 0o270 ∷ [] }

abbrev spare : Parameter
spare = record { name = codes "spare"; kind = Disc; stale = 2; sources = source 1 0o270 ∷ [] }

abbrev sample : plain.Draft
sample = record {
  systems = [];
  pages = [];
  parameters = number ∷ bit ∷ spare ∷ [];
  terms = [];
  phase = record { gnd = valid 0; run = discrete 1; tp = constant false; fast = constant false; high = constant false; low = constant false };
  alerts = [];
  memos = [];
}

is_sample : (d : Draft) → d.systems.items ≡ [] → d.pages.items ≡ [] → map parameter_of d.params.items ≡ number ∷ bit ∷ spare ∷ []
    → tree_in d.phase.gnd ≡ valid 0 → tree_in d.phase.run ≡ discrete 1 → tree_in d.phase.tp ≡ constant false
    → tree_in d.phase.fast ≡ constant false → tree_in d.phase.high ≡ constant false → tree_in d.phase.low ≡ constant false
    → d.terms.items ≡ [] → d.alerts.items ≡ [] → d.memos.items ≡ [] → draft_of d ≡ sample
unfolding draft_of
is_sample d systems pages params gnd run tp fast high low terms alerts memos = rw (systems, pages, params, gnd, run, tp, fast, high, low, terms, alerts, memos) refl

sound_source : (bus label : ℕ) → bus < 16 → label < 256 → IsSoundSource (source bus label)
sound_source bus label bus_small label_small = record {
  bus = bus_small;
  label = label_small;
  sdi = tt;
  bit_low = omega arith;
  bit_high = omega arith;
  low_low = omega arith;
  low_high = omega arith;
  range_low = omega arith;
  range_high = omega arith;
}

sound_parameters : All IsSoundParameter (number ∷ bit ∷ spare ∷ [])
unfolding is_name reserved reserved_words
sound_parameters =
    All-cons IsSoundParameter number (bit ∷ spare ∷ []) (record {
      name = refl;
      stale_low = omega arith;
      stale_high = omega arith;
      some_source = omega arith;
      source_count = omega arith;
      sources = All-cons IsSoundSource (record (source 0 0o170) { sdi = Some 1 }) (source 2 0o170 ∷ [])
          (record {
            bus = omega arith;
            label = omega arith;
            sdi = omega arith;
            bit_low = omega arith;
            bit_high = omega arith;
            low_low = omega arith;
            low_high = omega arith;
            range_low = omega arith;
            range_high = omega arith;
          })
          (All-cons IsSoundSource (source 2 0o170) [] (sound_source 2 0o170 (omega arith) (omega arith)) (All-nil IsSoundSource));
    })
    (All-cons IsSoundParameter bit (spare ∷ []) (record {
      name = refl;
      stale_low = omega arith;
      stale_high = omega arith;
      some_source = omega arith;
      source_count = omega arith;
      sources = All-cons IsSoundSource (source 0 0o270) [] (sound_source 0 0o270 (omega arith) (omega arith)) (All-nil IsSoundSource);
    })
    (All-cons IsSoundParameter spare [] (record {
      name = refl;
      stale_low = omega arith;
      stale_high = omega arith;
      some_source = omega arith;
      source_count = omega arith;
      sources = All-cons IsSoundSource (source 1 0o270) [] (sound_source 1 0o270 (omega arith) (omega arith)) (All-nil IsSoundSource);
    }) (All-nil IsSoundParameter)))

sound_constant : (b : Bool) → IsSoundTerm 3 0 (constant b)
unfolding IsWithin IsInRange nodes depth
sound_constant b = record { within = tt; in_range = tt; small = omega arith; flat = omega arith }

sound_valid : IsSoundTerm 3 0 (valid 0)
unfolding IsWithin IsInRange nodes depth
sound_valid = record { within = omega arith; in_range = tt; small = omega arith; flat = omega arith }

sound_discrete : IsSoundTerm 3 0 (discrete 1)
unfolding IsWithin IsInRange nodes depth
sound_discrete = record { within = omega arith; in_range = tt; small = omega arith; flat = omega arith }

-- a name stands once
abbrev once : Text → Type 0
once n = is_repeated (codes "number" ∷ codes "bit" ∷ codes "spare" ∷ []) n ≡ false

sound : IsSound sample
sound = record {
  system_count = omega arith;
  systems = All-nil _;
  systems_once = All-nil _;
  page_count = omega arith;
  pages = All-nil _;
  pages_once = All-nil _;
  parameter_count = omega arith;
  parameters = sound_parameters;
  parameters_once = All-cons once (codes "number") (codes "bit" ∷ codes "spare" ∷ []) refl (All-cons once (codes "bit") (codes "spare" ∷ []) refl (All-cons once (codes "spare") [] refl (All-nil once)));
  term_count = omega arith;
  terms = All-nil _;
  terms_once = All-nil _;
  phase = record { gnd = sound_valid; run = sound_discrete; tp = sound_constant false; fast = sound_constant false; high = sound_constant false; low = sound_constant false };
  alert_count = omega arith;
  alerts = All-nil _;
  alerts_once = All-nil _;
  memo_count = omega arith;
  memos = All-nil _;
  memos_once = All-nil _;
}

faultless : draft_fault sample ≡ None
unfolding draft_fault has_atom
faultless = refl

pub returns-clause-sound : goal.returns-clause-sound
returns-clause-sound c =
    let d : Draft = record {
      systems = c.new.result;
      pages = c.new-2.result;
      params = c.in_ok-params.field-0;
      terms = c.new-3.result;
      phase = record { gnd = c.valid.result; run = c.discrete.result; tp = c.term.result; fast = c.term-2.result; high = c.term-3.result; low = c.term-4.result };
      alerts = c.new-4.result;
      memos = c.new-5.result;
    } in
    let is : draft_of d ≡ sample =
    is_sample d c.new.ensures.items c.new-2.ensures.items c.in_ok-params.ensures c.valid.ensures c.discrete.ensures c.term.ensures c.term-2.ensures c.term-3.ensures c.term-4.ensures c.new-3.ensures.items c.new-4.ensures.items c.new-5.ensures.items in
    subst IsSound (sym is) sound

pub returns-clause-faultless : goal.returns-clause-faultless
returns-clause-faultless c =
    let d : Draft = record {
      systems = c.new.result;
      pages = c.new-2.result;
      params = c.in_ok-params.field-0;
      terms = c.new-3.result;
      phase = record { gnd = c.valid.result; run = c.discrete.result; tp = c.term.result; fast = c.term-2.result; high = c.term-3.result; low = c.term-4.result };
      alerts = c.new-4.result;
      memos = c.new-5.result;
    } in
    let is : draft_of d ≡ sample =
    is_sample d c.new.ensures.items c.new-2.ensures.items c.in_ok-params.ensures c.valid.ensures c.discrete.ensures c.term.ensures c.term-2.ensures c.term-3.ensures c.term-4.ensures c.new-3.ensures.items c.new-4.ensures.items c.new-5.ensures.items in
    ap draft_fault is ∙ faultless
