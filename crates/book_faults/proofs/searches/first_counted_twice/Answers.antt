use Rattle.std.proofs.Common.{◌≡◌, ℕ, Bool, true, false, get_or, [], List, Bor, ◌∙◌, sym}
use Rattle.ecam_spec.specs.Book.{Text}
use Rattle.ecam_spec.specs.KeepsLimits.{is_repeated}
use Rattle.book_tables.specs.Reading.{texts_of}
use Rattle.book_faults.proofs.FirstItems.{first_here, first_later, first_nowhere}
use Rattle.book_faults.proofs.searches.first_counted_twice.Goals as goal

abbrev nothing : Bor (List ℕ)
nothing = record { ref_ptr = (0, 0); now = [] }

pub returns-then-is_repeated : goal.returns-then-is_repeated
returns-then-is_repeated c =
    let names = c.args.names.now in
    let is_so : ℕ → Text → Bool = λ i n. is_repeated (texts_of names) n in
    let told : is_so c.loop-i.i (get_or names c.loop-i.i nothing).now ≡ true = sym (c.is_repeated.ensures (texts_of names) c.requires.counted) ∙ c.if-is_repeated.true in
    sym (c.loop-i.invariant ∙ first_here (λ (s : Bor (List ℕ)). s.now) is_so names c.loop-i.i nothing c.loop-i-test.true told)

pub returns : goal.returns
returns c =
    let names = c.args.names.now in
    let is_so : ℕ → Text → Bool = λ i n. is_repeated (texts_of names) n in
    sym (c.loop-i.invariant ∙ first_nowhere (λ (s : Bor (List ℕ)). s.now) is_so names c.loop-i.i c.loop-i-test.false)

pub loop-i-preserved : goal.loop-i-preserved
loop-i-preserved c =
    let names = c.args.names.now in
    let is_so : ℕ → Text → Bool = λ i n. is_repeated (texts_of names) n in
    let told : is_so c.loop-i.i (get_or names c.loop-i.i nothing).now ≡ false = sym (c.is_repeated.ensures (texts_of names) c.requires.counted) ∙ c.if-is_repeated.false in
    c.loop-i.invariant ∙ first_later (λ (s : Bor (List ℕ)). s.now) is_so names c.loop-i.i nothing c.loop-i-test.true told
