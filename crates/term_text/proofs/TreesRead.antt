-- The written text of a readable tree is read to a condition that is that tree and has no flaw.
use Rattle.std.proofs.Common.{◌≡◌, ℕ, suc, ◌+◌, ◌^◌, ◌<◌, ◌≤◌, true, false, List, [], ◌∷◌, ◌++◌, map, length, ℤ, pos, refl, ◌∙◌, ap, subst, arith, append_assoc}
use Rattle.std.specs.Prelude.{codes, decimal, neg_ℤ, fold, bit_or}
use Rattle.std.specs.Fmt.{signed_decimal}
use Rattle.std.specs.List.{flat_map}
use Rattle.ecam_spec.specs.Book.{Text, Tree, Trees, constant, discrete, valid, compared, in_phase, alert, press, computer, negation, all, any, at_least, confirmed, held, risen, latched, none, more}
use Rattle.ecam_spec.specs.declared.kinds.Op.{Op}
use Rattle.ecam_spec.specs.declared.terms.Span.{Span}
use Rattle.ecam_spec.specs.declared.terms.Reserved.{Reserved}
use Rattle.ecam_spec.specs.declared.terms.Reserved.TheVariants as words
use Rattle.ecam_spec.specs.declared.terms.Token.{Token}
use Rattle.ecam_spec.specs.declared.terms.Token.TheVariants.{Word, Name, KeyWord, Number, Sign, Open, Comma, Close}
use Rattle.ecam_spec.specs.KeepsLimits.{count_of}
use Rattle.ecam_spec.specs.Grammar.{Form, Forms, truth, name_of, compare_of, valid_of, phase_of, alert_of, press_of, fwc_of, not_of, rise_of, all_of, any_of, at_least_of, conf_of, hold_of, latch_of, no_more, and_then, how_many, numbers, spelling, spellings}
use Rattle.ecam_spec.specs.TermText.{TermNames, flaws, flaws_of_all, tree_of_form, trees_of_forms, amount, name_flaw, phase_flaw, moments_flaw, compared_flaw, number_flaw}
use Rattle.ecam_spec.specs.TermNumber.{one_phase, value}
use Rattle.term_text.specs.Written.{name_at, key_word, numbers_after, listed_numbers, phases_of, sign_of, spaced, enclosed, written, listed}
use Rattle.ecam_spec.specs.TermSize.{nodes, nodes_of}
use Rattle.term_text.proofs.NodeCounts.{some_nodes, counted_nodes}
use Rattle.term_text.proofs.PieceReads.{Always, Ended, Delimits, always_ended, nothing, always_then_ended, ended_then_always, ended_then_ended, separating, comparing, word_text, word_reads, wrapped, name_reads, key_reads, number_reads}
use Rattle.term_text.proofs.PhaseSets.{with_phases, ArePhases, phases_make_set, phases_are_phases}
use Rattle.term_text.specs.Readable.{IsKnownName, IsReadable, AreReadable}
use Rattle.term_text.proofs.NamesAlone.{no_lone_flaw, lone_tree}
use Rattle.term_text.proofs.AtomsRead.{span_of, none_at_all, signed_reads, signed_value, Stands, front, behind, inside, bytes_here, known_flaw, known_place, name_stands, value_flaw, decimal_flaw, decimal_amount}

module _ (names : TermNames) (text : Text) where
  -- the text of a condition at a place spells it
  pub record IsSpelt (c : Tree) (at : ℕ) : Type 0 where
    pub form : Form
    pub words : Ended at (written names c) (spelling form)
    pub sound : flaws names text form ≡ []
    pub tree : tree_of_form names text form ≡ c

  -- the text of further conditions at a place spells them
  pub record AreSpelt (cs : Trees) (at : ℕ) : Type 0 where
    pub forms : Forms
    pub words : Ended at (listed names false cs) (spellings forms)
    pub sound : flaws_of_all names text forms ≡ []
    pub trees : trees_of_forms names text forms ≡ cs
    pub count : how_many forms ≡ count_of cs

  -- the text of further phases at a place spells them
  pub record ArePhasesSpelt (ps : List ℕ) (at : ℕ) : Type 0 where
    pub spans : List Span
    pub words : Ended at (numbers_after false ps) (numbers spans)
    pub sound : flat_map (phase_flaw names text) spans ≡ []
    pub amounts : map (amount names text) spans ≡ ps

-- what ends a word does behind further numbers, and behind further conditions
further_numbers_delimit : (ps : List ℕ) → Delimits (numbers_after false ps)
unfolding numbers_after
further_numbers_delimit [] rest end = end
further_numbers_delimit (p ∷ ps) rest end = refl

further_delimit : (names : TermNames) (cs : Trees) → Delimits (listed names false cs)
unfolding written
further_delimit names none rest end = end
further_delimit names (more c cs) rest end = refl

module _ (names : TermNames) (text : Text) where
  phases_spelt : (ps : List ℕ) → ArePhases ps → (at : ℕ) (rest : Text) → Stands text at (numbers_after false ps ++ rest) → ArePhasesSpelt names text ps at
  unfolding numbers_after
  phases_spelt [] are at rest h = record { spans = []; words = nothing at; sound = refl; amounts = refl }
  phases_spelt (p ∷ ps) are at rest h =
      let fits : p < 2 ^ 64 = omega arith in
      let piece = codes ", " ++ decimal p in
      let split = front text at piece (numbers_after false ps) rest h in
      let number = behind text at (codes ", ") (decimal p ++ (numbers_after false ps ++ rest)) (front text at (codes ", ") (decimal p) (numbers_after false ps ++ rest) split) in
      let others = phases_spelt ps are.2 (at + length piece) rest (behind text at piece (numbers_after false ps ++ rest) split) in
      let span = span_of (at + 2) (decimal p) in
      record {
        spans = span ∷ others.spans;
        words = ended_then_ended at piece (numbers_after false ps) (Comma ∷ Number span ∷ []) (numbers others.spans)
            (always_then_ended at (codes ", ") (decimal p) (Comma ∷ []) (Number span ∷ []) (separating at) (number_reads (at + 2) p fits))
            (further_numbers_delimit ps) others.words;
        sound = none_at_all (phase_flaw names text span) (flat_map (phase_flaw names text) others.spans)
            (decimal_flaw names text 1 10 p (at + 2) (numbers_after false ps ++ rest) are.0 are.1 fits number) others.sound;
        amounts = ap (λ (n : ℕ). n ∷ map (amount names text) others.spans) (decimal_amount names text p (at + 2) (numbers_after false ps ++ rest) fits number)
            ∙ ap (λ (ns : List ℕ). p ∷ ns) others.amounts;
      }

  -- the union of the phases that stand in a text
  spans_union : (set : ℕ) (spans : List Span) → fold (λ s p. bit_or s (one_phase (amount names text p))) set spans ≡ with_phases set (map (amount names text) spans)
  spans_union set [] = refl
  spans_union set (s ∷ spans) = spans_union (bit_or set (one_phase (amount names text s))) spans

  -- the text of a set of phases at a place spells it
  record IsPhaseSpelt (set : ℕ) (ps : List ℕ) (at : ℕ) : Type 0 where
    form : Form
    words : Ended at (enclosed (codes "phase(") (listed_numbers ps)) (spelling form)
    sound : flaws names text form ≡ []
    tree : tree_of_form names text form ≡ in_phase set

  phase_spelt : (set : ℕ) (ps : List ℕ) → 1 ≤ set → ArePhases ps → with_phases 0 ps ≡ set → (at : ℕ) (rest : Text) → Stands text at (enclosed (codes "phase(") (listed_numbers ps) ++ rest) → IsPhaseSpelt set ps at
  unfolding numbers_after spelling flaws tree_of_form
  phase_spelt set [] some are whole at rest h = absurd (omega (arith, whole))
  phase_spelt set (p ∷ ps) some are whole at rest h =
      let fits : p < 2 ^ 64 = omega arith in
      let further = numbers_after false ps in
      let within = inside text at words.Phase (decimal p ++ further) rest h in
      let number = front text (at + 6) (decimal p) further (codes ")" ++ rest) within in
      let others = phases_spelt ps are.2 (at + 6 + length (decimal p)) (codes ")" ++ rest) (behind text (at + 6) (decimal p) (further ++ (codes ")" ++ rest)) number) in
      let span = span_of (at + 6) (decimal p) in
      let first = decimal_amount names text p (at + 6) (further ++ (codes ")" ++ rest)) fits number in
      record {
        form = phase_of span others.spans;
        words = always_ended at (enclosed (codes "phase(") (decimal p ++ further)) (spelling (phase_of span others.spans)) (wrapped at words.Phase (decimal p ++ further) (Number span ∷ numbers others.spans)
            (ended_then_ended (at + 6) (decimal p) further (Number span ∷ []) (numbers others.spans) (number_reads (at + 6) p fits) (further_numbers_delimit ps) others.words));
        sound = none_at_all (phase_flaw names text span) (flat_map (phase_flaw names text) others.spans)
            (decimal_flaw names text 1 10 p (at + 6) (further ++ (codes ")" ++ rest)) are.0 are.1 fits number) others.sound;
        tree = ap in_phase (spans_union (one_phase (amount names text span)) others.spans
            ∙ ap (λ (n : ℕ). with_phases (one_phase n) (map (amount names text) others.spans)) first
            ∙ ap (λ (ns : List ℕ). with_phases (one_phase p) ns) others.amounts
            ∙ whole);
      }

-- ---- one node

bracketed : (at : ℕ) (w : Reserved) (inner : Text) (ts : List Token) → Ended (at + length (word_text w ++ codes "(")) inner ts
    → Ended at (enclosed (word_text w ++ codes "(") inner) (Word w ∷ Open ∷ ts ++ Close ∷ [])
bracketed at w inner ts h = always_ended at (enclosed (word_text w ++ codes "(") inner) (Word w ∷ Open ∷ ts ++ Close ∷ []) (wrapped at w inner ts h)

module _ (names : TermNames) where
  -- a condition and a number of moments
  before_comma : (at : ℕ) (c : Tree) (f : Form) → Ended at (written names c) (spelling f) → Always at (written names c ++ codes ", ") (spelling f ++ Comma ∷ [])
  before_comma at c f reads = ended_then_always at (written names c) (codes ", ") (spelling f) (Comma ∷ []) reads (λ rest. refl) (separating (at + length (written names c)))

  timed_reads : (at : ℕ) (w : Reserved) (c : Tree) (n : ℕ) (f : Form) → Ended (at + length (word_text w ++ codes "(")) (written names c) (spelling f) → n < 2 ^ 64
      → Ended at (enclosed (word_text w ++ codes "(") (written names c ++ codes ", " ++ decimal n))
      (Word w ∷ Open ∷ spelling f ++ Comma ∷ Number (span_of (at + length (word_text w ++ codes "(") + length (written names c ++ codes ", ")) (decimal n)) ∷ Close ∷ [])
  timed_reads at w c n f reads fits =
      let start = at + length (word_text w ++ codes "(") in
      let piece = written names c ++ codes ", " in
      let span = span_of (start + length piece) (decimal n) in
      let inner = always_then_ended start piece (decimal n) (spelling f ++ Comma ∷ []) (Number span ∷ []) (before_comma start c f reads) (number_reads (start + length piece) n fits) in
      let first = append_assoc (spelling f) (Comma ∷ []) (Number span ∷ []) in
      let whole = append_assoc (Word w ∷ Open ∷ spelling f) (Comma ∷ Number span ∷ []) (Close ∷ []) in
      subst (Ended at (enclosed (word_text w ++ codes "(") (piece ++ decimal n)))
      (ap (λ (ts : List Token). Word w ∷ Open ∷ ts ++ Close ∷ []) first ∙ whole)
      (bracketed at w (piece ++ decimal n) (spelling f ++ Comma ∷ [] ++ Number span ∷ []) inner)

  -- two conditions
  pair_reads : (at : ℕ) (w : Reserved) (s r : Tree) (f g : Form) → Ended (at + length (word_text w ++ codes "(")) (written names s) (spelling f)
      → Ended (at + length (word_text w ++ codes "(") + length (written names s ++ codes ", ")) (written names r) (spelling g)
      → Ended at (enclosed (word_text w ++ codes "(") (written names s ++ codes ", " ++ written names r)) (Word w ∷ Open ∷ spelling f ++ Comma ∷ spelling g ++ Close ∷ [])
  pair_reads at w s r f g first second =
      let start = at + length (word_text w ++ codes "(") in
      let piece = written names s ++ codes ", " in
      let inner = always_then_ended start piece (written names r) (spelling f ++ Comma ∷ []) (spelling g) (before_comma start s f first) second in
      subst (Ended at (enclosed (word_text w ++ codes "(") (piece ++ written names r)))
      (ap (λ (ts : List Token). Word w ∷ Open ∷ ts ++ Close ∷ []) (append_assoc (spelling f) (Comma ∷ []) (spelling g)))
      (bracketed at w (piece ++ written names r) (spelling f ++ Comma ∷ [] ++ spelling g) inner)

  -- a list's first condition and the others
  list_reads : (at : ℕ) (c : Tree) (cs : Trees) (f : Form) (fs : Forms) → Ended at (written names c) (spelling f) → Ended (at + length (written names c)) (listed names false cs) (spellings fs)
      → Ended at (listed names true (more c cs)) (spelling f ++ spellings fs)
  unfolding written
  list_reads at c cs f fs first others = ended_then_ended at (written names c) (listed names false cs) (spelling f) (spellings fs) first (further_delimit names cs) others

-- ---- all nodes

module _ (names : TermNames) (text : Text) where
  compared_same : {p q : ℕ} {op : Op} {x y : ℤ} → p ≡ q → x ≡ y → compared p op x ≡ compared q op y
  compared_same e f = cc

  at_least_same : {m n : ℕ} {b c : Tree} {bs cs : Trees} → m ≡ n → b ≡ c → bs ≡ cs → at_least m (more b bs) ≡ at_least n (more c cs)
  at_least_same e f g = cc

  name_spelt : (w : Reserved) (list : List Text) (p at : ℕ) → IsKnownName list p → Ended at (enclosed (word_text w ++ codes "(") (name_at list p)) (Word w ∷ Open ∷ Name (span_of (at + length (word_text w ++ codes "(")) (name_at list p)) ∷ Close ∷ [])
  name_spelt w list p at known =
      let start = at + length (word_text w ++ codes "(") in
      bracketed at w (name_at list p) (Name (span_of start (name_at list p)) ∷ []) (name_reads start (name_at list p) known.word)

  mutual
    unfolding written spelling flaws tree_of_form nodes IsReadable

    pub spelt : (c : Tree) → IsReadable names c → nodes c ≤ 64 → (at : ℕ) (rest : Text) → Stands text at (written names c ++ rest) → IsSpelt names text c at
    spelt (constant true) is small at rest h = record { form = truth true; words = word_reads at words.True; sound = refl; tree = refl }
    spelt (constant false) is small at rest h = record { form = truth false; words = word_reads at words.False; sound = refl; tree = refl }
    spelt (discrete p) is small at rest h = record {
      form = name_of (span_of at (name_at names.parameters p));
      words = name_reads at (name_at names.parameters p) is.word;
      sound = no_lone_flaw names text (span_of at (name_at names.parameters p)) (discrete p) (name_stands names text p at rest is h);
      tree = lone_tree names text (span_of at (name_at names.parameters p)) (discrete p) (name_stands names text p at rest is h);
    }
    spelt (valid p) is small at rest h =
        let within = inside text at words.Valid (name_at names.parameters p) rest h in
        record {
          form = valid_of (span_of (at + 6) (name_at names.parameters p));
          words = name_spelt words.Valid names.parameters p at is;
          sound = known_flaw names text names.parameters p (at + 6) (codes ")" ++ rest) is within;
          tree = ap valid (known_place names text names.parameters p (at + 6) (codes ")" ++ rest) is within);
        }
    spelt (compared p op x) is small at rest h =
        let name = name_at names.parameters p in
        let piece = name ++ spaced (sign_of op) in
        let within = front text at piece (signed_decimal x) rest h in
        let first = front text at name (spaced (sign_of op)) (signed_decimal x ++ rest) within in
        let place = at + length piece in
        let number = behind text at piece (signed_decimal x ++ rest) within in
        let span = span_of at name in
        let digits = span_of place (signed_decimal x) in
        record {
          form = compare_of span op digits;
          words = always_then_ended at piece (signed_decimal x) (Name span ∷ Sign op ∷ []) (Number digits ∷ [])
              (ended_then_always at name (spaced (sign_of op)) (Name span ∷ []) (Sign op ∷ []) (name_reads at name is.0.word) (λ rest. refl) (comparing (at + length name) op))
              (signed_reads place x is.1);
          sound = none_at_all (name_flaw names text names.parameters span) (compared_flaw names text digits)
              (known_flaw names text names.parameters p at (spaced (sign_of op) ++ (signed_decimal x ++ rest)) is.0 first)
              (value_flaw names text (neg_ℤ (pos 1000000)) (pos 1000000) x place (signed_decimal x) rest (signed_value x is.1) is.1 number);
          tree = compared_same (known_place names text names.parameters p at (spaced (sign_of op) ++ (signed_decimal x ++ rest)) is.0 first)
              (ap value (bytes_here text place (signed_decimal x) rest number) ∙ signed_value x is.1);
        }
    spelt (in_phase set) is small at rest h =
        let found = phase_spelt names text set (phases_of set) is.0 (phases_are_phases set) (phases_make_set set is.1) at rest h in
        record { form = found.form; words = found.words; sound = found.sound; tree = found.tree }
    spelt (alert a) is small at rest h =
        let within = inside text at words.Alert (name_at names.alerts a) rest h in
        record {
          form = alert_of (span_of (at + 6) (name_at names.alerts a));
          words = name_spelt words.Alert names.alerts a at is;
          sound = known_flaw names text names.alerts a (at + 6) (codes ")" ++ rest) is within;
          tree = ap alert (known_place names text names.alerts a (at + 6) (codes ")" ++ rest) is within);
        }
    spelt (press key) is small at rest h = record {
      form = press_of key;
      words = bracketed at words.Press (key_word key) (KeyWord key ∷ []) (key_reads (at + 6) key is);
      sound = refl;
      tree = refl;
    }
    spelt (computer n) is small at rest h =
        let fits : n < 2 ^ 64 = omega arith in
        let within = inside text at words.Fwc (decimal n) rest h in
        record {
          form = fwc_of (span_of (at + 4) (decimal n));
          words = bracketed at words.Fwc (decimal n) (Number (span_of (at + 4) (decimal n)) ∷ []) (number_reads (at + 4) n fits);
          sound = decimal_flaw names text 1 2 n (at + 4) (codes ")" ++ rest) is.0 is.1 fits within;
          tree = ap computer (decimal_amount names text n (at + 4) (codes ")" ++ rest) fits within);
        }
    spelt (negation c) is small at rest h =
        let of = spelt c is (omega arith) (at + 4) (codes ")" ++ rest) (inside text at words.Not (written names c) rest h) in
        record {
          form = not_of of.form;
          words = bracketed at words.Not (written names c) (spelling of.form) of.words;
          sound = of.sound;
          tree = ap negation of.tree;
        }
    spelt (risen c) is small at rest h =
        let of = spelt c is (omega arith) (at + 5) (codes ")" ++ rest) (inside text at words.Rise (written names c) rest h) in
        record {
          form = rise_of of.form;
          words = bracketed at words.Rise (written names c) (spelling of.form) of.words;
          sound = of.sound;
          tree = ap risen of.tree;
        }
    spelt (all none) is small at rest h = absurd is.0
    spelt (all (more c cs)) is small at rest h =
        let after = codes ")" ++ rest in
        let within = front text (at + 4) (written names c) (listed names false cs) after (inside text at words.All (listed names true (more c cs)) rest h) in
        let first = spelt c is.1.0 (omega arith) (at + 4) (listed names false cs ++ after) within in
        let others = all_spelt cs is.1.1 (omega arith) (at + 4 + length (written names c)) after (behind text (at + 4) (written names c) (listed names false cs ++ after) within) in
        record {
          form = all_of first.form others.forms;
          words = bracketed at words.All (listed names true (more c cs)) (spelling first.form ++ spellings others.forms) (list_reads names (at + 4) c cs first.form others.forms first.words others.words);
          sound = none_at_all (flaws names text first.form) (flaws_of_all names text others.forms) first.sound others.sound;
          tree = ap all (ap (λ (x : Tree). more x (trees_of_forms names text others.forms)) first.tree ∙ ap (λ (x : Trees). more c x) others.trees);
        }
    spelt (any none) is small at rest h = absurd is.0
    spelt (any (more c cs)) is small at rest h =
        let after = codes ")" ++ rest in
        let within = front text (at + 4) (written names c) (listed names false cs) after (inside text at words.Any (listed names true (more c cs)) rest h) in
        let first = spelt c is.1.0 (omega arith) (at + 4) (listed names false cs ++ after) within in
        let others = all_spelt cs is.1.1 (omega arith) (at + 4 + length (written names c)) after (behind text (at + 4) (written names c) (listed names false cs ++ after) within) in
        record {
          form = any_of first.form others.forms;
          words = bracketed at words.Any (listed names true (more c cs)) (spelling first.form ++ spellings others.forms) (list_reads names (at + 4) c cs first.form others.forms first.words others.words);
          sound = none_at_all (flaws names text first.form) (flaws_of_all names text others.forms) first.sound others.sound;
          tree = ap any (ap (λ (x : Tree). more x (trees_of_forms names text others.forms)) first.tree ∙ ap (λ (x : Trees). more c x) others.trees);
        }
    spelt (at_least n none) is small at rest h = absurd (omega arith)
    spelt (at_least n (more c cs)) is small at rest h =
        let fits : n < 2 ^ 64 = omega (arith, some_nodes c, counted_nodes cs) in
        let after = codes ")" ++ rest in
        let piece = decimal n ++ codes ", " in
        let list = listed names true (more c cs) in
        let within = front text (at + 8) piece list after (inside text at words.AtLeast (piece ++ list) rest h) in
        let number = front text (at + 8) (decimal n) (codes ", ") (list ++ after) within in
        let place = at + 8 + length piece in
        let members = front text place (written names c) (listed names false cs) after (behind text (at + 8) piece (list ++ after) within) in
        let first = spelt c is.2.0 (omega arith) place (listed names false cs ++ after) members in
        let others = all_spelt cs is.2.1 (omega arith) (place + length (written names c)) after (behind text place (written names c) (listed names false cs ++ after) members) in
        let span = span_of (at + 8) (decimal n) in
        let count : n ≤ suc (how_many others.forms) = omega (arith, others.count) in
        record {
          form = at_least_of span first.form others.forms;
          words = bracketed at words.AtLeast (piece ++ list) (Number span ∷ Comma ∷ spelling first.form ++ spellings others.forms)
              (always_then_ended (at + 8) piece list (Number span ∷ Comma ∷ []) (spelling first.form ++ spellings others.forms)
              (ended_then_always (at + 8) (decimal n) (codes ", ") (Number span ∷ []) (Comma ∷ []) (number_reads (at + 8) n fits) (λ rest. refl) (separating (at + 8 + length (decimal n))))
              (list_reads names place c cs first.form others.forms first.words others.words));
          sound = none_at_all (flaws names text first.form ++ flaws_of_all names text others.forms) (number_flaw names text (pos 1) (pos (suc (how_many others.forms))) span)
              (none_at_all (flaws names text first.form) (flaws_of_all names text others.forms) first.sound others.sound)
              (decimal_flaw names text 1 (suc (how_many others.forms)) n (at + 8) (codes ", " ++ (list ++ after)) is.0 count fits number);
          tree = at_least_same (decimal_amount names text n (at + 8) (codes ", " ++ (list ++ after)) fits number) first.tree others.trees;
        }
    spelt (confirmed c n) is small at rest h =
        let fits : n < 2 ^ 64 = omega arith in
        let after = codes ")" ++ rest in
        let piece = written names c ++ codes ", " in
        let within = front text (at + 5) piece (decimal n) after (inside text at words.Conf (piece ++ decimal n) rest h) in
        let of = spelt c is.1 (omega arith) (at + 5) (codes ", " ++ (decimal n ++ after)) (front text (at + 5) (written names c) (codes ", ") (decimal n ++ after) within) in
        let place = at + 5 + length piece in
        let number = behind text (at + 5) piece (decimal n ++ after) within in
        let span = span_of place (decimal n) in
        record {
          form = conf_of of.form span;
          words = timed_reads names at words.Conf c n of.form of.words fits;
          sound = none_at_all (flaws names text of.form) (moments_flaw names text span) of.sound (decimal_flaw names text 0 36000 n place after (omega arith) is.0 fits number);
          tree = ap (λ (x : Tree). confirmed x (amount names text span)) of.tree ∙ ap (λ (m : ℕ). confirmed c m) (decimal_amount names text n place after fits number);
        }
    spelt (held c n) is small at rest h =
        let fits : n < 2 ^ 64 = omega arith in
        let after = codes ")" ++ rest in
        let piece = written names c ++ codes ", " in
        let within = front text (at + 5) piece (decimal n) after (inside text at words.Hold (piece ++ decimal n) rest h) in
        let of = spelt c is.1 (omega arith) (at + 5) (codes ", " ++ (decimal n ++ after)) (front text (at + 5) (written names c) (codes ", ") (decimal n ++ after) within) in
        let place = at + 5 + length piece in
        let number = behind text (at + 5) piece (decimal n ++ after) within in
        let span = span_of place (decimal n) in
        record {
          form = hold_of of.form span;
          words = timed_reads names at words.Hold c n of.form of.words fits;
          sound = none_at_all (flaws names text of.form) (moments_flaw names text span) of.sound (decimal_flaw names text 0 36000 n place after (omega arith) is.0 fits number);
          tree = ap (λ (x : Tree). held x (amount names text span)) of.tree ∙ ap (λ (m : ℕ). held c m) (decimal_amount names text n place after fits number);
        }
    spelt (latched s r) is small at rest h =
        let after = codes ")" ++ rest in
        let piece = written names s ++ codes ", " in
        let within = front text (at + 6) piece (written names r) after (inside text at words.Latch (piece ++ written names r) rest h) in
        let set = spelt s is.0 (omega arith) (at + 6) (codes ", " ++ (written names r ++ after)) (front text (at + 6) (written names s) (codes ", ") (written names r ++ after) within) in
        let place = at + 6 + length piece in
        let reset = spelt r is.1 (omega arith) place after (behind text (at + 6) piece (written names r ++ after) within) in
        record {
          form = latch_of set.form reset.form;
          words = pair_reads names at words.Latch s r set.form reset.form set.words reset.words;
          sound = none_at_all (flaws names text set.form) (flaws names text reset.form) set.sound reset.sound;
          tree = ap (λ (x : Tree). latched x (tree_of_form names text reset.form)) set.tree ∙ ap (latched s) reset.tree;
        }

    pub all_spelt : (cs : Trees) → AreReadable names cs → nodes_of cs ≤ 64 → (at : ℕ) (rest : Text) → Stands text at (listed names false cs ++ rest) → AreSpelt names text cs at
    all_spelt none is small at rest h = record { forms = no_more; words = nothing at; sound = refl; trees = refl; count = refl }
    all_spelt (more c cs) is small at rest h =
        let piece = codes ", " ++ written names c in
        let further = listed names false cs in
        let split = front text at piece further rest h in
        let here = behind text at (codes ", ") (written names c ++ (further ++ rest)) (front text at (codes ", ") (written names c) (further ++ rest) split) in
        let first = spelt c is.0 (omega arith) (at + 2) (further ++ rest) here in
        let others = all_spelt cs is.1 (omega arith) (at + length piece) rest (behind text at piece (further ++ rest) split) in
        record {
          forms = and_then first.form others.forms;
          words = ended_then_ended at piece further (Comma ∷ spelling first.form) (spellings others.forms)
              (always_then_ended at (codes ", ") (written names c) (Comma ∷ []) (spelling first.form) (separating at) first.words)
              (further_delimit names cs) others.words;
          sound = none_at_all (flaws names text first.form) (flaws_of_all names text others.forms) first.sound others.sound;
          trees = ap (λ (x : Tree). more x (trees_of_forms names text others.forms)) first.tree ∙ ap (λ (x : Trees). more c x) others.trees;
          count = ap suc others.count;
        }
