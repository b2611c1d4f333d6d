-- How long a written condition is at most.
use Rattle.std.proofs.Common.{◌≡◌, ℕ, zero, suc, ◌+◌, ◌*◌, ◌≤◌, Bool, true, false, cond, List, [], ◌∷◌, ◌++◌, length, ℤ, pos, negsuc, refl, arith, length-append}
use Rattle.std.specs.Prelude.{codes, decimal, filter}
use Rattle.std.specs.Fmt.{signed_decimal}
use Rattle.std.proofs.lemmas.Fmt.{length-decimal-le}
use Rattle.ecam_spec.specs.Book.{Text, Tree, Trees, constant, discrete, valid, compared, in_phase, alert, press, computer, negation, all, any, at_least, confirmed, held, risen, latched, none, more}
use Rattle.ecam_spec.specs.declared.kinds.Key.{Key}
use Rattle.ecam_spec.specs.declared.kinds.Key.TheVariants.{Clr, Rcl, Sts, All, Emer, ToCfg, Mw, Mc, Page}
use Rattle.ecam_spec.specs.declared.kinds.Op.{Op}
use Rattle.ecam_spec.specs.declared.kinds.Op.TheVariants.{Less, LessEq, More, MoreEq, Equal, Differ}
use Rattle.ecam_spec.specs.Keys.{IsKey}
use Rattle.ecam_spec.specs.Term.{in_set}
use Rattle.ecam_spec.specs.TermSize.{nodes, nodes_of}
use Rattle.ecam_spec.specs.TermText.{TermNames}
use Rattle.term_text.specs.Written.{name_at, key_word, sign_of, spaced, enclosed, numbers_from, numbers_after, phases_of, listed_numbers, written, listed}
use Rattle.term_text.proofs.NodeCounts.{counted_nodes}
use Rattle.term_text.proofs.PhaseSets.{ArePhases, phases_are_phases}
use Rattle.term_text.specs.Readable.{IsComparable, IsReadable, AreReadable}
use Rattle.term_text.proofs.AtomsRead.{low_bound, high_bound}

short_sign : (op : Op) → length (spaced (sign_of op)) ≤ 4
short_sign Less = omega arith
short_sign LessEq = omega arith
short_sign More = omega arith
short_sign MoreEq = omega arith
short_sign Equal = omega arith
short_sign Differ = omega arith

short_key : (key : Key) → IsKey key → length (key_word key) ≤ 5
short_key Clr is = omega arith
short_key Rcl is = omega arith
short_key Sts is = omega arith
short_key All is = omega arith
short_key Emer is = omega arith
short_key ToCfg is = omega arith
short_key Mw is = omega arith
short_key Mc is = omega arith
short_key (Page p) is = let digits = length-decimal-le 2 p (omega arith) (omega arith) (omega arith) in omega arith

short_number : (x : ℤ) → IsComparable x → length (signed_decimal x) ≤ 8
short_number (pos n) small = let within = high_bound n small in let digits = length-decimal-le 7 n (omega arith) (omega arith) (omega arith) in omega arith
short_number (negsuc n) small = let within = low_bound n small in let digits = length-decimal-le 7 (suc n) (omega arith) (omega arith) (omega arith) in omega arith

-- a list of phases takes four bytes for each
short_numbers : (is_first : Bool) (ps : List ℕ) → ArePhases ps → length (numbers_after is_first ps) ≤ 4 * length ps
unfolding numbers_after
short_numbers is_first [] are = omega arith
short_numbers true (p ∷ ps) are =
    let digits = length-decimal-le 2 p (omega arith) (omega arith) (omega arith) in
    let others = short_numbers false ps are.2 in
    omega (arith, length-append (decimal p) (numbers_after false ps))
short_numbers false (p ∷ ps) are =
    let digits = length-decimal-le 2 p (omega arith) (omega arith) (omega arith) in
    let others = short_numbers false ps are.2 in
    omega (arith, length-append (decimal p) (numbers_after false ps))

kept_length : (b : Bool) (p : ℕ) (ps : List ℕ) (n : ℕ) → length ps ≤ n → length (cond b (p ∷ ps) ps) ≤ suc n
kept_length true p ps n h = omega arith
kept_length false p ps n h = omega arith

few_numbers : (set c first : ℕ) → length (filter (in_set set) (numbers_from c first)) ≤ c
unfolding numbers_from
few_numbers set zero first = omega arith
few_numbers set (suc c) first = kept_length (in_set set first) first (filter (in_set set) (numbers_from c (suc first))) c (few_numbers set c (suc first))

short_phases : (set : ℕ) → length (listed_numbers (phases_of set)) ≤ 40
short_phases set =
    let few = few_numbers set 10 1 in
    let short = short_numbers true (phases_of set) (phases_are_phases set) in
    omega arith

-- brackets, and a word of at most eight bytes with the opening one
enclosed_length : (opening inner : Text) → length (enclosed opening inner) ≡ length opening + length inner + 1
enclosed_length opening inner = simp length-append refl

module _ (names : TermNames) where
  mutual
    unfolding written nodes IsReadable

    -- each node has at most 64 bytes with what separates it from the one before
    pub written_length : (c : Tree) → IsReadable names c → nodes c ≤ 64 → length (written names c) + 2 ≤ 64 * nodes c
    written_length (constant true) is small = omega arith
    written_length (constant false) is small = omega arith
    written_length (discrete p) is small = omega arith
    written_length (valid p) is small = omega (arith, enclosed_length (codes "valid(") (name_at names.parameters p))
    written_length (compared p op x) is small =
        let sign = short_sign op in
        let number = short_number x is.1 in
        omega (arith, length-append (name_at names.parameters p ++ spaced (sign_of op)) (signed_decimal x), length-append (name_at names.parameters p) (spaced (sign_of op)))
    written_length (in_phase set) is small = omega (arith, short_phases set, enclosed_length (codes "phase(") (listed_numbers (phases_of set)))
    written_length (alert a) is small = omega (arith, enclosed_length (codes "alert(") (name_at names.alerts a))
    written_length (press key) is small = omega (arith, short_key key is, enclosed_length (codes "press(") (key_word key))
    written_length (computer n) is small =
        let digits = length-decimal-le 1 n (omega arith) (omega arith) (omega arith) in
        omega (arith, enclosed_length (codes "fwc(") (decimal n))
    written_length (negation c) is small = omega (arith, written_length c is (omega arith), enclosed_length (codes "not(") (written names c))
    written_length (all cs) is small = omega (arith, listed_length true cs is.1 (omega arith), enclosed_length (codes "all(") (listed names true cs))
    written_length (any cs) is small = omega (arith, listed_length true cs is.1 (omega arith), enclosed_length (codes "any(") (listed names true cs))
    written_length (at_least n cs) is small =
        let few = counted_nodes cs in
        let digits = length-decimal-le 2 n (omega arith) (omega arith) (omega arith) in
        let members = listed_length true cs is.2 (omega arith) in
        let piece = decimal n ++ codes ", " in
        omega (arith, length-append piece (listed names true cs), length-append (decimal n) (codes ", "), enclosed_length (codes "atleast(") (piece ++ listed names true cs))
    written_length (confirmed c n) is small =
        let digits = length-decimal-le 5 n (omega arith) (omega arith) (omega arith) in
        let of = written_length c is.1 (omega arith) in
        let piece = written names c ++ codes ", " in
        omega (arith, length-append piece (decimal n), length-append (written names c) (codes ", "), enclosed_length (codes "conf(") (piece ++ decimal n))
    written_length (held c n) is small =
        let digits = length-decimal-le 5 n (omega arith) (omega arith) (omega arith) in
        let of = written_length c is.1 (omega arith) in
        let piece = written names c ++ codes ", " in
        omega (arith, length-append piece (decimal n), length-append (written names c) (codes ", "), enclosed_length (codes "hold(") (piece ++ decimal n))
    written_length (risen c) is small = omega (arith, written_length c is (omega arith), enclosed_length (codes "rise(") (written names c))
    written_length (latched s r) is small =
        let set = written_length s is.0 (omega arith) in
        let reset = written_length r is.1 (omega arith) in
        let piece = written names s ++ codes ", " in
        omega (arith, length-append piece (written names r), length-append (written names s) (codes ", "), enclosed_length (codes "latch(") (piece ++ written names r))

    listed_length : (is_first : Bool) (cs : Trees) → AreReadable names cs → nodes_of cs ≤ 64 → length (listed names is_first cs) ≤ 64 * nodes_of cs
    listed_length is_first none are small = omega arith
    listed_length true (more c cs) are small =
        let here = written_length c are.0 (omega arith) in
        let others = listed_length false cs are.1 (omega arith) in
        omega (arith, length-append (written names c) (listed names false cs))
    listed_length false (more c cs) are small =
        let here = written_length c are.0 (omega arith) in
        let others = listed_length false cs are.1 (omega arith) in
        omega (arith, length-append (written names c) (listed names false cs))
