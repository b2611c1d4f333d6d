-- Conditions none of whose atoms is so, for some test of atoms: what such atoms have, the condition has.
use Rattle.std.proofs.Common.{◌≡◌, ℕ, ◌<◌, Bool, true, false, refl}
use Rattle.std.proofs.lemmas.Bool.{or_parts}
use Rattle.ecam_spec.specs.Book.{Tree, Trees, constant, discrete, valid, compared, in_phase, alert, press, computer, negation, all, any, at_least, confirmed, held, risen, latched, none, more}
use Rattle.ecam_spec.specs.DraftFaults.{has_atom, have_atom}
use Rattle.ecam_spec.specs.Term.{World}
use Rattle.ecam_spec.specs.TermNames.{IsWithin, AreWithin, AgreeOn, AgreeOnAll}

-- the condition is an atom
abbrev pub is_atom : Tree → Bool
is_atom (negation c) = false
is_atom (all cs) = false
is_atom (any cs) = false
is_atom (at_least n cs) = false
is_atom (confirmed c n) = false
is_atom (held c n) = false
is_atom (risen c) = false
is_atom (latched s r) = false
is_atom _ = true

-- worlds that agree on each atom that isn't so agree on each condition without an atom that is
module _ (v w : World) (i : ℕ) (is_so : Tree → Bool) (atoms : (c : Tree) → is_atom c ≡ true → is_so c ≡ false → AgreeOn v w i c) where
  mutual
    unfolding AgreeOn has_atom

    pub agree-without : (c : Tree) → has_atom is_so c ≡ false → AgreeOn v w i c
    agree-without (constant b) h = atoms (constant b) refl h
    agree-without (discrete p) h = atoms (discrete p) refl h
    agree-without (valid p) h = atoms (valid p) refl h
    agree-without (compared p op x) h = atoms (compared p op x) refl h
    agree-without (in_phase set) h = atoms (in_phase set) refl h
    agree-without (alert a) h = atoms (alert a) refl h
    agree-without (press key) h = atoms (press key) refl h
    agree-without (computer n) h = atoms (computer n) refl h
    agree-without (negation c) h = agree-without c h
    agree-without (all cs) h = agree-without-all cs h
    agree-without (any cs) h = agree-without-all cs h
    agree-without (at_least n cs) h = agree-without-all cs h
    agree-without (confirmed c n) h = agree-without c h
    agree-without (held c n) h = agree-without c h
    agree-without (risen c) h = agree-without c h
    agree-without (latched s r) h = (agree-without s ((or_parts (has_atom is_so s) (has_atom is_so r) h).0), agree-without r ((or_parts (has_atom is_so s) (has_atom is_so r) h).1))

    pub agree-without-all : (cs : Trees) → have_atom is_so cs ≡ false → AgreeOnAll v w i cs
    agree-without-all none h = tt
    agree-without-all (more c cs) h = (agree-without c ((or_parts (has_atom is_so c) (have_atom is_so cs) h).0), agree-without-all cs ((or_parts (has_atom is_so c) (have_atom is_so cs) h).1))

-- a condition whose alerts that aren't so are below i names alerts below i
module _ (params n i : ℕ) (is_so : Tree → Bool) (low : (a : ℕ) → is_so (alert a) ≡ false → a < i) where
  mutual
    unfolding IsWithin has_atom

    pub narrow : (c : Tree) → IsWithin params n c → has_atom is_so c ≡ false → IsWithin params i c
    narrow (constant b) within h = tt
    narrow (discrete p) within h = within
    narrow (valid p) within h = within
    narrow (compared p op x) within h = within
    narrow (in_phase set) within h = tt
    narrow (alert a) within h = low a h
    narrow (press key) within h = within
    narrow (computer m) within h = within
    narrow (negation c) within h = narrow c within h
    narrow (all cs) within h = narrow-all cs within h
    narrow (any cs) within h = narrow-all cs within h
    narrow (at_least m cs) within h = narrow-all cs within h
    narrow (confirmed c m) within h = narrow c within h
    narrow (held c m) within h = narrow c within h
    narrow (risen c) within h = narrow c within h
    narrow (latched s r) within h = (narrow s within.0 ((or_parts (has_atom is_so s) (has_atom is_so r) h).0), narrow r within.1 ((or_parts (has_atom is_so s) (has_atom is_so r) h).1))

    pub narrow-all : (cs : Trees) → AreWithin params n cs → have_atom is_so cs ≡ false → AreWithin params i cs
    narrow-all none within h = tt
    narrow-all (more c cs) within h = (narrow c within.0 ((or_parts (has_atom is_so c) (have_atom is_so cs) h).0), narrow-all cs within.1 ((or_parts (has_atom is_so c) (have_atom is_so cs) h).1))
