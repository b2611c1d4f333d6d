-- Conditions that are taken off those that were read, one for each form.
use Rattle.std.proofs.Common.{◌≡◌, ℕ, zero, suc, List, [], ◌∷◌, Option, Some, None, refl, sym, ap, subst}
use Rattle.std.specs.Prelude.{option_map}
use Rattle.ecam_spec.specs.Book.{Text}
use Rattle.ecam_spec.specs.Grammar.{Form, Forms, and_then}
use Rattle.ecam_spec.specs.TermText.{TermNames}
use Rattle.ecam_spec.proofs.TermReading.{gathered}
use Rattle.term_text.specs.declared.part.Part.{Part}
use Rattle.term_text.specs.declared.members.Members.{Members}
use Rattle.term_text.specs.Parts.{JudgesForm, JudgesForms, StandFor}

-- the conditions of a list, and those that are left
abbrev pub Gathered : Type 0
Gathered = Forms × List Form

-- so many conditions of a list, taken off those that were read
abbrev pub gather : ℕ → Forms → List Form → Option Gathered
gather zero fs left = Some (fs, left)
gather (suc n) fs [] = None
gather (suc n) fs (f ∷ left) = gather n (and_then f fs) left

pub gather_all : (n : ℕ) (gs : Forms) (read older : List Form) (f : Form) (fs : Forms) → gathered n gs read ≡ Some (f, fs, older) → gather (suc n) gs read ≡ Some (and_then f fs, older)
gather_all n gs [] older f fs e = absurd cc
gather_all zero gs (g ∷ read) older f fs e = ap (option_map (λ (t : Form × Forms × List Form). (and_then t.0 t.1, t.2))) e
gather_all (suc n) gs (g ∷ read) older f fs e = gather_all n (and_then g gs) read older f fs e

-- the condition on top stands for the form on top
pub record Top (names : TermNames) (text : Text) (ps : List Part) (f : Form) (older : List Form) : Type 0 where
  pub part : Part
  pub rest : List Part
  pub is : ps ≡ part ∷ rest
  pub judged : JudgesForm names text part f
  pub stand : StandFor names text rest older

pub top_of : (names : TermNames) (text : Text) (ps : List Part) (f : Form) (older : List Form) → StandFor names text ps (f ∷ older) → Top names text ps f older
top_of names text [] f older h = absurd h
top_of names text (p ∷ ps) f older h = record { part = p; rest = ps; is = refl; judged = h.0; stand = h.1 }

-- so far, the members stand for some forms, and what is left for others
pub record SoFar (names : TermNames) (text : Text) (m : Members) (ps : List Part) (left : ℕ) (all : Gathered) : Type 0 where
  pub taken : Forms
  pub read : List Form
  pub members : JudgesForms names text m taken
  pub stand : StandFor names text ps read
  pub goes_on : gather left taken read ≡ Some all

module _ (names : TermNames) (text : Text) where
  one_taken : (m m2 : Members) (ps ps2 : List Part) (popped : Part) (k : ℕ) (all : Gathered) (taken : Forms) (read : List Form)
      → ((top : Part) (rest : List Part) → ps ≡ top ∷ rest → (popped ≡ top) × (ps2 ≡ rest))
      → ((f : Form) (fs : Forms) → JudgesForm names text popped f → JudgesForms names text m fs → JudgesForms names text m2 (and_then f fs))
      → JudgesForms names text m taken → StandFor names text ps read → gather (suc k) taken read ≡ Some all → SoFar names text m2 ps2 k all
  one_taken m m2 ps ps2 popped k all taken [] pop add members stand goes_on = absurd cc
  one_taken m m2 ps ps2 popped k all taken (f ∷ read) pop add members stand goes_on =
      let top = top_of names text ps f read stand in
      let is = pop top.part top.rest top.is in
      record {
        taken = and_then f taken;
        read = read;
        members = add f taken (subst (λ (p : Part). JudgesForm names text p f) (sym is.0) top.judged) members;
        stand = subst (λ (rest : List Part). StandFor names text rest read) (sym is.1) top.stand;
        goes_on = goes_on;
      }

  pub next_taken : (m m2 : Members) (ps ps2 : List Part) (popped : Part) (n k : ℕ) (all : Gathered) → n ≡ suc k
      → ((top : Part) (rest : List Part) → ps ≡ top ∷ rest → (popped ≡ top) × (ps2 ≡ rest))
      → ((f : Form) (fs : Forms) → JudgesForm names text popped f → JudgesForms names text m fs → JudgesForms names text m2 (and_then f fs))
      → SoFar names text m ps n all → SoFar names text m2 ps2 k all
  next_taken m m2 ps ps2 popped n k all e pop add s =
      one_taken m m2 ps ps2 popped k all s.taken s.read pop add s.members s.stand (subst (λ (x : ℕ). gather x s.taken s.read ≡ Some all) e s.goes_on)

  pub all_taken : (m : Members) (ps : List Part) (n : ℕ) (all : Gathered) → n ≡ 0 → SoFar names text m ps n all → JudgesForms names text m all.0 × StandFor names text ps all.1
  all_taken m ps n all e s =
      let same : Some (s.taken, s.read) ≡ Some all = subst (λ (x : ℕ). gather x s.taken s.read ≡ Some all) e s.goes_on in
      let is : (s.taken, s.read) ≡ all = cc in
      (subst (λ (g : Gathered). JudgesForms names text m g.0) is s.members, subst (λ (g : Gathered). StandFor names text ps g.1) is s.stand)
