-- The moments of the record of words that are written: one a Tick, in which these words come.
use Rattle.std.proofs.Common.{◌≡◌, ℕ, zero, suc, ◌<◌, Bool, true, false, List, [], ◌∷◌, ◌++◌, length, cond, refl, sym, ap, ◌∙◌, subst, arith, inl, inr, append-nil, append_assoc}
use Rattle.std.proofs.lemmas.Bool.{cases_eq}
use Rattle.std.proofs.lemmas.List.Concat.{flat_map-append}
use Rattle.std.specs.Prelude.{flat_map}
use Rattle.ecam_spec.specs.declared.kinds.Event.{Event}
use Rattle.ecam_spec.specs.declared.kinds.Event.TheVariants.{Word, Tick}
use Rattle.ecam_spec.specs.Places.{below}
use Rattle.ecam_spec.specs.Value.{BusWord}
use Rattle.ecam_spec.specs.History.{Moment, Era, era_with, era}
use Rattle.ecam_spec.specs.Replay.{moment_of}
use Rattle.ecam_spec.proofs.HistoryLaws.{era_goes_on, era_nil}
use Rattle.ecam_spec.proofs.MomentSteps.{moments_kept, moment_kept, moment_tick, length_tick, moment_begun, moment_word}
use Rattle.word_out.proofs.Sent.{sent_events, all_events}

abbrev pub on_bus : ℕ → BusWord
on_bus w = record { bus = 15; bits = w }

module _ (written : ℕ → ℕ → Bool) (word : ℕ → ℕ → ℕ) (count : ℕ) where
  -- the first n words, as far as they are written at Tick t
  unfoldable pub sent_words : ℕ → ℕ → List BusWord
  sent_words t n = flat_map (λ i. cond (written t i) (on_bus (word t i) ∷ []) []) (below n)

  pub sent-next : (t n : ℕ) → sent_words t (suc n) ≡ sent_words t n ++ cond (written t n) (on_bus (word t n) ∷ []) []
  unfolding sent_words below
  sent-next t n = flat_map-append _ (below n) (n ∷ []) ∙ ap (λ l. sent_words t n ++ l) (append-nil (cond (written t n) (on_bus (word t n) ∷ []) []))

  said-next : (t n : ℕ) → sent_events written word count t (suc n) ≡ sent_events written word count t n ++ cond (written t n) (Word 15 (word t n) ∷ []) []
  unfolding sent_events below
  said-next t n = flat_map-append _ (below n) (n ∷ []) ∙ ap (λ l. sent_events written word count t n ++ l) (append-nil (cond (written t n) (Word 15 (word t n) ∷ []) []))

  -- an era of k moments, with the words of each, and these in the moment that hasn't ended
  pub record Holds (e : Era) (k : ℕ) (now : List BusWord) : Type 0 where
    pub many : length e.moments ≡ k
    pub before : (t : ℕ) → t < k → (moment_of e t).words ≡ sent_words t count
    pub open_words : (moment_of e k).words ≡ now

  hold_word : (e : Era) (k x : ℕ) (now : List BusWord) → Holds e k now → Holds (era_with e (Word 15 x)) k (now ++ on_bus x ∷ [])
  hold_word e k x now holds = record {
    many = ap length (moments_kept e (Word 15 x) refl) ∙ holds.many;
    before = λ t within. ap (λ (m : Moment). m.words) (moment_kept e (Word 15 x) t refl (omega (arith, holds.many))) ∙ holds.before t within;
    open_words = ap (λ j. (moment_of (era_with e (Word 15 x)) j).words) (sym holds.many)
        ∙ ap (λ (m : Moment). m.words) (moment_word e 15 x)
        ∙ ap (λ ws. ws ++ on_bus x ∷ []) (ap (λ j. (moment_of e j).words) holds.many ∙ holds.open_words);
  }

  hold_tick : (e : Era) (k : ℕ) → Holds e k (sent_words k count) → Holds (era_with e Tick) (suc k) []
  hold_tick e k holds = record {
    many = length_tick e ∙ ap suc holds.many;
    before = λ t within.
        ap (λ (m : Moment). m.words) (moment_tick e t (omega (arith, holds.many)))
        ∙ elim (cases_eq t k) [
          | inl here ↦ ap (λ j. (moment_of e j).words) here ∙ holds.open_words ∙ ap (λ j. sent_words j count) (sym here)
          | inr other ↦ holds.before t (omega arith)
        ];
    open_words = ap (λ j. (moment_of (era_with e Tick) j).words) (ap suc (sym holds.many)) ∙ ap (λ (m : Moment). m.words) (moment_begun e);
  }

  hold_one : (es : List Event) (k x : ℕ) (is : Bool) (now : List BusWord) → Holds (era es) k now → Holds (era (es ++ cond is (Word 15 x ∷ []) [])) k (now ++ cond is (on_bus x ∷ []) [])
  hold_one es k x true now holds =
      subst (λ e. Holds e k (now ++ on_bus x ∷ [])) (sym (era_goes_on es (Word 15 x) refl)) (hold_word (era es) k x now holds)
  hold_one es k x false now holds =
      subst (λ g. Holds (era g) k (now ++ [])) (sym (append-nil es)) (subst (λ ws. Holds (era es) k ws) (sym (append-nil now)) holds)

  hold_words : (n : ℕ) (es : List Event) (k : ℕ) → Holds (era es) k [] → Holds (era (es ++ sent_events written word count k n)) k (sent_words k n)
  unfolding sent_events sent_words below
  hold_words zero es k holds = subst (λ g. Holds (era g) k []) (sym (append-nil es)) holds
  hold_words (suc n) es k holds =
      let said : List Event = sent_events written word count k n in
      let event : List Event = cond (written k n) (Word 15 (word k n) ∷ []) [] in
      let one = hold_one (es ++ said) k (word k n) (written k n) (sent_words k n) (hold_words n es k holds) in
      let events_are : (es ++ said) ++ event ≡ es ++ sent_events written word count k (suc n) = append_assoc es said event ∙ ap (λ l. es ++ l) (sym (said-next k n)) in
      subst (λ g. Holds (era g) k (sent_words k (suc n))) events_are (subst (λ ws. Holds (era ((es ++ said) ++ event)) k ws) (sym (sent-next k n)) one)

  -- the whole record
  pub hold_all : (n : ℕ) → Holds (era (all_events written word count n)) n []
  unfolding all_events moment_of
  hold_all zero = subst (λ e. Holds e 0 []) (sym era_nil) (record {
    many = refl;
    before = λ t within. absurd (omega arith);
    open_words = refl;
  })
  hold_all (suc t) =
      let es : List Event = all_events written word count t in
      let said : List Event = sent_events written word count t count in
      subst (λ e. Holds e (suc t) []) (sym (era_goes_on (es ++ said) Tick refl)) (hold_tick (era (es ++ said)) t (hold_words count es t (hold_all t)))
