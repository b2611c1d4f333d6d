-- The words of a history among words that are written: which they are, and when they are written.
use Rattle.std.proofs.Common.{◌≡◌, ℕ, zero, suc, ◌+◌, ◌-◌, ◌*◌, ◌%◌, ◌^◌, ◌<◌, ◌≤◌, Bool, true, false, not, ◌||◌, ◌&&◌, ◌==◌, List, [], ◌∷◌, ◌++◌, length, take, drop, cond, refl, sym, ap, ◌∙◌, subst, arith, inl, inr}
use Rattle.std.proofs.Math.Nat.{pow-le-pow_right}
use Rattle.std.proofs.lemmas.Bool.{cases_eq, eq-eqb, ne_eqb, eqb-true}
use Rattle.std.proofs.lemmas.List.{length-take}
use Rattle.std.specs.Prelude.{codes}
use Rattle.ecam_spec.specs.declared.kinds.Event.{Event}
use Rattle.ecam_spec.specs.declared.kinds.Sound.{Sound}
use Rattle.ecam_spec.specs.declared.kinds.Sound.TheVariants.{Quiet, Chime, Repetitive, Cavalry, Cricket}
use Rattle.ecam_spec.specs.Book.{Book}
use Rattle.ecam_spec.specs.History.{Moment, era}
use Rattle.ecam_spec.specs.Lamps.{warns, cautions, sound}
use Rattle.ecam_spec.specs.Output.{line}
use Rattle.ecam_spec.specs.Replay.{is_tick, tick_count, through, moment_of}
use Rattle.ecam_spec.specs.Situation.{phase_in, flight}
use Rattle.ecam_spec.specs.Screen.{attention}
use Rattle.ecam_spec.specs.Word.{label, sdi, ssm, is_odd}
use Rattle.arinc_words.specs.Composed.{composed}
use Rattle.arinc_words.proofs.Composed.{composed-label, composed-sdi, composed-ssm, composed-odd}
use Rattle.view_spec.specs.Ticks.{texts, each_tick, is_up, last_moment}
use Rattle.view_spec.specs.OutputWords.{word_count, label_of, sdi_of, sound_number, status_data, group_data, shown_flags, data_in, word_at, word, is_written, word_line, tick_text, words_text}
use Rattle.view_spec.proofs.TickLaws.{texts_below}
use Rattle.word_out.proofs.GroupBits.{number_of-small}
use Rattle.word_out.proofs.Loops.{alike_below}
use Rattle.word_out.proofs.Sent.{sent_lines, sent_text}
use Rattle.word_out.proofs.WordFields.{composed-small, phase-small}

-- ---- labels and SDIs

few_labels : (n : ℕ) → n ≤ 129 → label_of n < 256
unfolding label_of
few_labels zero within = omega arith
few_labels (suc g) within = omega arith

pub few_sdis : (n : ℕ) → sdi_of n ≤ 3
unfolding sdi_of
few_sdis zero = omega arith
few_sdis (suc g) = omega arith

-- a word's label and SDI tell which it is
told_apart : (n m : ℕ) → label_of n ≡ label_of m → sdi_of n ≡ sdi_of m → n ≡ m
unfolding label_of sdi_of
told_apart zero zero l s = refl
told_apart zero (suc g) l s = absurd (omega arith)
told_apart (suc g) zero l s = absurd (omega arith)
told_apart (suc g) (suc k) l s = omega arith

not_both : (n m : ℕ) (a c : Bool) → (label_of n == label_of m) ≡ a → (sdi_of n == sdi_of m) ≡ c → (n ≡ m → ⊥) → (a && c) ≡ false
not_both n m true true l s other = absurd (other (told_apart n m (eqb-true _ _ l) (eqb-true _ _ s)))
not_both n m true false l s other = refl
not_both n m false c l s other = refl

pub same_word : (n m : ℕ) → (label_of n == label_of m && sdi_of n == sdi_of m) ≡ (n == m)
same_word n m =
    elim (cases_eq n m) [
      | inl here ↦
          let l = eq-eqb (label_of n) (label_of m) (ap label_of here) in
          let s = eq-eqb (sdi_of n) (sdi_of m) (ap sdi_of here) in
          let e = eq-eqb n m here in
          rw (l, s, e) refl
      | inr other ↦
          let e = ne_eqb n m other in
          rw e (not_both n m (label_of n == label_of m) (sdi_of n == sdi_of m) refl refl other)
    ]

-- ---- the data are small

few_sounds : (s : Sound) → sound_number s ≤ 4
few_sounds Quiet = omega arith
few_sounds Chime = omega arith
few_sounds Repetitive = omega arith
few_sounds Cavalry = omega arith
few_sounds Cricket = omega arith

module _ (b : Book) (m : ℕ → Moment) (k : ℕ) where
  status-small : data_in b m k 0 < 2 ^ 19
  unfolding data_in status_data phase_in
  status-small =
      let a = attention b m in
      let lights = number_of-small (warns a k ∷ cautions a k ∷ []) in
      omega (arith, lights, few_sounds (sound a k), phase-small (flight b m) k)

  pub data-small : (n : ℕ) → data_in b m k n < 2 ^ 19
  unfolding data_in group_data
  data-small zero = status-small
  data-small (suc g) =
      let bits : List Bool = take 16 (drop (16 * g) (shown_flags b m k)) in
      let few : length bits ≤ 16 = omega (arith, length-take 16 (drop (16 * g) (shown_flags b m k))) in
      let high : 2 ^ length bits ≤ 2 ^ 16 = pow-le-pow_right (omega arith) few in
      omega (arith, number_of-small bits)

-- ---- the words

-- a word with the label and the SDI of its number
pub record Carries (n w : ℕ) (field status : ℕ) : Type 0 where
  pub is : w ≡ composed (label_of n) (sdi_of n) field status
  pub few : field < 2 ^ 19
  pub most : status ≤ 3

module _ (b : Book) (h : List Event) (n : ℕ) where
  pub carries : Carries n (word_at b h n) (cond (is_up h) (data_in b (moment_of (era h)) (last_moment (era h)) n) 0) (cond (is_up h) 0 1)
  unfolding word_at
  carries = by (is_up h) where
    by : (up : Bool) → Carries n (cond up (composed (label_of n) (sdi_of n) (data_in b (moment_of (era h)) (last_moment (era h)) n) 0) (composed (label_of n) (sdi_of n) 0 1)) (cond up (data_in b (moment_of (era h)) (last_moment (era h)) n) 0) (cond up 0 1)
    by true = record { is = refl; few = data-small b (moment_of (era h)) (last_moment (era h)) n; most = omega arith }
    by false = record { is = refl; few = omega arith; most = omega arith }

module _ (n w field status : ℕ) (c : Carries n w field status) where
  pub carried-small : w < 2 ^ 32
  carried-small = subst (λ x. x < 2 ^ 32) (sym c.is) (composed-small (label_of n) (sdi_of n) field status (few_sdis n) c.few c.most)

  module _ (known : n ≤ 129) where
    pub carried-label : label w ≡ label_of n
    carried-label = ap label c.is ∙ composed-label (label_of n) (sdi_of n) field status (few_labels n known) (few_sdis n) c.few c.most

    pub carried-sdi : sdi w ≡ sdi_of n
    carried-sdi = ap sdi c.is ∙ composed-sdi (label_of n) (sdi_of n) field status (few_labels n known) (few_sdis n) c.few c.most

    pub carried-ssm : ssm w ≡ status
    carried-ssm = ap ssm c.is ∙ composed-ssm (label_of n) (sdi_of n) field status (few_labels n known) (few_sdis n) c.few c.most

    pub carried-odd : is_odd w ≡ true
    carried-odd = ap is_odd c.is ∙ composed-odd (label_of n) (sdi_of n) field status (few_labels n known) (few_sdis n) c.few c.most

-- ---- when they are written

unchanged : (a c : Bool) → (a || not c) ≡ false → c ≡ true
unchanged true c e = absurd (let w : ⊥ = cc in w)
unchanged false true e = refl
unchanged false false e = sym e

module _ (b : Book) (h : List Event) where
  pub written_when_due : (t n : ℕ) → t % 100 ≡ 0 → is_written b h t n ≡ true
  unfolding is_written
  written_when_due t n due = ap (λ k. k == 0 || not (word b h t n == word b h (t - 1) n)) due

  pub same_when_not : (t n : ℕ) → is_written b h (suc t) n ≡ false → word b h (suc t) n ≡ word b h t n
  unfolding is_written
  same_when_not t n off =
      let e : suc t - 1 ≡ t = omega arith in
      eqb-true _ _ (unchanged (suc t % 100 == 0) (word b h (suc t) n == word b h (suc t - 1) n) off) ∙ ap (λ k. word b h k n) e

-- ---- the text of a Tick by the history up to it, and by the whole

pub through_twice : (h : List Event) (n m : ℕ) → n ≤ m → through n (through m h) ≡ through n h
unfolding through
through_twice [] zero m within = refl
through_twice [] (suc n) zero within = absurd (omega arith)
through_twice [] (suc n) (suc m) within = refl
through_twice (e ∷ h) zero m within = refl
through_twice (e ∷ h) (suc n) zero within = absurd (omega arith)
through_twice (e ∷ h) (suc n) (suc m) within =
    ap (λ l. e ∷ l)
    (elim (is_tick e) as (λ t. through (cond t n (suc n)) (through (cond t m (suc m)) h) ≡ through (cond t n (suc n)) h) [
      | true ↦ through_twice h n m (omega arith)
      | false ↦ through_twice h (suc n) (suc m) within
    ])

module _ (b : Book) (h : List Event) where
  word_up_to : (t s n : ℕ) → s ≤ t → word b (through (t + 1) h) s n ≡ word b h s n
  unfolding word
  word_up_to t s n within = ap (λ g. word_at b g n) (through_twice h (s + 1) (t + 1) (omega arith))

  tick_text-sent : (t : ℕ) → tick_text b t (through (t + 1) h) ≡ sent_text (is_written b h) (word b h) (word_count b) t
  unfolding tick_text sent_lines is_written
  tick_text-sent t =
      ap (λ l. l ++ line (codes "T")) (alike_below _ _ (word_count b) (λ n within.
      ap (λ x. cond (t % 100 == 0 || not (x == word b (through (t + 1) h) (t - 1) n)) (word_line x) []) (word_up_to t t n (omega arith))
      ∙ ap (λ x. cond (t % 100 == 0 || not (word b h t n == x)) (word_line (word b h t n)) []) (word_up_to t (t - 1) n (omega arith))))

  pub words_text-sent : words_text b h ≡ texts (sent_text (is_written b h) (word b h) (word_count b)) (tick_count h)
  unfolding each_tick
  words_text-sent = texts_below _ _ (tick_count h) (λ t within. tick_text-sent t)
