-- What the record's definitions say of a place does not hang on the bytes from that place on.
use Rattle.std.proofs.Common.{◌≡◌, ℕ, zero, suc, ◌+◌, ◌<◌, ◌≤◌, Bool, true, false, ◌&&◌, ◌==◌, List, ◌++◌, length, take, drop, Some, None, cond, refl, sym, ◌∙◌, ap, arith, add-zero}
use Rattle.std.proofs.Math.ListN.{get_or-append}
use Rattle.std.proofs.lemmas.List.{take-append-le}
use Rattle.std.specs.Option.{option_or}
use Rattle.ecam_spec.specs.Past.{once, previous, moment_after}
use Rattle.ecam_spec.specs.Places.{first_place}
use Rattle.ecam_spec.specs.RecordLine.{is_end}
use Rattle.ecam_spec.specs.Record.{is_feed, line_start, line_before, line_number, ends_record, wrong_at}
use Rattle.ecam_spec.proofs.PastSteps.{once-below}
use Rattle.ecam_spec.proofs.PastAgree.{last-below, count_up_to-below}

-- ---- places

pub first_place-suc : (p : ℕ → Bool) (n : ℕ) → first_place p (suc n) ≡ option_or (first_place p n) (cond (p n) (Some n) None)
unfolding first_place
first_place-suc p n = elim (p n) as (λ b. option_or (first_place p n) (elim b [ true ↦ Some n | false ↦ None ]) ≡ option_or (first_place p n) (cond b (Some n) None)) [ true ↦ refl | false ↦ refl ]

pub first_place-zero : (p : ℕ → Bool) → first_place p 0 ≡ None
unfolding first_place
first_place-zero p = refl

pub first_place-below : (p q : ℕ → Bool) (n : ℕ) → ((i : ℕ) → i < n → p i ≡ q i) → first_place p n ≡ first_place q n
first_place-below p q zero same = first_place-zero p ∙ sym (first_place-zero q)
first_place-below p q (suc n) same =
    let earlier : first_place p n ≡ first_place q n = first_place-below p q n (λ i h. same i (omega arith)) in
    let now : p n ≡ q n = same n (omega arith) in
    cc (first_place-suc p n, first_place-suc q n)

-- the first place that passes stays the first, however many follow
pub first_place-stays : (p : ℕ → Bool) (n m : ℕ) → first_place p n ≡ None → p n ≡ true → first_place p (suc n + m) ≡ Some n
first_place-stays p n zero none here =
    let top : first_place p (suc n) ≡ Some n = first_place-suc p n ∙ ap (λ o. option_or o (cond (p n) (Some n) None)) none ∙ ap (λ b. cond b (Some n) None) here in
    rw add-zero top
first_place-stays p n (suc m) none here =
    let earlier : first_place p (suc n + m) ≡ Some n = first_place-stays p n m none here in
    let shift : suc n + suc m ≡ suc (suc n + m) = omega arith in
    ap (first_place p) shift ∙ first_place-suc p (suc n + m) ∙ ap (λ o. option_or o (cond (p (suc n + m)) (Some (suc n + m)) None)) earlier

-- ---- a text and what follows it

module _ (text more : List ℕ) where
  pub is_feed-prefix : (i : ℕ) → i < length text → is_feed (text ++ more) i ≡ is_feed text i
  unfolding is_feed
  is_feed-prefix i within = ap (λ b. b == 10) (get_or-append text more 0 i within)

  pub line_start-prefix : (i : ℕ) → i ≤ length text → line_start (text ++ more) i ≡ line_start text i
  unfolding line_start
  line_start-prefix zero within = refl
  line_start-prefix (suc i) within =
      ap moment_after (last-below (is_feed (text ++ more)) (is_feed text) i (λ j h. is_feed-prefix j (omega arith)))

  pub line_before-prefix : (i : ℕ) → i ≤ length text → line_before (text ++ more) i ≡ line_before text i
  unfolding line_before
  line_before-prefix i within =
      ap (λ b. drop b (take i (text ++ more))) (line_start-prefix i within)
      ∙ ap (drop (line_start text i)) (take-append-le i text more within)

  pub line_number-prefix : (i : ℕ) → i ≤ length text → line_number (text ++ more) i ≡ line_number text i
  unfolding line_number
  line_number-prefix zero within = refl
  line_number-prefix (suc i) within =
      ap (λ n. 1 + n) (count_up_to-below (is_feed (text ++ more)) (is_feed text) i (λ j h. is_feed-prefix j (omega arith)))

  pub ends_record-prefix : (i : ℕ) → i < length text → ends_record (text ++ more) i ≡ ends_record text i
  unfolding ends_record
  ends_record-prefix i within =
      let feed = is_feed-prefix i within in
      let line = line_before-prefix i (omega arith) in
      ap (λ b. b && is_end (line_before (text ++ more) i)) feed ∙ ap (λ l. is_feed text i && is_end l) line

  pub ended-prefix : (i : ℕ) → i ≤ length text → previous (once (ends_record (text ++ more))) i ≡ previous (once (ends_record text)) i
  unfolding previous
  ended-prefix zero within = refl
  ended-prefix (suc i) within =
      once-below (ends_record (text ++ more)) (ends_record text) i (λ j h. ends_record-prefix j (omega arith))

  pub wrong_at-prefix : (limit i : ℕ) → i < length text → wrong_at (text ++ more) limit i ≡ wrong_at text limit i
  unfolding wrong_at
  wrong_at-prefix limit i within =
      let feed = is_feed-prefix i within in
      let line = line_before-prefix i (omega arith) in
      let ended = ended-prefix i (omega arith) in
      rw (feed, line, ended) refl
