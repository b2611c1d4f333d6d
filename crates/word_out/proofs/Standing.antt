-- The words that are kept, from event to event.
use Rattle.std.proofs.Common.{◌≡◌, ℕ, zero, suc, ◌+◌, ◌-◌, ◌/◌, ◌%◌, ◌<◌, ◌≤◌, min, false, not, ◌||◌, ◌==◌, List, [], ◌∷◌, ◌++◌, length, get_or, cond, refl, sym, ap, ◌∙◌, arith}
use Rattle.std.proofs.lemmas.List.{length-map}
use Rattle.std.specs.Prelude.{codes, flat_map}
use Rattle.ecam_spec.specs.declared.kinds.Event.{Event}
use Rattle.ecam_spec.specs.declared.kinds.Event.TheVariants.{Tick}
use Rattle.ecam_spec.specs.Book.{Book}
use Rattle.ecam_spec.specs.Output.{line}
use Rattle.ecam_spec.specs.Places.{below}
use Rattle.ecam_spec.specs.Replay.{is_tick, tick_count}
use Rattle.ecam_spec.proofs.ReplaySteps.{tick_count_kept, tick_count_tick}
use Rattle.fwc_pair.specs.declared.pair.Pair.{Pair}
use Rattle.fwc_pair.specs.PairState.{PairStands}
use Rattle.view_spec.proofs.TickLaws.{through_stays, through_last}
use Rattle.book_model.specs.Sealed.{the_book, IsSealed}
use Rattle.book_model.specs.View.{alert_of, draft_of}
use Rattle.book_model.specs.declared.draft.Draft.{Draft}
use Rattle.book_model.proofs.BookLists.{many-alerts}
use Rattle.view_spec.specs.OutputWords.{groups as groups_of, word_count, word_at, word, is_written, word_line, tick_text}
use Rattle.word_out.specs.Told.{pair_word, written_line}
use Rattle.word_out.specs.WordsStand.{WordsStand}
use Rattle.word_out.specs.declared.word_out.WordOut.{WordOut}
use Rattle.word_out.proofs.Loops.{alike_below}
use Rattle.word_out.proofs.PairTold.{pair_told}

-- nothing that comes later changes a word
pub word_stays : (b : Book) (h later : List Event) (t n : ℕ) → t < tick_count h → word b (h ++ later) t n ≡ word b h t n
unfolding word
word_stays b h later t n within = ap (λ g. word_at b g n) (through_stays h later t within)

-- a word of the Tick that ends the history
pub word_last : (b : Book) (h : List Event) (n : ℕ) → word b (h ++ Tick ∷ []) (tick_count h) n ≡ word_at b (h ++ Tick ∷ []) n
unfolding word
word_last b h n = ap (λ g. word_at b g n) (through_last h)

-- before any event
pub stands_new : (b : Book) (w : WordOut) → length w.words.items ≡ word_count b → w.tick ≡ 0 → WordsStand b [] w
unfolding tick_count
stands_new b w fits none = record {
  fits = fits;
  tick = none;
  words = λ t n ticks within. absurd (omega arith);
}

-- an event that is no Tick leaves them
pub stands_kept : (b : Book) (h : List Event) (e : Event) (w : WordOut) → is_tick e ≡ false → WordsStand b h w → WordsStand b (h ++ e ∷ []) w
stands_kept b h e w quiet stands =
    let count = tick_count_kept h e quiet in
    record {
      fits = stands.fits;
      tick = stands.tick ∙ ap (λ n. n % 100) (sym count);
      words = λ t n ticks within. stands.words t n (sym count ∙ ticks) within ∙ sym (word_stays b h (e ∷ []) t n (let e : tick_count h ≡ suc t = sym count ∙ ticks in omega arith));
    }

module _ (b : Book) (h : List Event) (w : WordOut) (p : Pair) (stands : WordsStand b h w) (st : PairStands b (h ++ Tick ∷ []) p) where
  abbrev now : List Event
  now = h ++ Tick ∷ []

  told_now : (n : ℕ) → pair_word p n ≡ word b now (tick_count h) n
  told_now n = pair_told b h p st n ∙ sym (word_last b h n)

  -- a Tick puts its words in their place
  pub stands_tick : (v : WordOut) → length v.words.items ≡ length w.words.items → v.tick ≡ (w.tick + 1) % 100
      → ((n : ℕ) → n < length w.words.items → get_or v.words.items n 0 ≡ pair_word p n) → WordsStand b now v
  stands_tick v fits tick words =
      let count = tick_count_tick h in
      record {
        fits = fits ∙ stands.fits;
        tick = tick ∙ (let e : (w.tick + 1) % 100 ≡ suc (tick_count h) % 100 = omega (arith, stands.tick) in e) ∙ ap (λ n. n % 100) (sym count);
        words = λ t n ticks within.
            let here : t ≡ tick_count h = omega (arith, count, ticks) in
            words n (omega (arith, stands.fits, within)) ∙ told_now n ∙ ap (λ k. word b now k n) (sym here);
      }

  -- which are written
  written_at : (t n : ℕ) → tick_count h ≡ t → n < word_count b
      → ((w.tick == 0) || not (word b now t n == get_or w.words.items n 0)) ≡ (t % 100 == 0 || not (word b now t n == word b now (t - 1) n))
  written_at zero n count within =
      ap (λ k. (k == 0) || not (word b now 0 n == get_or w.words.items n 0)) (stands.tick ∙ ap (λ k. k % 100) count)
  written_at (suc t) n count within =
      let before : get_or w.words.items n 0 ≡ word b now t n = stands.words t n count within ∙ sym (word_stays b h (Tick ∷ []) t n (omega arith)) in
      ap (λ k. (k == 0) || not (word b now (suc t) n == get_or w.words.items n 0)) (stands.tick ∙ ap (λ k. k % 100) count)
      ∙ ap (λ x. (suc t % 100 == 0) || not (word b now (suc t) n == x)) before
      ∙ ap (λ k. (suc t % 100 == 0) || not (word b now (suc t) n == word b now k n)) (let e : t ≡ suc t - 1 = omega arith in e)

  line_at : (n : ℕ) → n < word_count b
      → written_line (w.tick == 0) (get_or w.words.items n 0) (pair_word p n)
      ≡ cond (is_written b now (tick_count h) n) (word_line (word b now (tick_count h) n)) []
  unfolding is_written
  line_at n within =
      ap (λ x. cond ((w.tick == 0) || not (x == get_or w.words.items n 0)) (word_line x) []) (told_now n)
      ∙ ap (λ x. cond x (word_line (word b now (tick_count h) n)) []) (written_at (tick_count h) n refl within)

  -- and their lines are those of the Tick
  pub lines_told : (lines : List ℕ)
      → lines ≡ flat_map (λ n. written_line (w.tick == 0) (get_or w.words.items n 0) (pair_word p n)) (below (length w.words.items)) ++ line (codes "T")
      → lines ≡ tick_text b (tick_count h) now
  unfolding tick_text
  lines_told lines is =
      is
      ∙ ap (λ l. l ++ line (codes "T"))
      (ap (λ k. flat_map (λ n. written_line (w.tick == 0) (get_or w.words.items n 0) (pair_word p n)) (below k)) stands.fits
      ∙ alike_below _ _ (word_count b) line_at)

-- ---- how many words there are

pub count_told : (alerts groups : ℕ) (b : Book) → length b.alerts ≡ alerts → groups ≡ alerts / 16 + min 1 (alerts % 16) → 1 + groups ≡ word_count b
unfolding word_count groups_of
count_told alerts groups b many is = omega (arith, many, is)

-- as many as there is room for
pub few_words : (d : Draft) → IsSealed d → word_count (the_book d) ≤ 129
unfolding word_count groups_of draft_of
few_words d sealed = omega (arith, sealed.sound.alert_count, length-map d.alerts.items alert_of, many-alerts d)
