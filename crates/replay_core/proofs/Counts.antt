-- What a sealed book has, as the program finds it.
use Rattle.std.proofs.Common.{◌≡◌, ℕ, [], ◌++◌, length, codes, decimal, refl}
use Rattle.std.proofs.lemmas.List.{length-map}
use Rattle.ecam_spec.specs.Book.{Text}
use Rattle.ecam_spec.specs.BookTerms.{terms_of, slots_in}
use Rattle.ecam_spec.specs.Draft.{book_of}
use Rattle.ecam_spec.specs.Summary.{summary}
use Rattle.book_model.specs.View.{draft_of, page_of, phase_of, memo_of}
use Rattle.book_model.specs.Sealed.{the_book}
use Rattle.book_model.specs.declared.draft.Draft.{Draft}

pub many_pages : (d : Draft) → length (the_book d).pages ≡ length d.pages.items
unfolding book_of draft_of
many_pages d = length-map d.pages.items page_of

pub many_memos : (d : Draft) → length (the_book d).memos ≡ length d.memos.items
unfolding book_of draft_of
many_memos d = length-map d.memos.items memo_of

pub the_phase : (d : Draft) → (the_book d).phase ≡ phase_of d.phase
unfolding book_of draft_of
the_phase d = refl

-- the line that was put together from these numbers
pub summed : (d : Draft) (a p m g s : ℕ) (first second third fourth fifth whole : Text)
    → a ≡ length (the_book d).alerts → p ≡ length (the_book d).parameters → m ≡ length (the_book d).memos → g ≡ length (the_book d).pages → s ≡ slots_in (terms_of (the_book d))
    → first ≡ [] ++ codes "OK alerts " ++ decimal a → second ≡ first ++ codes " params " ++ decimal p → third ≡ second ++ codes " memos " ++ decimal m
    → fourth ≡ third ++ codes " pages " ++ decimal g → fifth ≡ fourth ++ codes " slots " ++ decimal s → whole ≡ fifth ++ codes "\n"
    → whole ≡ summary (the_book d)
unfolding summary
summed d a p m g s first second third fourth fifth whole is_a is_p is_m is_g is_s one two three four five six =
    rw (six, five, four, three, two, one, is_a, is_p, is_m, is_g, is_s) refl
