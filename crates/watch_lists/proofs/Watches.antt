-- The watch that is made of the lists of a book.
use Rattle.std.proofs.Common.{◌≡◌, ℕ, suc, List, length, ap, ◌∙◌, arith}
use Rattle.book_model.specs.Sealed.{the_book}
use Rattle.book_model.specs.Conditions.{places}
use Rattle.book_model.specs.declared.draft.Draft.{Draft}
use Rattle.watch_lists.specs.declared.watch.Watch.{Watch}
use Rattle.watch_lists.specs.Naming.{sizes_of, operand_count}
use Rattle.watch_lists.specs.Listed.{has_term, ListsAll}
use Rattle.watch_lists.specs.Flat.{IsFlat}
use Rattle.watch_lists.specs.Watching.{IsWatch}

pub watch-of : (d : Draft) (w : Watch) (lists : List (List ℕ)) → length lists ≡ operand_count (sizes_of d) → ListsAll (sizes_of d) (places (the_book d)) lists
    → IsFlat lists w.starts.items.items w.terms.items.items → IsWatch d w
watch-of d w lists many all flat = record {
  count = flat.count ∙ ap suc many;
  ordered = λ o lt. flat.ordered o (omega (arith, many));
  within = λ o le. flat.within o (omega (arith, many));
  lists = λ o j lt. ap (λ l. has_term l j) (flat.each o (omega (arith, many))) ∙ all o j;
}
