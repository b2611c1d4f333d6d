use Rattle.std.proofs.Common.{[], length, slice_index, sym, ap, subst, ◌∙◌, inl, inr, arith}
use Rattle.std.proofs.lemmas.Option.{slice_get_cases, slice_get_within}
use Rattle.book_model.specs.Conditions.{places}
use Rattle.book_model.specs.Sealed.{the_book}
use Rattle.condition_codes.specs.IsCodes.{IsCodes}
use Rattle.condition_codes.specs.declared.codes.CodeTable.{CodeTable}
use Rattle.condition_codes.proofs.Limits.{few-places, slot-small}
use Rattle.condition_codes.proofs.Linking.{few-nodes}
use Rattle.condition_codes.proofs.Numbering.{starts-few}
use Rattle.condition_codes.proofs.Owning.{owners-few}
use Rattle.condition_codes.proofs.codes.Codes.new.Goals as goal

pub starts_of-requires-clause-nodes : goal.starts_of-requires-clause-nodes
starts_of-requires-clause-nodes c =
    let all = c.in_ok-add_all.ensures [] c.in_ok-pieces.ensures in
    rw (c.deref.ensures.value, c.deref-2.ensures.value) (omega (arith, all.codes.pieces.count, all.count))

pub starts_of-requires-clause-owners : goal.starts_of-requires-clause-owners
starts_of-requires-clause-owners c =
    let all = c.in_ok-add_all.ensures [] c.in_ok-pieces.ensures in
    rw (c.deref-3.ensures.value, c.deref-2.ensures.value) (omega (arith, all.owners.pieces.count, all.count))

pub starts_of-requires-clause-few_nodes : goal.starts_of-requires-clause-few_nodes
starts_of-requires-clause-few_nodes c =
    let b = the_book c.args.book.now in
    let all = c.in_ok-add_all.ensures [] c.in_ok-pieces.ensures in
    rw c.deref.ensures.value (λ j less.
    let small = starts-few c.add_all.new.pieces.starts.items all.codes.pieces.first (few-nodes (places b) c.add_all.new.pieces.starts.items c.add_all.new.pieces.steps.items all.codes) j less in
    omega (arith, small, all.codes.pieces.count, few-places c.args.book.now c.sealed.ensures))

pub starts_of-requires-clause-few_slots : goal.starts_of-requires-clause-few_slots
starts_of-requires-clause-few_slots c =
    let b = the_book c.args.book.now in
    let all = c.in_ok-add_all.ensures [] c.in_ok-pieces.ensures in
    rw c.deref-2.ensures.value (λ j less.
    elim (slice_get_cases (places b) j).1 [
      | inl place ↦ omega (arith, all.slots j place.0 place.2, slot-small c.args.book.now c.sealed.ensures j place.0 place.2)
      | inr past ↦ absurd (omega (arith, past.0, less, all.count))
    ])

pub starts_of-requires-clause-few_owners : goal.starts_of-requires-clause-few_owners
starts_of-requires-clause-few_owners c =
    let b = the_book c.args.book.now in
    let all = c.in_ok-add_all.ensures [] c.in_ok-pieces.ensures in
    rw c.deref-3.ensures.value (λ j less.
    let each = owners-few (places b) c.add_all.new.pieces.owner_starts.items c.add_all.new.pieces.owners.items all.owners (λ i p is. (all.codes.codes i p is).small) in
    let small = starts-few c.add_all.new.pieces.owner_starts.items all.owners.pieces.first each j less in
    omega (arith, small, all.owners.pieces.count, few-places c.args.book.now c.sealed.ensures))

pub returns : goal.returns
returns c =
    let b = the_book c.args.book.now in
    let all = c.in_ok-add_all.ensures [] c.in_ok-pieces.ensures in
    let table : CodeTable = record {
      steps = c.into_boxed_slice.result;
      links = c.into_boxed_slice-2.result;
      owners = c.into_boxed_slice-3.result;
      starts = c.into_boxed_slice-4.result;
    } in
    let nodes = c.in_ok-starts.ensures.nodes ∙ c.deref.ensures.value in
    let coded : IsCodes b table = record {
      codes = rw (c.into_boxed_slice.ensures.items, c.into_boxed_slice-4.ensures.items, nodes) all.codes;
      links = rw (c.into_boxed_slice-2.ensures.items, c.into_boxed_slice-4.ensures.items, nodes) all.links;
      owners = rw (c.into_boxed_slice-3.ensures.items, c.into_boxed_slice-4.ensures.items, c.in_ok-starts.ensures.owners, c.deref-3.ensures.value) all.owners;
      slots = rw c.into_boxed_slice-4.ensures.items (λ j p is.
          c.in_ok-starts.ensures.slots j (omega (arith, slice_get_within (places b) j p is, all.count, ap length c.deref-2.ensures.value))
          ∙ ap (λ l. slice_index l j) c.deref-2.ensures.value ∙ all.slots j p is);
    } in
    subst (IsCodes b) (sym c.in_ok-new.ensures.ok) coded
