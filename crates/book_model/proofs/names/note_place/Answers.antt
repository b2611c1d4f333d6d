use Rattle.std.proofs.Common.{◌≡◌, true, false, ℕ, Some, None, Option, is_some, refl, ◌∙◌, rules}
use Rattle.std.specs.Cmp.Lexicographic.{nat_list_eq_equiv, bytes_decides}
use Rattle.std.proofs.lemmas.Map.Text.{hash_map_updates_str}
use Rattle.ecam_spec.specs.Bytes.{same_text}
use Rattle.book_model.specs.NamePlaces.{number_by}
use Rattle.book_model.proofs.NamesNoted.{noted}
use Rattle.book_model.proofs.names.note_place.Goals as goal

none_from : (o : Option ℕ) → is_some o ≡ false → o ≡ None
none_from None h = refl
none_from (Some x) h = absurd (cc)

pub returns-in_ok-insert : goal.returns-in_ok-insert
returns-in_ok-insert c q =
    let name = c.args.name.now in
    let old = c.args.places.now in
    let after = hash_map_updates_str name old c.insert.new.self _ c.in_ok-insert.ensures.updates q in
    let absent : number_by old name ≡ None = none_from (number_by old name) (search rules) in
    let at_same : same_text name q ≡ true → number_by old q ≡ None =
    λ same. let equal : name ≡ q = (bytes_decides name q).0 same in rw (← equal) absent in
    rw (nat_list_eq_equiv.symm q name) (after ∙ noted (number_by old q) (same_text name q) c.args.place at_same)
