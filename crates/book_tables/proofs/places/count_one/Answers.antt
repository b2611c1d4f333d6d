use Rattle.std.proofs.Common.{◌≡◌, true, ◌∙◌, ap, unwrap_or, rules}
use Rattle.std.specs.Cmp.Lexicographic.{nat_list_eq_equiv, bytes_decides}
use Rattle.std.proofs.lemmas.Map.Text.{hash_map_updates_str}
use Rattle.ecam_spec.specs.Bytes.{same_text}
use Rattle.book_model.specs.NamePlaces.{number_by}
use Rattle.book_tables.specs.Places.{times}
use Rattle.book_tables.proofs.NamePlaces.{counted}
use Rattle.book_tables.proofs.places.count_one.Goals as goal

pub returns : goal.returns
returns c q =
    let name = c.args.name.now in
    let old = c.args.counts.now in
    let after = hash_map_updates_str name old c.insert.new.self _ c.in_ok-insert.ensures.updates q in
    let at_same : same_text name q ≡ true → times old q ≡ c.times_in-before.result =
    λ same. let equal : name ≡ q = (bytes_decides name q).0 same in rw (← equal) (search rules) in
    rw (nat_list_eq_equiv.symm q name) (ap (λ o. unwrap_or o 0) after ∙ counted (number_by old q) (same_text name q) c.times_in-before.result at_same)
