use Rattle.std.proofs.Common.{◌≡◌, nat_lt, ◌∙◌, ap}
use Rattle.std.specs.List.{count_by}
use Rattle.ecam_spec.specs.Bytes.{same_text}
use Rattle.book_faults.proofs.searches.is_repeated.Goals as goal

pub returns : goal.returns
returns c names counted =
    let count : c.times_in.result ≡ count_by (same_text c.args.name.now) names =
    c.times_in.ensures ∙ counted c.as_bytes.result.now ∙ ap (λ t. count_by (same_text t) names) c.as_bytes.ensures.value in
    ap (nat_lt 1) count
