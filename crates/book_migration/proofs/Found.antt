-- Each key of a sorted table finds the value that stands there.
use Rattle.std.proofs.Common.{◌≡◌, true, ◌&&◌, Option, Some, None, Ordering, Less, Equal, Greater, nat_cmp, is_eq, refl, sym, ap, ◌∙◌}
use Rattle.std.specs.Cmp.{tied_itself}
use Rattle.std.specs.Cmp.Lexicographic.{slice_cmp, bytes_decides}
use Rattle.std.specs.Ordering.{match_ordering, is_lt}
use Rattle.std.proofs.lemmas.Bool.{and_parts}
use Rattle.std.proofs.lemmas.Cmp.{nat_list_cmp_total}
use Rattle.std.proofs.lemmas.Map.Text.{is_eq-slice_cmp}
use Rattle.toml.specs.Data.{Data, Members, no_members, member, get_member, is_before, is_sorted, members_are_sorted}
use Rattle.ecam_spec.specs.Book.{Text}

-- this is so of each key and its value
abbrev pub Each : (Text → Data → Type 0) → Members → Type 0
Each P no_members = Unit {0}
Each P (member k d ms) = P k d × Each P ms

pub each-weaker : (P Q : Text → Data → Type 0) → ((k : Text) (d : Data) → P k d → Q k d) → (ms : Members) → Each P ms → Each Q ms
each-weaker P Q h no_members all = tt
each-weaker P Q h (member k d ms) all = (h k d all.0, each-weaker P Q h ms all.1)

pub each-both : (P Q : Text → Data → Type 0) (ms : Members) → Each P ms → Each Q ms → Each (λ k d. P k d × Q k d) ms
each-both P Q no_members p q = tt
each-both P Q (member k d ms) p q = ((p.0, q.0), each-both P Q ms p.1 q.1)

is_less : (o : Ordering) → is_lt o ≡ true → o ≡ Less
is_less Less h = refl
is_less Equal h = absurd (cc)
is_less Greater h = absurd (cc)

tied : (k l : Text) → slice_cmp nat_cmp k l ≡ Equal → k ≡ l
tied k l e = (bytes_decides k l).0 (sym (is_eq-slice_cmp k l) ∙ ap is_eq e)

before_tail : (k l : Text) (ms : Members) → slice_cmp nat_cmp k l ≡ Less → is_before l ms ≡ true → is_before k ms ≡ true
before_tail k l no_members less before = refl
before_tail k l (member m d ms) less before =
    ap is_lt (nat_list_cmp_total.trans k l m less (is_less (slice_cmp nat_cmp l m) before))

-- what stands before the first key of sorted members is none of theirs
before_none : (k : Text) (ms : Members) → is_before k ms ≡ true → members_are_sorted ms ≡ true → get_member k ms ≡ None
before_none k no_members before sorted = refl
before_none k (member l d ms) before sorted =
    let parts = and_parts (is_before l ms && is_sorted d) (members_are_sorted ms) sorted in
    let first = and_parts (is_before l ms) (is_sorted d) parts.0 in
    let less : slice_cmp nat_cmp k l ≡ Less = is_less (slice_cmp nat_cmp k l) before in
    rw less (before_none k ms (before_tail k l ms less first.0) parts.1)

-- a key behind another finds the same with it
behind : (o : Ordering) (found : Option Data) (d e : Data) → found ≡ Some e → (o ≡ Equal → found ≡ None) → match_ordering o found (Some d) found ≡ Some e
behind Less found d e there apart = there
behind Equal found d e there apart = absurd (let gone = apart refl in cc)
behind Greater found d e there apart = there

pub found_each : (ms : Members) → members_are_sorted ms ≡ true → Each (λ k d. get_member k ms ≡ Some d) ms
found_each no_members sorted = tt
found_each (member k d ms) sorted =
    let parts = and_parts (is_before k ms && is_sorted d) (members_are_sorted ms) sorted in
    let first = and_parts (is_before k ms) (is_sorted d) parts.0 in
    let none = before_none k ms first.0 parts.1 in
    let one : (l : Text) (e : Data) → get_member l ms ≡ Some e → get_member l (member k d ms) ≡ Some e =
    λ l e there. behind (slice_cmp nat_cmp l k) (get_member l ms) d e there (λ equal. ap (λ x. get_member x ms) (tied l k equal) ∙ none) in
    let here : get_member k (member k d ms) ≡ Some d = rw (tied_itself nat_list_cmp_total k) refl in
    (here, each-weaker (λ l e. get_member l ms ≡ Some e) (λ l e. get_member l (member k d ms) ≡ Some e) one ms (found_each ms parts.1))

-- each value of sorted members is sorted
pub sorted_each : (ms : Members) → members_are_sorted ms ≡ true → Each (λ k d. is_sorted d ≡ true) ms
sorted_each no_members sorted = tt
sorted_each (member k d ms) sorted =
    let parts = and_parts (is_before k ms && is_sorted d) (members_are_sorted ms) sorted in
    ((and_parts (is_before k ms) (is_sorted d) parts.0).1, sorted_each ms parts.1)
