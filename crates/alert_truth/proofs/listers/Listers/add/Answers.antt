use Rattle.std.proofs.Common.{◌≡◌, ◌<◌, ◌==◌, [], ◌∷◌, length, get_or, slice_set, suc, take, Some, cond, refl, sym, ap, ◌∙◌, arith}
use Rattle.std.specs.List.{list_any}
use Rattle.std.specs.Vec.{with_item}
use Rattle.std.proofs.lemmas.List.{length-set, get_or_default, length-append}
use Rattle.std.proofs.lemmas.List.Folds.{list_any_more}
use Rattle.alert_truth.specs.Listed.{first_lister}
use Rattle.alert_truth.specs.declared.listers.Link.{Link}
use Rattle.alert_truth.specs.declared.listers.Listers.{Listers}
use Rattle.alert_truth.proofs.Linking.{put-linked, put-first, put-more}
use Rattle.alert_truth.proofs.listers.Listers.add.Goals as goal

pub loop-secondary-preserved : goal.loop-secondary-preserved
loop-secondary-preserved c =
    let n = length c.args.self.now.heads.items in
    let own = c.args.secondaries.now in
    let i = c.loop-secondary.secondary-index in
    let p = get_or own i 0 in
    let now = c.loop-secondary.self in
    let alert = c.args.alert in
    let next : Listers = record { heads = with_item now.heads p c.len.result; links = c.push.new.self } in
    let x : Link = record { lister = alert; rest = c.index-rest.result.now } in
    let within : p < n = c.requires.places i 0 c.loop-secondary-test.true in
    let rest = c.index-rest.ensures ∙ get_or_default now.heads.items p c.index-rest.result.now 0 (omega (arith, within, c.loop-secondary.invariant.places)) in
    let links = c.in_ok-push.ensures.items in
    let many : c.len.result ≡ suc (length now.links.items) = omega (arith, c.len.ensures, c.push.new.self.ok.0, ap length links, length-append now.links.items (x ∷ [])) in
    let heads = ap (λ m. slice_set now.heads.items p m) many in
    let was = c.loop-secondary.invariant in
    record {
      places = length-set now.heads.items p c.len.result ∙ was.places;
      linked = put-linked n now next was.linked was.places p alert within c.requires.alert x refl rest links heads;
      adds = λ test a inside.
          let first = first_lister test c.args.self.now a in
          let before = list_any (λ s. s == a) (take i own) in
          put-first n now next was.linked was.places p alert within c.requires.alert x refl rest links heads test a inside
          ∙ ap (λ o. cond (p == a) (cond (test alert) (Some alert) o) o) (was.adds test a inside)
          ∙ put-more (test alert) before (p == a) (Some alert) first
          ∙ sym (ap (λ l. cond l (cond (test alert) (Some alert) first) first) (list_any_more (λ s. s == a) own i 0 c.loop-secondary-test.true));
    }
