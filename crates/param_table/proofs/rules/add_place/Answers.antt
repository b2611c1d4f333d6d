use Rattle.std.proofs.Common.{◌≡◌, ◌+◌, ◌*◌, ◌<◌, ◌≤◌, Bool, true, ◌++◌, ℕ, [], ◌∷◌, length, set, Option, Some, None, refl, sym, ap, ◌∙◌, subst, arith}
use Rattle.std.specs.Prelude.{MatchOption, ⊤, IfSome}
use Rattle.std.specs.Option.{option_map}
use Rattle.ecam_spec.specs.Book.{Source}
use Rattle.book_model.specs.View.{source_of}
use Rattle.book_model.specs.Sealed.{the_book}
use Rattle.book_model.specs.SourcePlaces.{listens, last_below}
use Rattle.param_table.specs.declared.rules.Rule.{Rule}
use Rattle.std.specs.Vec.{with_item, vec_len}
use Rattle.std.specs.Global.{Vec}
use Rattle.book_model.specs.declared.draft.Draft.{Draft}
use Rattle.param_table.specs.declared.rules.Numbered.{Numbered}
use Rattle.param_table.specs.Rules.{AreNumbered, IsRule, slot_of, route_of, mailbox_in, with_mailbox}
use Rattle.param_table.proofs.ByRule.{some_rule}
use Rattle.param_table.proofs.Chains.{found_passes}
use Rattle.param_table.proofs.Numbers.{openers-few}
use Rattle.param_table.proofs.NumberingSteps.{few_places, few_slots, sound_sdi, source_read, source_none, params_read, no_source_numbered, source_numbered, mailbox_next, next_room}
use Rattle.param_table.proofs.rules.add_place.Goals as goal

pub returns-in_default : goal.returns-in_default
returns-in_default c =
    no_source_numbered (the_book c.args.book.now).parameters c.args.place c.args.numbered.now
    (record { rules = c.push.new.self; routes = c.add_route.new.routes; latest = c.args.numbered.now.latest }) c.requires.numbered (source_none c.args.book.now c.params.ensures.sealed c.params.result.now c.args.place c.params.ensures.value (sym c.source_at.ensures ∙ ap (option_map source_of) c.in_default.is)) c.in_ok-push.ensures.items c.in_ok-add_route.ensures refl

-- what the place before in the chain has
chained : (d : Draft) (n : ℕ) (numbered : Numbered) (s : Source) (o : Option ℕ) → AreNumbered (the_book d).parameters n numbered → o ≡ last_below (listens (the_book d).parameters s.bus s.label) n
    → MatchOption o ⊤ (λ b. 5 * b + 5 ≤ vec_len numbered.routes)
chained d n numbered s None are is = tt
chained d n numbered s (Some b) are is =
    let p : ℕ → Bool = listens (the_book d).parameters s.bus s.label in
    omega (arith, are.routes.count, numbered.routes.ok.0, (subst (λ o. IfSome o (λ h. (h < n) × (p h ≡ true))) (sym is) (found_passes p n)).0)

pub add_route-requires-2 : goal.add_route-requires-2
add_route-requires-2 c =
    let d = c.args.book.now in
    let there = source_read d c.params.ensures.sealed c.params.result.now c.args.place c.in-Some.source c.params.ensures.value c.in-Some.ensures in
    chained d c.args.place c.args.numbered.now (source_of c.in-Some.source) c.listener_before.result c.requires.numbered (c.listener_before.ensures.value (source_of c.in-Some.source) there)

pub slot_of-requires : goal.slot_of-requires
slot_of-requires c =
    let d = c.args.book.now in
    let there = source_read d c.params.ensures.sealed c.params.result.now c.args.place c.in-Some.source c.params.ensures.value c.in-Some.ensures in
    by c.in-Some.source.sdi (sound_sdi d c.params.ensures.sealed c.args.place (source_of c.in-Some.source) there)
  where
    by : (o : Option ℕ) → IfSome o (λ n. n < 4) → MatchOption o ⊤ (λ n. n < 4)
    by None h = tt
    by (Some n) h = h

pub mailbox_of-requires-clause-few : goal.mailbox_of-requires-clause-few
mailbox_of-requires-clause-few c =
    omega (arith, c.requires.numbered.latest.count, c.args.numbered.now.latest.ok.0, openers-few (the_book c.args.book.now).parameters c.args.place, few_places c.args.book.now c.params.ensures.sealed c.args.place c.requires.place)

pub overflow_cast-place : goal.overflow_cast-place
overflow_cast-place c = omega (arith, few_places c.args.book.now c.params.ensures.sealed c.args.place c.requires.place)

pub index_mut-requires : goal.index_mut-requires
index_mut-requires c =
    let d = c.args.book.now in
    let n = c.args.place in
    let s = source_of c.in-Some.source in
    let before = c.args.numbered.now in
    let o = c.listener_before.result in
    let there = source_read d c.params.ensures.sealed c.params.result.now n c.in-Some.source c.params.ensures.value c.in-Some.ensures in
    let few = few_slots d c.params.ensures.sealed n s there in
    let chain = c.listener_before.ensures.value s there in
    let routes : c.add_route-2.new.routes.items ≡ before.routes.items ++ route_of before.routes.items o = c.in_ok-add_route-2.ensures in
    let told = c.in_ok-mailbox.ensures in
    let own : c.slot_of.result ≡ slot_of s.sdi = c.slot_of.ensures.is in
    let room : c.mailbox_of.new.numbered.latest.items ≡ with_mailbox (before.routes.items ++ route_of before.routes.items o) (5 * n + slot_of s.sdi) before.latest.items =
    told.latest ∙ ap (λ l. with_mailbox l (5 * n + c.slot_of.result) before.latest.items) routes
    ∙ ap (λ k. with_mailbox (before.routes.items ++ route_of before.routes.items o) (5 * n + k) before.latest.items) own in
    let is : c.from.result ≡ mailbox_in (before.routes.items ++ route_of before.routes.items o) (5 * n + slot_of s.sdi) (length before.latest.items) =
    c.from.ensures ∙ told.mailbox ∙ ap (λ l. mailbox_in l (5 * n + c.slot_of.result) (length before.latest.items)) routes
    ∙ ap (λ k. mailbox_in (before.routes.items ++ route_of before.routes.items o) (5 * n + k) (length before.latest.items)) own in
    let p = (the_book d).parameters in
    omega (arith, c.mailbox_of.new.numbered.latest.ok.0, is, mailbox_next p n s there few before c.requires.numbered o chain, next_room p n s there few before c.requires.numbered o chain, ap length room)

pub returns : goal.returns
returns c =
    let d = c.args.book.now in
    let p = (the_book d).parameters in
    let n = c.args.place in
    let s = source_of c.in-Some.source in
    let before = c.args.numbered.now in
    let o = c.listener_before.result in
    let there = source_read d c.params.ensures.sealed c.params.result.now n c.in-Some.source c.params.ensures.value c.in-Some.ensures in
    let few = few_slots d c.params.ensures.sealed n s there in
    let chain = c.listener_before.ensures.value s there in
    let routes : c.add_route-2.new.routes.items ≡ before.routes.items ++ route_of before.routes.items o = c.in_ok-add_route-2.ensures in
    let told = c.in_ok-mailbox.ensures in
    let own : c.slot_of.result ≡ slot_of s.sdi = c.slot_of.ensures.is in
    let longer = before.routes.items ++ route_of before.routes.items o in
    let m = c.in_ok-mailbox.mailbox in
    let is : m ≡ mailbox_in longer (5 * n + slot_of s.sdi) (length before.latest.items) =
    told.mailbox ∙ ap (λ l. mailbox_in l (5 * n + c.slot_of.result) (length before.latest.items)) routes
    ∙ ap (λ k. mailbox_in longer (5 * n + k) (length before.latest.items)) own in
    let room : c.mailbox_of.new.numbered.latest.items ≡ with_mailbox longer (5 * n + slot_of s.sdi) before.latest.items =
    told.latest ∙ ap (λ l. with_mailbox l (5 * n + c.slot_of.result) before.latest.items) routes ∙ ap (λ k. with_mailbox longer (5 * n + k) before.latest.items) own in
    let set_to : c.mailbox_of.new.numbered.routes.items ≡ set longer (5 * n + slot_of s.sdi) m =
    told.routes ∙ ap (λ l. set l (5 * n + c.slot_of.result) m) routes ∙ ap (λ k. set longer (5 * n + k) m) own in
    let x = c.rule_at-rule.result in
    let rule = some_rule p n s x (subst (λ ps. IsRule ps n x) (params_read d c.params.ensures.sealed c.params-2.result.now c.params-2.ensures.value) c.rule_at-rule.ensures.rule) there in
    source_numbered p n s there few before c.requires.numbered o chain rule.0 m
    (record { rules = c.push-2.new.self; routes = c.mailbox_of.new.numbered.routes; latest = with_item c.mailbox_of.new.numbered.latest c.from.result (Some n) })
    rule.2 (subst (λ y. IfSome y (λ (r : Rule). r.mailbox ≡ m)) rule.1 (c.rule_at-rule.ensures.mailbox)) is
    (c.in_ok-push-2.ensures.items ∙ ap (λ (v : Vec (Option Rule)). v.items ++ x ∷ []) told.rules ∙ ap (λ y. before.rules.items ++ y ∷ []) rule.1)
    set_to
    (ap (λ i. set c.mailbox_of.new.numbered.latest.items i (Some n)) c.from.ensures ∙ ap (λ l. set l m (Some n)) room)
