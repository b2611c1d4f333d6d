use Rattle.std.proofs.Common.{◌≡◌, ◌/◌, ◌<◌, ◌++◌, ◌==◌, false, [], ◌∷◌, length, get_or, Some, None, sym, ap, ◌∙◌, subst, arith}
use Rattle.std.proofs.lemmas.Bool.{and_parts, and_from, eqb-true, eq-eqb, false≢true}
use Rattle.std.proofs.lemmas.Option.{same_Some}
use Rattle.book_model.specs.Sealed.{the_book}
use Rattle.book_model.specs.SourcePlaces.{source_at, listens, last_below}
use Rattle.param_table.specs.declared.rules.Rule.{Rule}
use Rattle.param_table.specs.Asked.{is_asked_at}
use Rattle.param_table.proofs.ByRule.{rule_readable}
use Rattle.param_table.proofs.NumberingSteps.{sound_book}
use Rattle.param_table.proofs.RoutingListeners.{Looks, found_all, its_rule, look_start, look_found, look_other, any_default, before_less}
use Rattle.param_table.proofs.routing.listeners_of.Goals as goal

pub loop-next-init : goal.loop-next-init
loop-next-init c =
    let b = the_book c.args.book.now in
    let latest = c.args.numbered.now.latest in
    let within : c.args.mailbox < length latest.items = omega (arith, c.requires.mailbox, latest.ok.0) in
    let next = c.index-next.result.now in
    subst (λ ls. Looks (is_asked_at b) b.parameters c.args.numbered.now.rules.items c.args.mailbox next ls) (sym c.new-listeners.ensures.items)
    (look_start (is_asked_at b) b.parameters c.args.numbered.now c.requires.numbered c.args.mailbox next (c.index-next.ensures ∙ any_default latest.items c.args.mailbox next None within))

pub listener_of-requires : goal.listener_of-requires
listener_of-requires c =
    let b = the_book c.args.book.now in
    let p = b.parameters in
    let rules = c.args.numbered.now.rules.items in
    let h = c.in-Some.place in
    let looks : Looks (is_asked_at b) p rules c.args.mailbox (Some h) c.loop-next.listeners.items = subst (λ o. Looks (is_asked_at b) p rules c.args.mailbox o c.loop-next.listeners.items) c.in-Some.is c.loop-next.invariant in
    let found = c.index.result.now in
    let is : get_or rules h None ≡ found =
    any_default rules h None found (omega (arith, c.requires.numbered.rules.count, looks.there.0)) ∙ ap (λ i. get_or rules i found) (sym c.from-in-Some.ensures) ∙ sym c.index.ensures in
    let r = c.in-Some-index.rule in
    rule_readable p h r (its_rule (is_asked_at b) p c.args.numbered.now c.requires.numbered h r (is ∙ c.in-Some-index.is)) (sound_book c.args.book.now c.listener_before-next.ensures.sealed)

pub loop-next-smaller-in-Continue-1 : goal.loop-next-smaller-in-Continue-1
loop-next-smaller-in-Continue-1 c =
    let b = the_book c.args.book.now in
    let p = b.parameters in
    let rules = c.args.numbered.now.rules.items in
    let h = c.in-Some.place in
    let looks : Looks (is_asked_at b) p rules c.args.mailbox (Some h) c.loop-next.listeners.items = subst (λ o. Looks (is_asked_at b) p rules c.args.mailbox o c.loop-next.listeners.items) c.in-Some.is c.loop-next.invariant in
    let s = looks.there.1.0 in
    let there : source_at p h ≡ Some s = looks.there.1.1 in
    let next : c.listener_before-next.result ≡ last_below (listens p s.bus s.label) h =
    c.listener_before-next.ensures.value s (ap (source_at p) c.from.ensures ∙ there) ∙ ap (last_below (listens p s.bus s.label)) c.from.ensures in
    before_less (listens p s.bus s.label) h c.listener_before-next.result c.loop-next.next next c.in-Some.is

pub loop-next-preserved-in-Continue-1 : goal.loop-next-preserved-in-Continue-1
loop-next-preserved-in-Continue-1 c =
    let b = the_book c.args.book.now in
    let p = b.parameters in
    let rules = c.args.numbered.now.rules.items in
    let h = c.in-Some.place in
    let looks : Looks (is_asked_at b) p rules c.args.mailbox (Some h) c.loop-next.listeners.items = subst (λ o. Looks (is_asked_at b) p rules c.args.mailbox o c.loop-next.listeners.items) c.in-Some.is c.loop-next.invariant in
    let s = looks.there.1.0 in
    let there : source_at p h ≡ Some s = looks.there.1.1 in
    let next : c.listener_before-next.result ≡ last_below (listens p s.bus s.label) h =
    c.listener_before-next.ensures.value s (ap (source_at p) c.from.ensures ∙ there) ∙ ap (last_below (listens p s.bus s.label)) c.from.ensures in
    let found = c.index.result.now in
    let is : get_or rules h None ≡ found =
    any_default rules h None found (omega (arith, c.requires.numbered.rules.count, looks.there.0)) ∙ ap (λ i. get_or rules i found) (sym c.from-in-Some.ensures) ∙ sym c.index.ensures in
    let r = c.in-Some-index.rule in
    let flag : get_or c.args.asked.now (c.from-in-Some-index.result / 3) false ≡ is_asked_at b h =
    ap (λ i. get_or c.args.asked.now (i / 3) false) c.from-in-Some-index.ensures ∙ c.requires.asked (h / 3) (omega (arith, looks.there.0)) in
    let both = and_parts (get_or c.args.asked.now (c.from-in-Some-index.result / 3) false) (c.from-in-Some-index-2.result == c.args.mailbox) c.if-is_asked-from.true in
    let own : r.mailbox ≡ c.args.mailbox = sym c.from-in-Some-index-2.ensures ∙ eqb-true c.from-in-Some-index-2.result c.args.mailbox both.1 in
    subst (Looks (is_asked_at b) p rules c.args.mailbox c.listener_before-next.result) (sym (c.in_ok-push.ensures.items ∙ ap (λ l. c.loop-next.listeners.items ++ l ∷ []) c.listener_of.ensures))
    (look_found (is_asked_at b) p c.args.numbered.now c.requires.numbered c.args.mailbox h s c.listener_before-next.result c.loop-next.listeners.items r looks there next (is ∙ c.in-Some-index.is) own (sym flag ∙ both.0))

pub loop-next-smaller-else-is_asked-from : goal.loop-next-smaller-else-is_asked-from
loop-next-smaller-else-is_asked-from c =
    let b = the_book c.args.book.now in
    let p = b.parameters in
    let rules = c.args.numbered.now.rules.items in
    let h = c.in-Some.place in
    let looks : Looks (is_asked_at b) p rules c.args.mailbox (Some h) c.loop-next.listeners.items = subst (λ o. Looks (is_asked_at b) p rules c.args.mailbox o c.loop-next.listeners.items) c.in-Some.is c.loop-next.invariant in
    let s = looks.there.1.0 in
    let there : source_at p h ≡ Some s = looks.there.1.1 in
    let next : c.listener_before-next.result ≡ last_below (listens p s.bus s.label) h =
    c.listener_before-next.ensures.value s (ap (source_at p) c.from.ensures ∙ there) ∙ ap (last_below (listens p s.bus s.label)) c.from.ensures in
    before_less (listens p s.bus s.label) h c.listener_before-next.result c.loop-next.next next c.in-Some.is

pub loop-next-preserved-else-is_asked-from : goal.loop-next-preserved-else-is_asked-from
loop-next-preserved-else-is_asked-from c =
    let b = the_book c.args.book.now in
    let p = b.parameters in
    let rules = c.args.numbered.now.rules.items in
    let h = c.in-Some.place in
    let looks : Looks (is_asked_at b) p rules c.args.mailbox (Some h) c.loop-next.listeners.items = subst (λ o. Looks (is_asked_at b) p rules c.args.mailbox o c.loop-next.listeners.items) c.in-Some.is c.loop-next.invariant in
    let s = looks.there.1.0 in
    let there : source_at p h ≡ Some s = looks.there.1.1 in
    let next : c.listener_before-next.result ≡ last_below (listens p s.bus s.label) h =
    c.listener_before-next.ensures.value s (ap (source_at p) c.from.ensures ∙ there) ∙ ap (last_below (listens p s.bus s.label)) c.from.ensures in
    let found = c.index.result.now in
    let is : get_or rules h None ≡ found =
    any_default rules h None found (omega (arith, c.requires.numbered.rules.count, looks.there.0)) ∙ ap (λ i. get_or rules i found) (sym c.from-in-Some.ensures) ∙ sym c.index.ensures in
    let r = c.in-Some-index.rule in
    let flag : get_or c.args.asked.now (c.from-in-Some-index.result / 3) false ≡ is_asked_at b h =
    ap (λ i. get_or c.args.asked.now (i / 3) false) c.from-in-Some-index.ensures ∙ c.requires.asked (h / 3) (omega (arith, looks.there.0)) in
    look_other (is_asked_at b) p c.args.numbered.now c.requires.numbered c.args.mailbox h s c.listener_before-next.result c.loop-next.listeners.items looks there next
    (λ t at own asked.
    false≢true (sym c.if-is_asked-from.false
    ∙ and_from (get_or c.args.asked.now (c.from-in-Some-index.result / 3) false) (c.from-in-Some-index-2.result == c.args.mailbox) (flag ∙ asked)
    (eq-eqb c.from-in-Some-index-2.result c.args.mailbox
    (c.from-in-Some-index-2.ensures ∙ ap (λ (u : Rule). u.mailbox) (same_Some r t (sym (is ∙ c.in-Some-index.is) ∙ at)) ∙ own))))

pub returns : goal.returns
returns c =
    let b = the_book c.args.book.now in
    found_all (is_asked_at b) b.parameters c.args.numbered.now.rules.items c.args.mailbox c.loop-next.next c.loop-next.listeners.items c.loop-next.invariant c.in_default.is
