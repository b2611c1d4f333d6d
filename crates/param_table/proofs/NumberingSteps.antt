-- The mailboxes of one more place, with a source and without one.
use Rattle.std.proofs.Common.{◌≡◌, ◌≢◌, ◌⊎◌, ℕ, zero, suc, ◌+◌, ◌*◌, ◌<◌, ◌==◌, ◌++◌, Bool, true, false, cond, List, [], ◌∷◌, length, get_or, set, Option, Some, None, refl, sym, ap, ◌∙◌, subst, arith, inl, inr}
use Rattle.std.specs.Prelude.{IfSome, All, map, ◌^◌}
use Rattle.std.proofs.lemmas.List.{length-map}
use Rattle.std.proofs.lemmas.Bool.{cases_Bool, eqb-true, eq-eqb, false≢true}
use Rattle.std.proofs.lemmas.Option.{same_Some, none-some}
use Rattle.std.proofs.lemmas.List.{length-append, get_or-append-add, get_or-set_same, get_or-set_other, length-set}
use Rattle.ecam_spec.specs.Book.{Source, Parameter}
use Rattle.ecam_spec.specs.KeepsLimits.{IsSoundParameter}
use Rattle.ecam_spec.specs.Draft.{book_of}
use Rattle.book_model.specs.View.{parameter_of, source_of}
use Rattle.book_model.specs.Sealed.{the_book, IsSealed}
use Rattle.book_model.specs.declared.draft.Draft.{Draft}
use Rattle.book_model.specs.declared.draft.Param.{Param}
use Rattle.book_model.specs.declared.draft.WordSource.{WordSource}
use Rattle.book_model.proofs.BookLists.{book-parameters}
use Rattle.book_model.proofs.BookLimits.{sizes}
use Rattle.book_model.proofs.SourcePlaces.{sound_source}
use Rattle.book_model.specs.SourcePlaces.{source_at, listens, last_below}
use Rattle.param_table.specs.declared.rules.Rule.{Rule}
use Rattle.param_table.specs.declared.rules.Numbered.{Numbered}
use Rattle.param_table.specs.Rules.{RuleIs, AreRules, AreRoutes, AreLatest, AreNumbered, slot_of, openers, number_of, earlier_in, route_of, mailbox_in, with_mailbox}
use Rattle.param_table.proofs.Numbers.{number-within, number-own, passes-own}
use Rattle.param_table.proofs.Numbering.{get_or-before, get_or-more, more_rules, more_routes, earlier-is, own_number, openers_more, other_number, more_latest, same_latest}

-- before any place
pub none_numbered : (params : List Parameter) (numbered : Numbered) → numbered.rules.items ≡ [] → numbered.routes.items ≡ [] → numbered.latest.items ≡ None ∷ [] → AreNumbered params 0 numbered
unfolding openers
none_numbered params numbered rules routes latest = record {
  rules = record { count = ap length rules; each = λ q less. absurd (omega arith); mailbox = λ q s less. absurd (omega arith) };
  routes = record { count = ap length routes; each = λ q s less. absurd (omega arith) };
  latest = record {
    count = ap length latest;
    none = ap (λ l. get_or l 0 None) latest;
    there = λ m l is. absurd (none-some l (sym (at m) ∙ is));
    last = λ q r less. absurd (omega arith);
  };
} where
  one : List (Option ℕ)
  one = None ∷ []

  blank : (m : ℕ) → get_or one m None ≡ None
  blank zero = refl
  blank (suc m) = refl

  at : (m : ℕ) → get_or numbered.latest.items m None ≡ None
  at m = ap (λ l. get_or l m None) latest ∙ blank m

-- what a route has
route_at : (routes : List ℕ) (o : Option ℕ) (slot : ℕ) → slot < 5 → get_or (route_of routes o) slot 0 ≡ earlier_in routes o slot
route_at routes o zero few = refl
route_at routes o (suc zero) few = refl
route_at routes o (suc (suc zero)) few = refl
route_at routes o (suc (suc (suc zero))) few = refl
route_at routes o (suc (suc (suc (suc zero)))) few = refl
route_at routes o (suc (suc (suc (suc (suc n))))) few = absurd (omega (arith, few))

pub more_route-length : (routes : List ℕ) (o : Option ℕ) (n : ℕ) → length routes ≡ 5 * n → length (routes ++ route_of routes o) ≡ 5 * suc n
more_route-length routes o n long = length-append routes (route_of routes o) ∙ (let sum : length routes + 5 ≡ 5 * suc n = omega (arith, long) in sum)

module _ (params : List Parameter) where
  one_more : (n : ℕ) (numbered : Numbered) → AreNumbered params (suc n) numbered → AreNumbered params (n + 1) numbered
  one_more n numbered are = let same : suc n ≡ n + 1 = omega arith in subst (λ i. AreNumbered params i numbered) same are

  -- a place without a source
  pub no_source_numbered : (n : ℕ) (before after : Numbered) → AreNumbered params n before → source_at params n ≡ None
      → after.rules.items ≡ before.rules.items ++ None ∷ []
      → after.routes.items ≡ before.routes.items ++ route_of before.routes.items None
      → after.latest.items ≡ before.latest.items
      → AreNumbered params (n + 1) after
  no_source_numbered n before after are none rules routes latest = one_more n after (record {
    rules = subst (AreRules params (suc n)) (sym rules) (more_rules params n before.rules.items None are.rules none (λ s there. absurd (none-some s (sym none ∙ there))));
    routes = subst (AreRoutes params (suc n)) (sym routes) (more_routes params n before.routes.items (before.routes.items ++ route_of before.routes.items None) are.routes
        (more_route-length before.routes.items None n are.routes.count)
        (λ i less. get_or-before before.routes.items (route_of before.routes.items None) 0 (5 * n) i are.routes.count less)
        (λ s there. absurd (none-some s (sym none ∙ there))));
    latest = subst (λ l. AreLatest params (suc n) l after.latest.items) (sym rules) (subst (AreLatest params (suc n) (before.rules.items ++ None ∷ [])) (sym latest)
        (same_latest params n before.rules.items before.latest.items are.latest are.rules.count none));
  })

  -- a place with a source
  module _ (n : ℕ) (s : Source) (there : source_at params n ≡ Some s) (few : slot_of s.sdi < 5) (before : Numbered) (are : AreNumbered params n before)
      (o : Option ℕ) (chain : o ≡ last_below (listens params s.bus s.label) n) where
    abbrev longer : List ℕ
    longer = before.routes.items ++ route_of before.routes.items o

    abbrev own : ℕ
    own = 5 * n + slot_of s.sdi

    abbrev last : ℕ
    last = number_of params s.bus s.label (slot_of s.sdi) n

    abbrev next : ℕ
    next = number_of params s.bus s.label (slot_of s.sdi) (suc n)

    longer_long : length longer ≡ 5 * suc n
    longer_long = more_route-length before.routes.items o n are.routes.count

    longer_at : (slot : ℕ) → slot < 5 → get_or longer (5 * n + slot) 0 ≡ number_of params s.bus s.label slot n
    longer_at slot less =
        ap (λ i. get_or longer (i + slot) 0) (sym are.routes.count) ∙ get_or-append-add before.routes.items (route_of before.routes.items o) slot 0
        ∙ route_at before.routes.items o slot less
        ∙ ap (λ x. earlier_in before.routes.items x slot) chain ∙ earlier-is params n before.routes.items are.routes s.bus s.label slot less

    -- the mailbox that the route gets
    pub mailbox_next : mailbox_in longer own (length before.latest.items) ≡ next
    mailbox_next =
        ap (λ x. cond (x == 0) (length before.latest.items) x) (longer_at (slot_of s.sdi) few) ∙ ap (λ x. cond (last == 0) x last) are.latest.count
        ∙ own_number params n s there

    some_next : 0 < next
    some_next = number-own params s.bus s.label (slot_of s.sdi) (suc n) n (omega arith) (passes-own params n s there)

    routes_more : AreRoutes params (suc n) (set longer own next)
    routes_more = more_routes params n before.routes.items (set longer own next) are.routes (length-set longer own next ∙ longer_long)
        (λ i less. get_or-set_other longer own i next 0 (before_own i less) ∙ get_or-before before.routes.items (route_of before.routes.items o) 0 (5 * n) i are.routes.count less)
        (λ t is slot less. subst (λ (x : Source). get_or (set longer own next) (5 * n + slot) 0 ≡ number_of params x.bus x.label slot (suc n)) (same_Some s t (sym there ∙ is)) (at slot less (cases_Bool (slot == slot_of s.sdi))))
      where
        before_own : (i : ℕ) → i < 5 * n → i ≢ own
        before_own i less same = omega (arith, less, same)

        other_own : (slot : ℕ) → (slot == slot_of s.sdi) ≡ false → 5 * n + slot ≢ own
        other_own slot other same = false≢true (sym other ∙ eq-eqb slot (slot_of s.sdi) (omega (arith, same)))

        at : (slot : ℕ) → slot < 5 → ((slot == slot_of s.sdi) ≡ true) ⊎ ((slot == slot_of s.sdi) ≡ false) → get_or (set longer own next) (5 * n + slot) 0 ≡ number_of params s.bus s.label slot (suc n)
        at slot less (inl is) =
            let same : slot ≡ slot_of s.sdi = eqb-true slot (slot_of s.sdi) is in
            ap (λ x. get_or (set longer own next) (5 * n + x) 0) same ∙ get_or-set_same longer own next 0 (omega (arith, longer_long, few)) ∙ ap (λ x. number_of params s.bus s.label x (suc n)) (sym same)
        at slot less (inr other) =
            get_or-set_other longer own (5 * n + slot) next 0 (other_own slot other) ∙ longer_at slot less ∙ sym (other_number params n slot s there other)

    abbrev room : List (Option ℕ)
    room = with_mailbox longer own before.latest.items

    room_is : room ≡ cond (last == 0) (before.latest.items ++ None ∷ []) before.latest.items
    room_is = ap (λ x. cond (x == 0) (before.latest.items ++ None ∷ []) before.latest.items) (longer_at (slot_of s.sdi) few)

    room_long : length room ≡ suc (openers params (suc n))
    room_long = ap length room_is ∙ by (last == 0) refl where
      by : (b : Bool) → (last == 0) ≡ b → length (cond b (before.latest.items ++ None ∷ []) before.latest.items) ≡ suc (openers params (suc n))
      by true is =
          let more : openers params (suc n) ≡ suc (openers params n) = openers_more params n s there ∙ ap (λ b. cond b (suc (openers params n)) (openers params n)) is in
          length-append before.latest.items (None ∷ []) ∙ (let sum : length before.latest.items + 1 ≡ suc (openers params (suc n)) = omega (arith, are.latest.count, more) in sum)
      by false is = are.latest.count ∙ ap suc (sym (openers_more params n s there ∙ ap (λ b. cond b (suc (openers params n)) (openers params n)) is))

    room_at : (k : ℕ) → get_or room k None ≡ get_or before.latest.items k None
    room_at k = ap (λ l. get_or l k None) room_is ∙ by (last == 0) where
      by : (b : Bool) → get_or (cond b (before.latest.items ++ None ∷ []) before.latest.items) k None ≡ get_or before.latest.items k None
      by true = get_or-more before.latest.items None k
      by false = refl

    pub next_room : next < length room
    next_room = omega (arith, room_long, number-within params s.bus s.label (slot_of s.sdi) (suc n))

    latest_at : (k : ℕ) → get_or (set room next (Some n)) k None ≡ cond (k == next) (Some n) (get_or before.latest.items k None)
    latest_at k = by (k == next) refl where
      by : (b : Bool) → (k == next) ≡ b → get_or (set room next (Some n)) k None ≡ cond b (Some n) (get_or before.latest.items k None)
      by true is = ap (λ i. get_or (set room next (Some n)) i None) (eqb-true k next is) ∙ get_or-set_same room next (Some n) None next_room
      by false is = get_or-set_other room next k (Some n) None (λ same. false≢true (sym is ∙ eq-eqb k next same)) ∙ room_at k

    pub source_numbered : (r : Rule) (m : ℕ) (after : Numbered) → RuleIs params n r → r.mailbox ≡ m
        → m ≡ mailbox_in longer own (length before.latest.items)
        → after.rules.items ≡ before.rules.items ++ Some r ∷ []
        → after.routes.items ≡ set longer own m
        → after.latest.items ≡ set room m (Some n)
        → AreNumbered params (n + 1) after
    source_numbered r m after rule has is rules routes latest =
        let at : m ≡ next = is ∙ mailbox_next in
        let mailbox : r.mailbox ≡ next = has ∙ at in
        let more_rule : AreRules params (suc n) (before.rules.items ++ Some r ∷ []) = more_rules params n before.rules.items (Some r) are.rules rule
        (λ t here. mailbox ∙ ap (λ (x : Source). number_of params x.bus x.label (slot_of x.sdi) (suc n)) (same_Some s t (sym there ∙ here))) in
        let more_last : AreLatest params (suc n) (before.rules.items ++ Some r ∷ []) (set room next (Some n)) = more_latest params n before.rules.items before.latest.items (set room next (Some n)) r are.latest are.rules.count
        (omega (arith, mailbox, some_next)) (length-set room next (Some n) ∙ room_long)
        (λ k. latest_at k ∙ ap (λ x. cond (k == x) (Some n) (get_or before.latest.items k None)) (sym mailbox)) in
        one_more n after (record {
          rules = subst (AreRules params (suc n)) (sym rules) more_rule;
          routes = subst (AreRoutes params (suc n)) (sym (routes ∙ ap (set longer own) at)) routes_more;
          latest = subst (λ l. AreLatest params (suc n) l after.latest.items) (sym rules)
              (subst (AreLatest params (suc n) (before.rules.items ++ Some r ∷ [])) (sym (latest ∙ ap (λ x. set room x (Some n)) at)) more_last);
        })

-- ---- in a book

module _ (d : Draft) (sealed : IsSealed d) where
  pub few_places : (n : ℕ) → n < 3 * length (the_book d).parameters → suc n < 2 ^ 16
  few_places n less = omega (arith, less, (sizes d sealed).params, ap length (book-parameters d), length-map d.params.items parameter_of)

  pub sound_book : All IsSoundParameter (the_book d).parameters
  unfolding book_of
  sound_book = sealed.sound.parameters

  pub sound_sdi : (n : ℕ) (s : Source) → source_at (the_book d).parameters n ≡ Some s → IfSome s.sdi (λ n. n < 4)
  sound_sdi n s there = (sound_source (the_book d).parameters n s sound_book there).sdi

  pub few_slots : (n : ℕ) (s : Source) → source_at (the_book d).parameters n ≡ Some s → slot_of s.sdi < 5
  few_slots n s there = by s.sdi (sound_sdi n s there) where
    by : (o : Option ℕ) → IfSome o (λ n. n < 4) → slot_of o < 5
    by None h = omega arith
    by (Some k) h = omega (arith, h)

  -- the parameters that were read are the book's
  pub params_read : (ps : List Param) → ps ≡ d.params.items → map parameter_of ps ≡ (the_book d).parameters
  params_read ps same = ap (map parameter_of) same ∙ sym (book-parameters d)

  pub source_read : (ps : List Param) (n : ℕ) (x : WordSource) → ps ≡ d.params.items → Some (source_of x) ≡ source_at (map parameter_of ps) n → source_at (the_book d).parameters n ≡ Some (source_of x)
  source_read ps n x same is = ap (λ l. source_at l n) (sym (params_read ps same)) ∙ sym is

  pub source_none : (ps : List Param) (n : ℕ) → ps ≡ d.params.items → source_at (map parameter_of ps) n ≡ None → source_at (the_book d).parameters n ≡ None
  source_none ps n same is = ap (λ l. source_at l n) (sym (params_read ps same)) ∙ is
