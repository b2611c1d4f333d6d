-- A table of a book as a whole, step by step.
use Rattle.std.proofs.Common.{◌≡◌, ℕ, zero, suc, ◌+◌, ◌-◌, ◌*◌, ◌/◌, ◌^◌, ◌<◌, ◌≤◌, ◌==◌, Bool, true, ltb, List, [], ◌∷◌, false, length, map, get_or, slice_index, Option, Some, None, All, cond, refl, sym, ap, ◌∙◌, subst, arith, add-one, inl, inr}
use Rattle.std.specs.Option.{option_map_or}
use Rattle.std.proofs.lemmas.Bool.{cases_Bool, false≢true, cases_lt}
use Rattle.std.proofs.lemmas.Bool.Decides.{nat_tests}
use Rattle.std.proofs.lemmas.List.{get_or_past, length-map}
use Rattle.std.proofs.lemmas.List.Elements.{All-get_or}
use Rattle.ecam_spec.specs.declared.limits.TheConstants.{STALE}
use Rattle.ecam_spec.specs.Situation.{no_parameter}
use Rattle.ecam_spec.specs.Book.{Source, Parameter, Book}
use Rattle.ecam_spec.specs.Draft.{book_of}
use Rattle.ecam_spec.specs.KeepsLimits.{IsSoundParameter}
use Rattle.ecam_spec.specs.Word.{label, is_odd}
use Rattle.ecam_spec.specs.Value.{BusWord, takes, reading}
use Rattle.ecam_spec.specs.History.{OneMore}
use Rattle.book_model.specs.declared.draft.Draft.{Draft}
use Rattle.book_model.specs.Sealed.{the_book, IsSealed}
use Rattle.wakes.specs.Marks.{is_marked, room}
use Rattle.book_model.specs.SourcePlaces.{parameter_with, source_at, listens, last_below}
use Rattle.book_model.proofs.SourcePlaces.{no_source, place_within}
use Rattle.param_table.specs.declared.received.Received.{Received}
use Rattle.param_table.specs.declared.mailbox.Mailbox.{Mailbox}
use Rattle.param_table.specs.declared.mailbox.Hearers.{Hearers}
use Rattle.param_table.specs.declared.rules.Rule.{Rule}
use Rattle.param_table.specs.declared.routing.Routing.{Routing}
use Rattle.param_table.specs.declared.table.Params.{Params}
use Rattle.param_table.specs.Taking.{takes_at}
use Rattle.param_table.specs.Rules.{IsRule, AreRules, slot_of}
use Rattle.param_table.specs.Asked.{is_asked_at}
use Rattle.param_table.specs.Routes.{AreRouted}
use Rattle.param_table.specs.HeldValues.{unused, at_start, given, renewed, held_for, received_at, mailbox_at, due_at, emptied, is_ending, set_back}
use Rattle.param_table.specs.HeldState.{AreSummed, CopiedWords, IsDue, AreDue, Renews, WillLook}
use Rattle.param_table.specs.TableState.{SourceStands, ParamsFit, ParamsStand, IsStill, received_before, received_by}
use Rattle.param_table.proofs.Chains.{is_past, past_fails}
use Rattle.param_table.proofs.Sources.{not_even, takes_listens}
use Rattle.param_table.proofs.Said.{start_stands, moment_stands, set_back_stands, word_stands, given_is, source_before-below}
use Rattle.param_table.proofs.Told.{word_told, moment_told}
use Rattle.param_table.proofs.ByRule.{rule-is, some_rule, no_rule, by_none, by_rule, mailbox_by_rule, get_or-at_start, started_early}
use Rattle.param_table.proofs.Numbers.{number-within}
use Rattle.param_table.proofs.Steps.{renews_none, will_look_at, still_given}
use Rattle.param_table.proofs.Delivery.{routed_same}

-- the parameters of a book are sound
pub book_sound : (d : Draft) → IsSealed d → All IsSoundParameter (the_book d).parameters
unfolding book_of
book_sound d sealed = sealed.sound.parameters

-- what is held where no source is
blank : (b : Book) (p : Params) → ParamsFit b p → (q : ℕ) → source_at b.parameters q ≡ None → (received_by p q).end ≡ 0
blank b p fits q none =
    let rules = p.routing.rules.items.items in
    ap (λ (r : Received). r.end) (by_none rules p.held.mailboxes.items.items q
    (no_rule b.parameters q (get_or rules q None) (rule-is b.parameters (3 * length b.parameters) rules fits.routed.rules (omega arith) q) none))

-- each place's mailbox is there
pub mailbox_within : (b : Book) (routing : Routing) (mailboxes : List Mailbox) → AreRouted b routing mailboxes → (q : ℕ)
    → mailbox_at routing.rules.items.items q < length mailboxes
mailbox_within b routing mailboxes routed q = by (source_at b.parameters q) refl where
  params : List Parameter
  params = b.parameters

  rules : List (Option Rule)
  rules = routing.rules.items.items

  by : (o : Option Source) → source_at params q ≡ o → mailbox_at rules q < length mailboxes
  by None none =
      let rule = no_rule params q (get_or rules q None) (rule-is params (3 * length params) rules routed.rules (omega arith) q) none in
      omega (arith, ap (λ o. option_map_or (λ (r : Rule). r.mailbox) o 0) rule, routed.count)
  by (Some s) there =
      omega (arith, routed.rules.mailbox q s (place_within params q s there) there, number-within params s.bus s.label (slot_of s.sdi) (3 * length params), routed.count)

-- and the same in each table of the book
same_mailbox : (params : List Parameter) (one two : List (Option Rule)) → AreRules params (3 * length params) one → AreRules params (3 * length params) two → (q : ℕ)
    → mailbox_at one q ≡ mailbox_at two q
same_mailbox params one two first second q = by (source_at params q) refl where
  by : (o : Option Source) → source_at params q ≡ o → mailbox_at one q ≡ mailbox_at two q
  by None none = no_mailbox one first ∙ sym (no_mailbox two second) where
    no_mailbox : (rules : List (Option Rule)) → AreRules params (3 * length params) rules → mailbox_at rules q ≡ 0
    no_mailbox rules are = ap (λ o. option_map_or (λ (r : Rule). r.mailbox) o 0) (no_rule params q (get_or rules q None) (rule-is params (3 * length params) rules are (omega arith) q) none)
  by (Some s) there = let within = place_within params q s there in first.mailbox q s within there ∙ sym (second.mailbox q s within there)

-- a place holds no fresh word by mailboxes that have none
pub none_fresh : (rules : List (Option Rule)) (mailboxes : List Mailbox) → ((m : ℕ) → (get_or mailboxes m unused).after ≡ 0) → (q : ℕ) → (received_at rules mailboxes q).end ≡ 0
none_fresh rules mailboxes none q = by (get_or rules q None) refl where
  by : (o : Option Rule) → get_or rules q None ≡ o → (received_at rules mailboxes q).end ≡ 0
  by None is = ap (λ (r : Received). r.end) (by_none rules mailboxes q is)
  by (Some r) is =
      ap (λ (x : Received). x.end) (by_rule rules mailboxes q r is)
      ∙ ap (λ n. cond (n == 0) 0 (n + r.stale)) (none r.mailbox)

pub get_or-emptied : (mailboxes : List Mailbox) (m : ℕ) → get_or (map emptied mailboxes) m unused ≡ emptied (get_or mailboxes m unused)
get_or-emptied [] m = refl
get_or-emptied (x ∷ xs) zero = refl
get_or-emptied (x ∷ xs) (suc m) = get_or-emptied xs m

-- before any word
pub start : (b : Book) (words : ℕ → List BusWord) (p : Params) → ParamsFit b p → words 0 ≡ [] → ((m : ℕ) → (get_or p.held.mailboxes.items.items m unused).after ≡ 0)
    → ((j : ℕ) → is_marked p.held.changed j ≡ false) → ParamsStand b words 0 p
start b words p fits none empty unmarked = record {
  fits = fits;
  sources = λ q s there. start_stands (parameter_with b.parameters q).stale s words p.clock (received_by p q) none (over q);
  before = λ q s there.
      let r = received_before p q in
      ap (λ t. cond t (reading (parameter_with b.parameters q).kind s r.bits) None) (not_less (p.clock - 1) r.end (over_before q));
  due = λ q asked fresh. absurd (omega (arith, fresh, over q));
  unchanged = λ q s there asked off.
      let past : ltb p.clock (received_by p q).end ≡ false = not_less p.clock (received_by p q).end (over q) in
      ap (λ t. cond t (reading (parameter_with b.parameters q).kind s (received_by p q).bits) None) past;
  told = λ j on. absurd (false≢true (sym (unmarked j) ∙ on));
} where
  over : (q : ℕ) → (received_by p q).end ≡ 0
  over = none_fresh p.routing.rules.items.items p.held.mailboxes.items.items empty

  over_before : (q : ℕ) → (received_before p q).end ≡ 0
  over_before q = ap (λ (r : Received). r.end) (started_early p.routing.rules.items.items p.held.mailboxes.items.items p.clock (λ m. omega (arith, empty m)) q) ∙ over q

  not_less : (clock end : ℕ) → end ≡ 0 → ltb clock end ≡ false
  not_less clock end is = grind (arith, nat_tests)

-- for how many moments a word is fresh
few_moments : (b : Book) (q : ℕ) (s : Source) → All IsSoundParameter b.parameters → source_at b.parameters q ≡ Some s → (parameter_with b.parameters q).stale ≤ STALE
few_moments b q s sound there = (All-get_or IsSoundParameter b.parameters (q / 3) no_parameter (let within = place_within b.parameters q s there in omega arith) sound).stale_high

get_or-set_back : (mailboxes : List Mailbox) (m : ℕ) → get_or (map set_back mailboxes) m unused ≡ set_back (get_or mailboxes m unused)
get_or-set_back [] m = refl
get_or-set_back (x ∷ xs) zero = refl
get_or-set_back (x ∷ xs) (suc m) = get_or-set_back xs m

-- what a table says of the words so far, not of the moment before
pub record WordsStand (b : Book) (words : ℕ → List BusWord) (k : ℕ) (p : Params) : Type 0 where
  pub fits : ParamsFit b p
  pub sources : (q : ℕ) (s : Source) → source_at b.parameters q ≡ Some s
      → SourceStands (parameter_with b.parameters q).stale s words k p.clock (received_by p q)
  pub due : AreDue (is_asked_at b) p.clock (received_by p) (due_at p.routing.rules.items.items p.held.dues)

pub words_stand : (b : Book) (words : ℕ → List BusWord) (k : ℕ) (p : Params) → ParamsStand b words k p → WordsStand b words k p
words_stand b words k p stands = record { fits = stands.fits; sources = stands.sources; due = stands.due }

-- the clock is set back
pub clock_back : (b : Book) (words : ℕ → List BusWord) (k : ℕ) (old new : Params) → ParamsFit b new → old.clock ≡ 2 ^ 32 - 1
    → new.clock ≡ 2 ^ 31 - 1 → new.routing ≡ old.routing → new.held.mailboxes.items.items ≡ map set_back old.held.mailboxes.items.items
    → ((q : ℕ) → slice_index new.held.dues q ≡ 0) → ParamsStand b words k old → WordsStand b words k new
clock_back b words k old new fits full half routing same soon stands = record {
  fits = fits;
  sources = λ q s there. source q s there;
  due = λ q asked fresh. omega (arith, soon (mailbox_at new.routing.rules.items.items q));
} where
  rules : List (Option Rule)
  rules = old.routing.rules.items.items

  boxes : List Mailbox
  boxes = old.held.mailboxes.items.items

  source : (q : ℕ) (s : Source) → source_at b.parameters q ≡ Some s
      → SourceStands (parameter_with b.parameters q).stale s words k new.clock (received_by new q)
  source q s there =
      let stale = (parameter_with b.parameters q).stale in
      let rule = some_rule b.parameters q s (get_or rules q None) (rule-is b.parameters (3 * length b.parameters) rules stands.fits.routed.rules (omega arith) q) there in
      let r = rule.0 in
      let held : received_by old q ≡ held_for (get_or boxes r.mailbox unused) stale =
      by_rule rules boxes q r rule.1 ∙ ap (held_for (get_or boxes r.mailbox unused)) rule.2.stale in
      let held_new : received_by new q ≡ held_for (set_back (get_or boxes r.mailbox unused)) stale =
      ap (λ (t : Routing). received_at t.rules.items.items new.held.mailboxes.items.items q) routing
      ∙ by_rule rules new.held.mailboxes.items.items q r rule.1
      ∙ ap (λ n. held_for (get_or new.held.mailboxes.items.items r.mailbox unused) n) rule.2.stale
      ∙ ap (λ l. held_for (get_or l r.mailbox unused) stale) same
      ∙ ap (λ m. held_for m stale) (get_or-set_back boxes r.mailbox) in
      let small : stale < 2 ^ 31 = omega (arith, (few_moments b q s stands.fits.sound there)) in
      subst (λ x. SourceStands stale s words k new.clock x) (sym held_new)
      (subst (λ t. SourceStands stale s words k t (held_for (set_back (get_or boxes r.mailbox unused)) stale)) (sym half)
      (set_back_stands stale s words k (get_or boxes r.mailbox unused) small
      (subst (λ t. SourceStands stale s words k t (held_for (get_or boxes r.mailbox unused) stale)) full
      (subst (λ x. SourceStands stale s words k old.clock x) held (stands.sources q s there)))))

-- one more moment begins: each word is looked at whose freshness ends with it
pub will_look : (is_asked : ℕ → Bool) (clock : ℕ) (x : ℕ → Received) (dues : ℕ → ℕ) → AreDue is_asked clock x dues → WillLook is_asked (suc clock) x dues
will_look is_asked clock x dues due = record {
  due = λ q asked. (will_look_at clock (x q) (dues q) (due q asked)).0;
  ending = λ q asked. (will_look_at clock (x q) (dues q) (due q asked)).1;
}

pub moment : (b : Book) (words : ℕ → List BusWord) (k : ℕ) (old new : Params) → ParamsFit b new → words (suc k) ≡ []
    → new.clock ≡ suc old.clock → new.routing ≡ old.routing → new.held.mailboxes ≡ old.held.mailboxes
    → AreDue (is_asked_at b) new.clock (received_by old) (due_at old.routing.rules.items.items new.held.dues)
    → ((q : ℕ) → is_asked_at b q ≡ true → is_marked new.held.changed (q / 3) ≡ false → is_ending new.clock (received_by old q) ≡ false)
    → ((p : ℕ) → ((q : ℕ) → q / 3 ≡ p → is_ending new.clock (received_by old q) ≡ false) → is_marked new.held.changed p ≡ false)
    → WordsStand b words k old → ParamsStand b words (suc k) new
moment b words k old new fits none counts routing same due marks others stands = record {
  fits = fits;
  sources = λ q s there.
      rw (counts, routing, same) (moment_stands (parameter_with b.parameters q).stale s words k old.clock (received_by old q) none (stands.sources q s there));
  before = λ q s there.
      let kind = (parameter_with b.parameters q).kind in
      let early : (m : ℕ) → (get_or old.held.mailboxes.items.items m unused).after ≤ suc old.clock = λ m. omega (arith, stands.fits.held.early m) in
      let back : new.clock - 1 ≡ old.clock = omega (arith, counts) in
      let held : received_before new q ≡ received_by old q =
      rw (counts, routing, same) (started_early old.routing.rules.items.items old.held.mailboxes.items.items (suc old.clock) early q) in
      ap (λ t. given t kind s (received_before new q)) back ∙ ap (given old.clock kind s) held
      ∙ given_is kind (parameter_with b.parameters q).stale s words k old.clock (received_by old q) (stands.sources q s there);
  due = rw (routing, same) due;
  unchanged = λ q s there asked off.
      let received = received_by old q in
      let still : is_ending (suc old.clock) received ≡ false = ap (λ t. is_ending t received) (sym counts) ∙ marks q asked off in
      rw (counts, routing, same) (still_given old.clock (parameter_with b.parameters q).kind s received still
      ∙ given_is (parameter_with b.parameters q).kind (parameter_with b.parameters q).stale s words k old.clock received (stands.sources q s there));
  told = λ p on.
      moment_told b words k old.clock p (received_by old) (is_marked new.held.changed p) none
      (λ calm. others p (λ q row. ap (λ t. is_ending t (received_by old q)) counts ∙ calm q row)) (blank b old stands.fits) stands.sources on;
}

-- a word comes, which is taken where a source takes it
pub word : (b : Book) (before after : ℕ → List BusWord) (k : ℕ) (w : BusWord) (old new : Params) → ParamsFit b new → OneMore before after k w
    → new.clock ≡ old.clock → new.routing ≡ old.routing
    → ((q : ℕ) → received_by new q ≡ cond (takes_at b.parameters w q) (renewed old.clock (parameter_with b.parameters q).stale w.bits) (received_by old q))
    → Renews (is_asked_at b) b.parameters old.routing.rules.items.items old.clock old.held new.held
    → ((p : ℕ) → ((q : ℕ) → q / 3 ≡ p → takes_at b.parameters w q ≡ false) → is_marked new.held.changed p ≡ is_marked old.held.changed p)
    → ParamsStand b before k old → ParamsStand b after k new
word b before after k w old new fits on clock routing places renews others stands = record {
  told = λ p on_now. word_told b before after k w p (is_marked old.held.changed p) (is_marked new.held.changed p) on (others p) (stands.told p) on_now;
  fits = fits;
  sources = λ q s there.
      let stale = (parameter_with b.parameters q).stale in
      let was = received_by old q in
      let taken : received_by new q ≡ cond (takes s w) (renewed old.clock stale w.bits) was =
      places q ∙ ap (λ o. cond (option_map_or (λ t. takes t w) o false) (renewed old.clock stale w.bits) was) there in
      subst (λ x. SourceStands stale s after k new.clock x) (sym taken)
      (rw clock (word_stands stale s before after k old.clock w was on (stands.sources q s there)));
  before = λ q s there.
      let kind = (parameter_with b.parameters q).kind in
      ap (λ t. given (t - 1) kind s (received_at new.routing.rules.items.items (map (at_start t) new.held.mailboxes.items.items) q)) clock
      ∙ ap (λ (t : Routing). given (old.clock - 1) kind s (received_at t.rules.items.items (map (at_start old.clock) new.held.mailboxes.items.items) q)) routing
      ∙ ap (given (old.clock - 1) kind s) (renews.before q) ∙ stands.before q s there
      ∙ source_before-below before after k (λ i h. sym (on.before i h)) kind (parameter_with b.parameters q).stale s;
  due = rw (clock, routing) (renews.due stands.due);
  unchanged = λ q s there asked off.
      let kind = (parameter_with b.parameters q).kind in
      let stale = (parameter_with b.parameters q).stale in
      ap (λ t. given t kind s (received_by new q)) clock
      ∙ ap (λ (t : Routing). given old.clock kind s (received_at t.rules.items.items new.held.mailboxes.items.items q)) routing
      ∙ renews.gives q s there asked off ∙ stands.unchanged q s there asked (renews.marks q off)
      ∙ source_before-below before after k (λ i h. sym (on.before i h)) kind stale s;
}

-- a word comes that no source takes, and leaves the table as it is
pub word_of_none : (b : Book) (before after : ℕ → List BusWord) (k : ℕ) (w : BusWord) (p : Params) → OneMore before after k w → ((q : ℕ) → takes_at b.parameters w q ≡ false)
    → ParamsStand b before k p → ParamsStand b after k p
word_of_none b before after k w p on none stands =
    word b before after k w p p stands.fits on refl refl
    (λ q. sym (ap (λ t. cond t (renewed p.clock (parameter_with b.parameters q).stale w.bits) (received_by p q)) (none q)))
    (renews_none (is_asked_at b) b.parameters p.routing.rules.items.items p.clock p.held) (λ p none. refl) stands

-- one of even parity
pub even_word : (b : Book) (before after : ℕ → List BusWord) (k : ℕ) (w : BusWord) (p : Params) → OneMore before after k w → is_odd w.bits ≡ false
    → ParamsStand b before k p → ParamsStand b after k p
even_word b before after k w p on even stands = word_of_none b before after k w p on (λ q. none_takes (source_at b.parameters q)) stands where
  none_takes : (o : Option Source) → option_map_or (λ s. takes s w) o false ≡ false
  none_takes None = refl
  none_takes (Some s) = not_even s w even

-- one to which no source listens
pub unheard_word : (b : Book) (before after : ℕ → List BusWord) (k : ℕ) (w : BusWord) (p : Params) → OneMore before after k w
    → None ≡ last_below (listens b.parameters w.bus (label w.bits)) (3 * length b.parameters) → ParamsStand b before k p → ParamsStand b after k p
unheard_word b before after k w p on none stands = word_of_none b before after k w p on (λ q. elim (cases_lt q (3 * length b.parameters)) [
  | inl within ↦ takes_listens b.parameters w q (past_fails (listens b.parameters w.bus (label w.bits)) (3 * length b.parameters) q within (ap (λ o. is_past o q) (sym none)))
  | inr past ↦ ap (λ o. option_map_or (λ s. takes s w) o false) (no_source b.parameters q past)
]) stands

-- the table fits when the clock is set back
pub back_fits : (b : Book) (old new : Params) → old.clock ≡ 2 ^ 32 - 1 → new.clock ≡ 2 ^ 31 - 1 → new.routing ≡ old.routing → new.held.mailboxes.items.items ≡ map set_back old.held.mailboxes.items.items
    → new.held.changed ≡ old.held.changed → new.held.busy ≡ old.held.busy → length new.held.dues ≡ length old.held.dues → ParamsFit b old → ParamsFit b new
back_fits b old new full half routing same marks busy dues fits = record {
  sound = fits.sound;
  routed = subst (λ t. AreRouted b t new.held.mailboxes.items.items) (sym routing)
      (routed_same b old.routing old.held.mailboxes.items.items new.held.mailboxes.items.items (ap length same ∙ length-map old.held.mailboxes.items.items set_back)
      (λ m less. ap (λ l. (get_or l m unused).hearers) same ∙ ap (λ (x : Mailbox). x.hearers) (get_or-set_back old.held.mailboxes.items.items m)) fits.routed);
  held = record {
    room = ap room marks ∙ fits.held.room;
    within = λ p past. ap (λ s. is_marked s p) marks ∙ fits.held.within p past;
    busy = subst (AreSummed new.held.changed) (sym busy) (subst (λ s. AreSummed s old.held.busy) (sym marks) fits.held.busy);
    dues = dues ∙ fits.held.dues ∙ sym (ap length same ∙ length-map old.held.mailboxes.items.items set_back);
    early = λ m.
        let now : (get_or new.held.mailboxes.items.items m unused).after ≡ (get_or old.held.mailboxes.items.items m unused).after - 2 ^ 31 =
        ap (λ l. (get_or l m unused).after) same ∙ ap (λ (x : Mailbox). x.after) (get_or-set_back old.held.mailboxes.items.items m) in
        omega (arith, now, fits.held.early m);
  };
}

-- the words and the moments of another table are taken over
pub copied-fits : (b : Book) (was other new : Params) → ParamsFit b was → ParamsFit b other → new.routing ≡ was.routing → new.clock ≡ other.clock
    → CopiedWords was.held.mailboxes.items.items other.held.mailboxes.items.items new.held.mailboxes.items.items
    → new.held.changed ≡ other.held.changed → new.held.busy ≡ other.held.busy → new.held.dues ≡ other.held.dues → ParamsFit b new
copied-fits b was other new fits also routing clock words changed busy dues = record {
  sound = fits.sound;
  routed = subst (λ t. AreRouted b t new.held.mailboxes.items.items) (sym routing)
      (routed_same b was.routing was.held.mailboxes.items.items new.held.mailboxes.items.items words.count (λ m less. ap (λ (x : Mailbox). x.hearers) (words.each m less)) fits.routed);
  held = record {
    room = ap room changed ∙ also.held.room;
    within = λ p past. ap (λ s. is_marked s p) changed ∙ also.held.within p past;
    busy = subst (AreSummed new.held.changed) (sym busy) (subst (λ s. AreSummed s other.held.busy) (sym changed) also.held.busy);
    dues = ap length dues ∙ also.held.dues ∙ also.routed.count ∙ sym fits.routed.count ∙ sym words.count;
    early = λ m. elim (cases_lt m (length was.held.mailboxes.items.items)) [
      | inl within ↦ omega (arith, ap (λ (x : Mailbox). x.after) (words.each m within), also.held.early m)
      | inr past ↦ omega (arith, ap (λ (x : Mailbox). x.after) (get_or_past new.held.mailboxes.items.items m unused (omega (arith, past, words.count))))
    ];
  };
}

pub copied : (b : Book) (words : ℕ → List BusWord) (k : ℕ) (was other new : Params) → ParamsFit b was → new.routing ≡ was.routing → new.clock ≡ other.clock
    → CopiedWords was.held.mailboxes.items.items other.held.mailboxes.items.items new.held.mailboxes.items.items
    → new.held.changed ≡ other.held.changed → new.held.busy ≡ other.held.busy → new.held.dues ≡ other.held.dues
    → ParamsStand b words k other → ParamsStand b words k new
copied b words k was other new fits routing clock copies changed busy dues stands = record {
  fits = copied-fits b was other new fits stands.fits routing clock copies changed busy dues;
  sources = λ q s there. subst (λ x. SourceStands (parameter_with b.parameters q).stale s words k new.clock x) (sym (held q)) (rw clock (stands.sources q s there));
  before = λ q s there.
      ap (given (new.clock - 1) (parameter_with b.parameters q).kind s) (held_before q)
      ∙ ap (λ t. given (t - 1) (parameter_with b.parameters q).kind s (received_at (rules other) (map (at_start t) other.held.mailboxes.items.items) q)) clock
      ∙ stands.before q s there;
  due = λ q asked. subst (λ x. IsDue new.clock x (due_at (rules new) new.held.dues q)) (sym (held q)) (subst (IsDue new.clock (received_by other q)) (sym (due q)) (rw clock (stands.due q asked)));
  unchanged = λ q s there asked off.
      ap (λ x. given new.clock (parameter_with b.parameters q).kind s x) (held q) ∙ rw clock (stands.unchanged q s there asked (ap (λ m. is_marked m (q / 3)) (sym changed) ∙ off));
  told = λ j on. stands.told j (ap (λ m. is_marked m j) (sym changed) ∙ on);
} where
  rules : Params → List (Option Rule)
  rules p = p.routing.rules.items.items

  each : (p : Params) → ParamsFit b p → (q : ℕ) → IsRule b.parameters q (get_or (rules p) q None)
  each p fit q = rule-is b.parameters (3 * length b.parameters) (rules p) fit.routed.rules (omega arith) q

  place_same : (q : ℕ) → mailbox_at (rules was) q ≡ mailbox_at (rules other) q
  place_same = same_mailbox b.parameters (rules was) (rules other) fits.routed.rules stands.fits.routed.rules

  -- a place is looked at with the same mailbox in both, and holds the same by it
  due : (q : ℕ) → due_at (rules new) new.held.dues q ≡ due_at (rules other) other.held.dues q
  due q = ap (λ ds. due_at (rules new) ds q) dues ∙ ap (λ (t : Routing). due_at t.rules.items.items other.held.dues q) routing ∙ ap (slice_index other.held.dues) (place_same q)

  -- where the mailboxes hold the same, so do the places
  by_mailboxes : (xs ys : List Mailbox) → ((i stale : ℕ) → i < length was.held.mailboxes.items.items → held_for (get_or xs i unused) stale ≡ held_for (get_or ys i unused) stale)
      → (q : ℕ) → received_at (rules was) xs q ≡ received_at (rules other) ys q
  by_mailboxes xs ys each_same q = by (source_at b.parameters q) refl where
    by : (o : Option Source) → source_at b.parameters q ≡ o → received_at (rules was) xs q ≡ received_at (rules other) ys q
    by None none =
        by_none (rules was) xs q (no_rule b.parameters q (get_or (rules was) q None) (each was fits q) none)
        ∙ sym (by_none (rules other) ys q (no_rule b.parameters q (get_or (rules other) q None) (each other stands.fits q) none))
    by (Some s) there =
        let one = some_rule b.parameters q s (get_or (rules was) q None) (each was fits q) there in
        let two = some_rule b.parameters q s (get_or (rules other) q None) (each other stands.fits q) there in
        let own = mailbox_by_rule (rules was) q one.0 one.1 in
        let mailbox : one.0.mailbox ≡ two.0.mailbox = sym own ∙ place_same q ∙ mailbox_by_rule (rules other) q two.0 two.1 in
        let few : one.0.mailbox < length was.held.mailboxes.items.items = omega (arith, own, mailbox_within b was.routing was.held.mailboxes.items.items fits.routed q) in
        by_rule (rules was) xs q one.0 one.1
        ∙ each_same one.0.mailbox one.0.stale few
        ∙ ap (λ i. held_for (get_or ys i unused) one.0.stale) mailbox
        ∙ ap (held_for (get_or ys two.0.mailbox unused)) (one.2.stale ∙ sym two.2.stale)
        ∙ sym (by_rule (rules other) ys q two.0 two.1)

  held : (q : ℕ) → received_by new q ≡ received_by other q
  held q =
      ap (λ (t : Routing). received_at t.rules.items.items new.held.mailboxes.items.items q) routing
      ∙ by_mailboxes new.held.mailboxes.items.items other.held.mailboxes.items.items (λ i stale few. ap (λ m. held_for m stale) (copies.each i few)) q

  -- and what they held when the moment began
  start_copied : (m : Mailbox) (h : Hearers) (stale : ℕ) → held_for (at_start new.clock (record m { hearers = h })) stale ≡ held_for (at_start new.clock m) stale
  start_copied m h stale = by (m.after == new.clock + 1) where
    by : (t : Bool) → held_for (cond t (record m { after = m.earlier_after; bits = m.earlier_bits; hearers = h }) (record m { hearers = h })) stale
        ≡ held_for (cond t (record m { after = m.earlier_after; bits = m.earlier_bits }) m) stale
    by true = refl
    by false = refl

  held_before : (q : ℕ) → received_before new q ≡ received_at (rules other) (map (at_start new.clock) other.held.mailboxes.items.items) q
  held_before q =
      ap (λ (t : Routing). received_at t.rules.items.items (map (at_start new.clock) new.held.mailboxes.items.items) q) routing
      ∙ by_mailboxes (map (at_start new.clock) new.held.mailboxes.items.items) (map (at_start new.clock) other.held.mailboxes.items.items)
      (λ i stale few.
      ap (λ m. held_for m stale) (get_or-at_start new.clock new.held.mailboxes.items.items i)
      ∙ ap (λ m. held_for (at_start new.clock m) stale) (copies.each i few)
      ∙ start_copied (get_or other.held.mailboxes.items.items i unused) (get_or was.held.mailboxes.items.items i unused).hearers stale
      ∙ sym (ap (λ m. held_for m stale) (get_or-at_start new.clock other.held.mailboxes.items.items i))) q

-- ---- a moment whose end changes nothing but the clock

abbrev pub passed : Params → Params
passed p = record p { clock = p.clock + 1 }

pub passed-fits : (b : Book) (p : Params) → ParamsFit b p → ParamsFit b (passed p)
passed-fits b p fits = record {
  sound = fits.sound;
  routed = fits.routed;
  held = record {
    room = fits.held.room;
    within = fits.held.within;
    busy = fits.held.busy;
    dues = fits.held.dues;
    early = λ m. omega (arith, fits.held.early m);
  };
}

module _ (b : Book) (p : Params) (fits : ParamsFit b p) (still : IsStill p) where
  abbrev due : ℕ → ℕ
  due = due_at p.routing.rules.items.items p.held.dues

  none-ending : AreDue (is_asked_at b) p.clock (received_by p) due → (q : ℕ) → is_asked_at b q ≡ true → is_ending (p.clock + 1) (received_by p q) ≡ false
  none-ending was q asked = elim (cases_Bool (is_ending (p.clock + 1) (received_by p q))) [
    | inl on ↦ absurd (
        let comes : due q ≤ suc p.clock = (will_look (is_asked_at b) p.clock (received_by p) due was).ending q asked (subst (λ t. is_ending t (received_by p q) ≡ true) (add-one p.clock) on) in
        let there = mailbox_within b p.routing p.held.mailboxes.items.items fits.routed q in
        let later = still.dues (mailbox_at p.routing.rules.items.items q) (omega (arith, there, fits.held.dues)) in
        let w : ⊥ = omega (arith, later, comes) in w)
    | inr off ↦ off
  ]

  pub passed-stands : (words : ℕ → List BusWord) (k : ℕ) → words (suc k) ≡ [] → ParamsStand b words k p → ParamsStand b words (suc k) (passed p)
  passed-stands words k none stands =
      let is_asked = is_asked_at b in
      let will : WillLook is_asked (p.clock + 1) (received_by p) due = subst (λ t. WillLook is_asked t (received_by p) due) (sym (add-one p.clock)) (will_look is_asked p.clock (received_by p) due stands.due) in
      moment b words k p (passed p) (passed-fits b p fits) none (add-one p.clock) refl refl will.due
      (λ q asked off. none-ending stands.due q asked) (λ j calm. still.none j) (words_stand b words k p stands)
