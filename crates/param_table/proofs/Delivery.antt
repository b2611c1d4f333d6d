-- A word comes to a mailbox: what its sources hold by it, and which parameters are marked.
use Rattle.std.proofs.Common.{◌≡◌, ◌≢◌, ◌⊎◌, ℕ, ◌+◌, ◌*◌, ◌/◌, ◌<◌, ◌≤◌, Bool, true, false, not, ltb, ◌==◌, ◌&&◌, ◌||◌, bit_and, bit_xor, length, map, get_or, set, slice_index, List, Option, Some, None, All, cond, refl, sym, ap, ◌∙◌, subst, arith, inl, inr}
use Rattle.std.specs.List.{list_any, slice_range}
use Rattle.std.proofs.lemmas.Bool.{cases_eq, and_parts, or_parts, eq-eqb, eqb-true, ne_eqb, false≢true}
use Rattle.std.proofs.lemmas.Bool.Decides.{nat_tests}
use Rattle.std.proofs.lemmas.Option.{same_Some, none-some}
use Rattle.std.proofs.lemmas.List.{get_or-set_same, get_or-set_other, length-set}
use Rattle.std.proofs.lemmas.List.Folds.{list_any_none}
use Rattle.ecam_spec.specs.declared.kinds.Kind.{Kind}
use Rattle.ecam_spec.specs.Book.{Source, Parameter, Book}
use Rattle.ecam_spec.specs.KeepsLimits.{IsSoundParameter, IsSoundSource}
use Rattle.ecam_spec.specs.Value.{reading}
use Rattle.wakes.specs.Marks.{is_marked, room}
use Rattle.book_model.specs.SourcePlaces.{parameter_with, source_at}
use Rattle.book_model.proofs.SourcePlaces.{place_within, sound_source}
use Rattle.param_table.specs.declared.received.Received.{Received}
use Rattle.param_table.specs.declared.mailbox.Hearers.{Hearers}
use Rattle.param_table.specs.declared.mailbox.Listener.{Listener}
use Rattle.param_table.specs.declared.mailbox.Mailbox.{Mailbox}
use Rattle.param_table.specs.declared.routing.Routing.{Routing}
use Rattle.param_table.specs.declared.rules.Rule.{Rule}
use Rattle.param_table.specs.declared.held.Held.{Held}
use Rattle.param_table.specs.Words.{may_say, low_of, mask_of, modes_of}
use Rattle.param_table.specs.Asked.{is_asked_at}
use Rattle.param_table.specs.Rules.{RuleIs, slot_of}
use Rattle.param_table.specs.Routes.{listener_of, IsListener, AreListeners, Tells, AreRouted}
use Rattle.param_table.specs.HeldValues.{unused, at_start, given, renewed, held_for, received_at, all_fresh, hearers_of, delivered, says_same, keeps_saying, due_at}
use Rattle.param_table.specs.HeldState.{AreSummed, CameTo, IsDue, Renews}
use Rattle.param_table.specs.TableState.{HeldFits}
use Rattle.param_table.proofs.Masks.{reading-same, says-nothing}
use Rattle.param_table.proofs.Listeners.{fresh_for}
use Rattle.param_table.proofs.ByRule.{no_rule_past, rule-is, rule_source, by_none, by_rule, due_by_rule, mailbox_by_rule, started_by_rule}
use Rattle.param_table.proofs.Numbers.{number-own, passes-own}
use Rattle.param_table.proofs.Hearers.{tells, rule_at, listener, each_asked, held_here, by_place}

-- ---- a mailbox whose word alone is another

tells_same : (is_asked : ℕ → Bool) (rules : List (Option Rule)) (ls : List Listener) (i : ℕ) (b c : Mailbox) → b.hearers ≡ c.hearers → Tells is_asked rules ls i b → Tells is_asked rules ls i c
tells_same is_asked rules ls i b c e t = record {
  order = subst (λ (h : Hearers). h.first ≤ h.end) e t.order;
  within = subst (λ (h : Hearers). h.end ≤ length ls) e t.within;
  are = subst (λ (h : Hearers). AreListeners is_asked rules i (slice_range ls h.first h.end)) e t.are;
  soonest = subst (λ (h : Hearers). All (λ (l : Listener). h.soonest ≤ l.stale) (slice_range ls h.first h.end)) e t.soonest;
}

pub routed_same : (b : Book) (routing : Routing) (old new : List Mailbox) → length new ≡ length old
    → ((m : ℕ) → m < length old → (get_or new m unused).hearers ≡ (get_or old m unused).hearers) → AreRouted b routing old → AreRouted b routing new
routed_same b routing old new long same routed = record {
  rules = routed.rules;
  routes = routed.routes;
  count = long ∙ routed.count;
  tells = λ m less.
      let within : m < length old = omega (arith, less, long) in
      tells_same (is_asked_at b) routing.rules.items.items routing.listeners.items.items m (get_or old m unused) (get_or new m unused) (sym (same m within)) (routed.tells m within);
}

-- a word's end, by the mailbox in which it came
fresh_end : (clock stale bits : ℕ) (m : Mailbox) → held_for (delivered clock bits m) stale ≡ renewed clock stale bits
fresh_end clock stale bits m =
    let later : clock + 1 == 0 ≡ false = grind (arith, nat_tests) in
    ap (λ b. record { bits = bits; end = cond b 0 (clock + 1 + stale) }) later

end_most : (clock after stale : ℕ) → after ≤ clock + 1 → cond (after == 0) 0 (after + stale) ≤ clock + 1 + stale
end_most clock after stale early = by (after == 0) where
  by : (b : Bool) → cond b 0 (after + stale) ≤ clock + 1 + stale
  by true = omega arith
  by false = omega arith

either : (a b : Bool) → (a || b) ≡ true → (a ≡ true) ⊎ (b ≡ true)
either true b on = inl refl
either false b on = inr on

neither : (a b : Bool) → not (a || b) ≡ true → (a ≡ false) × (b ≡ false)
neither true b on = absurd (false≢true on)
neither false true on = absurd (false≢true on)
neither false false on = (refl, refl)

-- words that say the same to a listener give the same to its source
same_reading : (kind : Kind) (s : Source) (l : Listener) (old new : ℕ) → IsSoundSource s → l.mask ≡ mask_of kind (low_of kind s) → l.modes ≡ modes_of kind
    → says_same l old new ≡ true → reading kind s new ≡ reading kind s old
same_reading kind s l old new sound mask modes same = elim (either (bit_and (bit_xor old new) l.mask == 0) (not (may_say l.modes old || may_say l.modes new)) same) [
  | inl none ↦ sym (reading-same kind s old new sound (sym (ap (bit_and (bit_xor old new)) mask) ∙ eqb-true (bit_and (bit_xor old new) l.mask) 0 none))
  | inr silent ↦
      let both = neither (may_say l.modes old) (may_say l.modes new) silent in
      says-nothing kind s new (ap (λ n. may_say n new) (sym modes) ∙ both.1)
      ∙ sym (says-nothing kind s old (ap (λ n. may_say n old) (sym modes) ∙ both.0))
]

module _ (b : Book) (routing : Routing) (clock m bits : ℕ) (old new : Held) (sound : All IsSoundParameter b.parameters)
    (routed : AreRouted b routing old.mailboxes.items.items) (fits : HeldFits b.parameters clock old) (within : m < length old.mailboxes.items.items) where
  abbrev params : List Parameter
  params = b.parameters

  abbrev is_asked : ℕ → Bool
  is_asked = is_asked_at b

  abbrev rules : List (Option Rule)
  rules = routing.rules.items.items

  abbrev boxes : List Mailbox
  boxes = old.mailboxes.items.items

  abbrev before : Mailbox
  before = get_or boxes m unused

  abbrev hearers : List Listener
  hearers = hearers_of routing.listeners.items.items before

  there : Tells is_asked rules routing.listeners.items.items m before
  there = tells b routing boxes m routed within

  module _ (written : new.mailboxes.items.items ≡ set boxes m (delivered clock bits before)) (same_room : room new.changed ≡ room old.changed)
      (marks : (p : ℕ) → is_marked new.changed p ≡ (list_any (λ (l : Listener). p == l.param && not (keeps_saying clock bits before l)) hearers || is_marked old.changed p))
      (dues : new.dues ≡ cond (all_fresh clock before) old.dues (set old.dues m (clock + 1 + before.hearers.soonest)))
      (summed : AreSummed old.changed old.busy → AreSummed new.changed new.busy) where
    abbrev now : ℕ → Mailbox
    now i = get_or new.mailboxes.items.items i unused

    now-other : (i : ℕ) → i ≢ m → now i ≡ get_or boxes i unused
    now-other i ne = ap (λ l. get_or l i unused) written ∙ get_or-set_other boxes m i (delivered clock bits before) unused ne

    now-own : now m ≡ delivered clock bits before
    now-own = ap (λ l. get_or l m unused) written ∙ get_or-set_same boxes m (delivered clock bits before) unused within

    -- what the sources hold
    pub held-other : (q : ℕ) (r : Rule) → get_or rules q None ≡ Some r → r.mailbox ≢ m → received_at rules new.mailboxes.items.items q ≡ received_at rules boxes q
    held-other q r is ne = by_rule rules new.mailboxes.items.items q r is ∙ ap (λ b. held_for b r.stale) (now-other r.mailbox ne) ∙ sym (by_rule rules boxes q r is)

    pub held-own : (q : ℕ) (r : Rule) → get_or rules q None ≡ Some r → r.mailbox ≡ m → received_at rules new.mailboxes.items.items q ≡ renewed clock r.stale bits
    held-own q r is own =
        by_rule rules new.mailboxes.items.items q r is ∙ ap (λ i. held_for (now i) r.stale) own ∙ ap (λ b. held_for b r.stale) now-own ∙ fresh_end clock r.stale bits before

    pub held-none : (q : ℕ) → get_or rules q None ≡ None → received_at rules new.mailboxes.items.items q ≡ received_at rules boxes q
    held-none q is = by_none rules new.mailboxes.items.items q is ∙ sym (by_none rules boxes q is)

    hearers-same : (i : ℕ) → (now i).hearers ≡ (get_or boxes i unused).hearers
    hearers-same i = elim (cases_eq i m) [
      | inl e ↦ subst (λ j. (now j).hearers ≡ (get_or boxes j unused).hearers) (sym e) (ap (λ (b : Mailbox). b.hearers) now-own)
      | inr ne ↦ ap (λ (b : Mailbox). b.hearers) (now-other i ne)
    ]

    boxes_long : length new.mailboxes.items.items ≡ length boxes
    boxes_long = ap length written ∙ length-set boxes m (delivered clock bits before)

    pub delivered_routed : AreRouted b routing new.mailboxes.items.items
    delivered_routed = routed_same b routing boxes new.mailboxes.items.items boxes_long (λ i less. hearers-same i) routed

    dues_long : (b : Bool) → length (cond b old.dues (set old.dues m (clock + 1 + before.hearers.soonest))) ≡ length old.dues
    dues_long true = refl
    dues_long false = length-set old.dues m (clock + 1 + before.hearers.soonest)

    pub delivered_others : (p : ℕ) → ((q : ℕ) (r : Rule) → q / 3 ≡ p → get_or rules q None ≡ Some r → r.mailbox ≢ m) → is_marked new.changed p ≡ is_marked old.changed p
    delivered_others p none = marks p ∙ ap (λ b. b || is_marked old.changed p) (list_any_none (λ (l : Listener). p == l.param && not (keeps_saying clock bits before l)) hearers (λ k d less. each _ (there.are.each k d less))) where
      each : (l : Listener) → IsListener is_asked rules m l → (p == l.param && not (keeps_saying clock bits before l)) ≡ false
      each l its = elim (cases_eq p l.param) [
        | inl e ↦ absurd (none l.place its.rule (sym (e ∙ ap (λ (x : Listener). x.param) its.is)) its.there its.own)
        | inr ne ↦ ap (λ b. b && not (keeps_saying clock bits before l)) (ne_eqb p l.param ne)
      ]

    pub delivered_fits : HeldFits params clock new
    delivered_fits = record {
      room = same_room ∙ fits.room;
      within = λ p past.
          delivered_others p (λ q r row is own. none-some r (sym (no_rule_past params rules routed.rules q p row past) ∙ is))
          ∙ fits.within p past;
      busy = summed fits.busy;
      dues = ap length dues ∙ dues_long (all_fresh clock before) ∙ fits.dues ∙ sym boxes_long;
      early = λ i. elim (cases_eq i m) [
        | inl e ↦ subst (λ j. (now j).after ≤ clock + 1) (sym e) (omega (arith, ap (λ (b : Mailbox). b.after) now-own))
        | inr ne ↦ omega (arith, ap (λ (b : Mailbox). b.after) (now-other i ne), fits.early i)
      ];
    }

    unmarked : (p : ℕ) → is_marked new.changed p ≡ false
        → (list_any (λ (l : Listener). p == l.param && not (keeps_saying clock bits before l)) hearers ≡ false) × (is_marked old.changed p ≡ false)
    unmarked p off = or_parts _ _ (sym (marks p) ∙ off)

    says_on : (a b : Bool) → a ≡ true → (a && not b) ≡ false → b ≡ true
    says_on true true on off = refl
    says_on true false on off = absurd (false≢true (sym off))
    says_on false b on off = absurd (false≢true on)

    same_given : (q : ℕ) (s : Source) (r : Rule) → source_at params q ≡ Some s → get_or rules q None ≡ Some r → RuleIs params q r → r.mailbox ≡ m → is_asked q ≡ true → is_marked new.changed (q / 3) ≡ false
        → given clock (parameter_with params q).kind s (received_at rules new.mailboxes.items.items q) ≡ given clock (parameter_with params q).kind s (received_at rules boxes q)
    same_given q s r source_is is rule own asked off =
        let kind = (parameter_with params q).kind in
        let l = listener_of q r in
        let on = (listener b routing boxes m routed within (λ x. IsListener is_asked rules m x) there.are.each (λ (x : Listener). q / 3 == x.param && not (keeps_saying clock bits before x)) (unmarked (q / 3) off).0 q r is own asked).1 in
        let parts = and_parts (ltb clock (held_for before r.stale).end) (says_same l before.bits bits) (says_on (q / 3 == q / 3) (keeps_saying clock bits before l) (eq-eqb (q / 3) (q / 3) refl) on) in
        let source : rule.source ≡ s = same_Some rule.source s (sym rule.there ∙ source_is) in
        let low : r.low ≡ low_of kind s = rule.low ∙ ap (λ k. low_of k rule.source) rule.kind ∙ ap (low_of kind) source in
        let later : ltb clock (clock + 1 + r.stale) ≡ true = grind (arith, nat_tests) in
        ap (given clock kind s) (held-own q r is own)
        ∙ ap (λ b. cond b (reading kind s bits) None) later
        ∙ same_reading kind s l before.bits bits (sound_source params q s sound source_is)
        (ap (λ k. mask_of k r.low) rule.kind ∙ ap (mask_of kind) low) (ap modes_of rule.kind) parts.1
        ∙ sym (ap (λ b. cond b (reading kind s before.bits) None) parts.0)
        ∙ sym (ap (given clock kind s) (held_here b routing boxes m routed within q r is own))

    -- when the mailboxes are looked at
    dues-other : (i : ℕ) → i ≢ m → (b : Bool) → slice_index (cond b old.dues (set old.dues m (clock + 1 + before.hearers.soonest))) i ≡ slice_index old.dues i
    dues-other i ne true = refl
    dues-other i ne false = get_or-set_other old.dues m i (clock + 1 + before.hearers.soonest) 0 ne

    due-other : (q : ℕ) (r : Rule) → IsDue clock (received_at rules boxes q) (due_at rules old.dues q) → get_or rules q None ≡ Some r → r.mailbox ≢ m
        → IsDue clock (received_at rules new.mailboxes.items.items q) (due_at rules new.dues q)
    due-other q r was is ne =
        let same : due_at rules new.dues q ≡ due_at rules old.dues q =
        due_by_rule rules new.dues q r is ∙ ap (λ ds. slice_index ds r.mailbox) dues ∙ dues-other r.mailbox ne (all_fresh clock before) ∙ sym (due_by_rule rules old.dues q r is) in
        subst (λ x. IsDue clock x (due_at rules new.dues q)) (sym (held-other q r is ne)) (subst (IsDue clock (received_at rules boxes q)) (sym same) was)

    due-own : (q : ℕ) (r : Rule) → IsDue clock (received_at rules boxes q) (due_at rules old.dues q) → get_or rules q None ≡ Some r → r.mailbox ≡ m → is_asked q ≡ true → due_at rules new.dues q ≤ clock + 1 + r.stale
    due-own q r was is own asked = subst (λ d. d ≤ clock + 1 + r.stale) (sym at) (by (all_fresh clock before) refl) where
      at : due_at rules new.dues q ≡ slice_index (cond (all_fresh clock before) old.dues (set old.dues m (clock + 1 + before.hearers.soonest))) m
      at = due_by_rule rules new.dues q r is ∙ ap (slice_index new.dues) own ∙ ap (λ ds. slice_index ds m) dues

      few : before.hearers.soonest ≤ r.stale
      few = each_asked b routing boxes m routed within (λ (l : Listener). before.hearers.soonest ≤ l.stale) there.soonest q r is own asked

      by : (b : Bool) → all_fresh clock before ≡ b → slice_index (cond b old.dues (set old.dues m (clock + 1 + before.hearers.soonest))) m ≤ clock + 1 + r.stale
      by true fresh =
          let most : (held_for before r.stale).end ≤ clock + 1 + r.stale = end_most clock before.after r.stale (fits.early m) in
          let due : IsDue clock (held_for before r.stale) (slice_index old.dues m) =
          subst (λ x. IsDue clock x (slice_index old.dues m)) (held_here b routing boxes m routed within q r is own)
          (subst (IsDue clock (received_at rules boxes q)) (due_by_rule rules old.dues q r is ∙ ap (slice_index old.dues) own) was) in
          omega (arith, due (fresh_for clock r.stale before fresh few), most)
      by false ended = omega (arith, few, get_or-set_same old.dues m (clock + 1 + before.hearers.soonest) 0 (omega (arith, within, fits.dues)))

    -- what they held when the moment began
    start-held : (a : ℕ) (box : Mailbox) (stale : ℕ) → held_for (at_start a (delivered a bits box)) stale ≡ held_for (at_start a box) stale
    start-held a box stale = ap (λ x. held_for (cond x (record (delivered a bits box) { after = (at_start a box).after; bits = (at_start a box).bits }) (delivered a bits box)) stale) (eq-eqb (a + 1) (a + 1) refl)

    start-now : (i : ℕ) (stale : ℕ) → held_for (at_start clock (now i)) stale ≡ held_for (at_start clock (get_or boxes i unused)) stale
    start-now i stale = elim (cases_eq i m) [
      | inl e ↦ subst (λ j. held_for (at_start clock (now j)) stale ≡ held_for (at_start clock (get_or boxes j unused)) stale) (sym e)
          (ap (λ x. held_for (at_start clock x) stale) now-own ∙ start-held clock before stale)
      | inr ne ↦ ap (λ x. held_for (at_start clock x) stale) (now-other i ne)
    ]

    starts-same : (q : ℕ) → received_at rules (map (at_start clock) new.mailboxes.items.items) q ≡ received_at rules (map (at_start clock) boxes) q
    starts-same q = by (get_or rules q None) refl where
      by : (o : Option Rule) → get_or rules q None ≡ o → received_at rules (map (at_start clock) new.mailboxes.items.items) q ≡ received_at rules (map (at_start clock) boxes) q
      by None is = by_none rules (map (at_start clock) new.mailboxes.items.items) q is ∙ sym (by_none rules (map (at_start clock) boxes) q is)
      by (Some r) is =
          started_by_rule rules new.mailboxes.items.items clock q r is ∙ start-now r.mailbox r.stale ∙ sym (started_by_rule rules boxes clock q r is)

    pub delivered_renews : Renews is_asked params rules clock old new
    delivered_renews = record {
      marks = λ q off. (unmarked (q / 3) off).1;
      gives = λ q s source_is asked off. by_place b routing boxes m routed within
          (given clock (parameter_with params q).kind s (received_at rules new.mailboxes.items.items q) ≡ given clock (parameter_with params q).kind s (received_at rules boxes q)) q
          (λ is. ap (given clock (parameter_with params q).kind s) (held-none q is))
          (λ r is own. same_given q s r source_is is (rule_source params q r (get_or rules q None) (rule_at b routing boxes m routed within q) is) own asked off)
          (λ r is ne. ap (given clock (parameter_with params q).kind s) (held-other q r is ne));
      due = λ was q asked. by_place b routing boxes m routed within (IsDue clock (received_at rules new.mailboxes.items.items q) (due_at rules new.dues q)) q
          (λ is fresh. absurd (omega (arith, fresh, ap (λ (x : Received). x.end) (by_none rules new.mailboxes.items.items q is))))
          (λ r is own. subst (λ x. IsDue clock x (due_at rules new.dues q)) (sym (held-own q r is own)) (λ fresh. due-own q r (was q asked) is own asked))
          (λ r is ne. due-other q r (was q asked) is ne);
      before = starts-same;
    }

    pub delivered_came : CameTo rules clock m bits old new
    delivered_came = record { own = held-own; other = held-other; none = held-none; marks = delivered_others }

-- ---- the first mailbox, which is of no source

module _ (b : Book) (routing : Routing) (boxes : List Mailbox) (routed : AreRouted b routing boxes) where
  mailbox_some : (q : ℕ) (r : Rule) → get_or routing.rules.items.items q None ≡ Some r → 0 < r.mailbox
  mailbox_some q r is =
      let params = b.parameters in
      let rules = routing.rules.items.items in
      let n = 3 * length params in
      let rule = rule_source params q r (get_or rules q None) (rule-is params n rules routed.rules (omega arith) q) is in
      let s = rule.source in
      let within = place_within params q s rule.there in
      omega (arith, mailbox_by_rule rules q r is, routed.rules.mailbox q s within rule.there, number-own params s.bus s.label (slot_of s.sdi) n q within (passes-own params q s rule.there))

  pub came_none : (clock m bits : ℕ) (h : Held) → m ≡ 0 → CameTo routing.rules.items.items clock m bits h h
  came_none clock m bits h first = record {
    own = λ q r is own. absurd (omega (arith, first, own, mailbox_some q r is));
    other = λ q r is ne. refl;
    none = λ q is. refl;
    marks = λ p none. refl;
  }
