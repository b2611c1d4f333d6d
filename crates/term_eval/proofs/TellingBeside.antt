-- A climb that stops in one of some conditions, or comes to its node, does so in all of them.
use Rattle.std.proofs.Common.{◌≡◌, ◌≢◌, ℕ, ◌+◌, ◌<◌, ◌≤◌, Bool, List, length, refl, sym, ◌∙◌, ap, arith}
use Rattle.std.proofs.lemmas.List.{get_or-set_same, get_or-set_other}
use Rattle.ecam_spec.specs.Book.{Tree, Trees, more}
use Rattle.ecam_spec.specs.Term.{World}
use Rattle.ecam_spec.specs.TermSize.{nodes, slots, slots_of}
use Rattle.term_eval.specs.declared.nodes.NodeState.{NodeState}
use Rattle.term_eval.specs.declared.link.Link.{Link}
use Rattle.term_eval.specs.Memory.{NodeMemory}
use Rattle.term_eval.specs.Climb.{Climbed, told_as}
use Rattle.term_eval.specs.Parts.{Part, parts, parts_of}
use Rattle.term_eval.specs.NodeState.{state_at, unasked, one_if, says, said, SayTheSame, also}
use Rattle.term_eval.proofs.Inside.{nodes-is}
use Rattle.term_eval.proofs.PartLaws.{parts-count, says-by, said-by}
use Rattle.term_eval.proofs.KeptSame.{also-other, same-by, Each, each-left, each-right, each-both, each-own}
use Rattle.term_eval.proofs.ClimbSteps.{told_in}
use Rattle.term_eval.proofs.TellingParts.{behind, ahead, wider, leaves-set, settled}
use Rattle.term_eval.proofs.TellingParts as tell

module _ (w : World) (h : ℕ) (updated : ℕ → Bool) (links : List Link) (first i end : ℕ) (n : NodeMemory) (start : Climbed) where
  abbrev Given : ℕ → Part → Type 0
  Given = tell.Given w h updated links first i end n start

  abbrev Kept : NodeMemory → ℕ → Part → Type 0
  Kept = tell.Kept w h updated links first i end n start

  abbrev now : List NodeState → NodeMemory
  now = tell.now w h updated links first i end n start

  abbrev Leaves : ℕ → ℕ → ℕ → NodeMemory → Type 0
  Leaves = tell.Leaves w h updated links first i end n start

  abbrev Stops : Tree → ℕ → ℕ → ℕ → Type 0
  Stops = tell.Stops w h updated links first i end n start

  abbrev Comes : Tree → ℕ → ℕ → ℕ → Type 0
  Comes = tell.Comes w h updated links first i end n start

  abbrev StopsIn : Trees → ℕ → ℕ → ℕ → Type 0
  StopsIn = tell.StopsIn w h updated links first i end n start

  abbrev ComesIn : Trees → ℕ → ℕ → ℕ → Type 0
  ComesIn = tell.ComesIn w h updated links first i end n start

  pub first-stops : (c : Tree) (cs : Trees) (at up q : ℕ) → i < q + nodes c → Each Given q (parts_of at up (more c cs)) → Stops c at up q → StopsIn (more c cs) at up q
  unfolding parts said nodes slots SayTheSame
  first-stops c cs at up q before given stops =
      let rest = each-right Given q (nodes c) (parts at up c) (parts_of (at + slots c) (up + nodes c) cs) (parts-count at up c) given in
      let apart : (k : ℕ) → q + nodes c ≤ k → k ≢ i = λ k low e. (let f : ⊥ = omega arith in f) in
      let other : said w h (also i updated) cs (q + nodes c) ≡ said w h updated cs (q + nodes c)
      = said-by w h updated (also i updated) cs (q + nodes c) (λ k low high. also-other i updated k (apart k low)) in
      let leaves = stops.leaves in
      record {
        memory = stops.memory;
        stirs = stops.stirs;
        is = stops.is;
        kept = each-both (Kept stops.memory) q (nodes c) (parts at up c) (parts_of (at + slots c) (up + nodes c) cs) (parts-count at up c) stops.kept
            (behind w h updated links first i end n start cs (at + slots c) (up + nodes c) (q + nodes c) q at (at + slots c) stops.memory before rest leaves (omega arith));
        same = ap (λ b. one_if b + said w h (also i updated) cs (q + nodes c)) stops.same ∙ ap (λ m. one_if (says w h updated c q) + m) other;
        all_same = λ all. (stops.same ∙ all.0, same-by w h updated (also i updated) cs (q + nodes c) (λ k low high. also-other i updated k (apart k low)) all.1);
        leaves = wider w h updated links first i end n start q at (at + (slots c + slots_of cs)) q at (at + slots c) stops.memory (omega arith) (omega arith) (omega arith) leaves;
      }

  pub rest-stops : (c : Tree) (cs : Trees) (at up q : ℕ) → q + nodes c ≤ i → Each Given q (parts_of at up (more c cs)) →
      StopsIn cs (at + slots c) (up + nodes c) (q + nodes c) → StopsIn (more c cs) at up q
  unfolding parts said nodes slots SayTheSame
  rest-stops c cs at up q before given stops =
      let one = each-left Given q (parts at up c) (parts_of (at + slots c) (up + nodes c) cs) given in
      let apart : (k : ℕ) → k < q + nodes c → k ≢ i = λ k high e. (let f : ⊥ = omega arith in f) in
      let other : says w h (also i updated) c q ≡ says w h updated c q = says-by w h updated (also i updated) c q (λ k low high. also-other i updated k (apart k high)) in
      let leaves = stops.leaves in
      record {
        memory = stops.memory;
        stirs = stops.stirs;
        is = stops.is;
        kept = each-both (Kept stops.memory) q (nodes c) (parts at up c) (parts_of (at + slots c) (up + nodes c) cs) (parts-count at up c)
            (ahead w h updated links first i end n start c at up q (at + slots c + slots_of cs) stops.memory before one leaves) stops.kept;
        same = ap (λ b. one_if b + said w h (also i updated) cs (q + nodes c)) other ∙ ap (λ m. one_if (says w h updated c q) + m) stops.same;
        all_same = λ all. (other ∙ all.0, stops.all_same all.1);
        leaves = wider w h updated links first i end n start q at (at + (slots c + slots_of cs)) (q + nodes c) (at + slots c) (at + slots c + slots_of cs) stops.memory (omega arith) (omega arith)
            (omega arith) leaves;
      }

  pub first-comes : (c : Tree) (cs : Trees) (at up q : ℕ) → q ≤ i → i < q + nodes c → Each Given q (parts_of at up (more c cs)) → Comes c at up q →
      ComesIn (more c cs) at up q
  unfolding parts said nodes slots SayTheSame
  first-comes c cs at up q low before given comes =
      let own = each-own Given q at up c (each-left Given q (parts at up c) (parts_of (at + slots c) (up + nodes c) cs) given) in
      let rest = each-right Given q (nodes c) (parts at up c) (parts_of (at + slots c) (up + nodes c) cs) (parts-count at up c) given in
      let size = nodes-is c in
      let apart : (k : ℕ) → q + nodes c ≤ k → k ≢ i = λ k low e. (let f : ⊥ = omega arith in f) in
      let other : said w h (also i updated) cs (q + nodes c) ≡ said w h updated cs (q + nodes c)
      = said-by w h updated (also i updated) cs (q + nodes c) (λ k low high. also-other i updated k (apart k low)) in
      let now_says = says w h (also i updated) c q in
      let leaves = comes.leaves in
      let long = leaves.nodes in
      let room : first + q < length comes.states = omega (arith, own.room) in
      let told : state_at (told_in first q now_says comes.states) (first + q) ≡ told_as now_says (state_at comes.states (first + q))
      = get_or-set_same comes.states (first + q) (told_as now_says (state_at comes.states (first + q))) unasked room in
      let both = λ (states : List NodeState) (first_kept : Each (Kept (now states)) q (parts at up c)) (l : Leaves q at (at + slots c) (now states)).
      each-both (Kept (now states)) q (nodes c) (parts at up c) (parts_of (at + slots c) (up + nodes c) cs) (parts-count at up c) first_kept
      (behind w h updated links first i end n start cs (at + slots c) (up + nodes c) (q + nodes c) q at (at + slots c) (now states) before rest l (omega arith)) in
      record {
        node = q;
        far = up;
        before = says w h updated c q;
        says_now = now_says;
        states = comes.states;
        fuel = comes.fuel;
        is = comes.is;
        enough = comes.enough;
        low = omega arith;
        high = low;
        far_is = omega arith;
        link = own.link;
        told = comes.told;
        counts = (let e : one_if now_says + said w h (also i updated) cs (q + nodes c) + one_if (says w h updated c q)
            ≡ one_if (says w h updated c q) + said w h updated cs (q + nodes c) + one_if now_says = omega (arith, other) in e);
        all_same = λ same all. (sym same ∙ all.0, same-by w h updated (also i updated) cs (q + nodes c) (λ k low high. also-other i updated k (apart k low)) all.1);
        kept = λ same. both comes.states (settled w h updated links first i end n start c at up q comes comes.states (comes.told ∙ same) refl (λ s apart. refl)) leaves;
        turned = both (told_in first q now_says comes.states)
            (settled w h updated links first i end n start c at up q comes (told_in first q now_says comes.states) (ap (λ s. s.told) told) (ap (λ s. s.count) told)
            (λ s apart. get_or-set_other comes.states (first + q) s (told_as now_says (state_at comes.states (first + q))) unasked apart))
            (leaves-set w h updated links first i end n start q at (at + slots c) q comes.states (told_as now_says (state_at comes.states (first + q))) (omega arith) low leaves);
        leaves = wider w h updated links first i end n start q at (at + (slots c + slots_of cs)) q at (at + slots c) (now comes.states) (omega arith) (omega arith) (omega arith) leaves;
      }

  pub rest-comes : (c : Tree) (cs : Trees) (at up q : ℕ) → q + nodes c ≤ i → Each Given q (parts_of at up (more c cs)) →
      ComesIn cs (at + slots c) (up + nodes c) (q + nodes c) → ComesIn (more c cs) at up q
  unfolding parts said nodes slots SayTheSame
  rest-comes c cs at up q before given comes =
      let one = each-left Given q (parts at up c) (parts_of (at + slots c) (up + nodes c) cs) given in
      let apart : (k : ℕ) → k < q + nodes c → k ≢ i = λ k high e. (let f : ⊥ = omega arith in f) in
      let other : says w h (also i updated) c q ≡ says w h updated c q = says-by w h updated (also i updated) c q (λ k low high. also-other i updated k (apart k high)) in
      let leaves = comes.leaves in
      let turned = told_in first comes.node comes.says_now comes.states in
      record {
        node = comes.node;
        far = comes.far;
        before = comes.before;
        says_now = comes.says_now;
        states = comes.states;
        fuel = comes.fuel;
        is = comes.is;
        enough = comes.enough;
        low = omega (arith, comes.low);
        high = comes.high;
        far_is = (let e = comes.far_is in omega arith);
        link = comes.link;
        told = comes.told;
        counts = (let e : one_if (says w h (also i updated) c q) ≡ one_if (says w h updated c q) = ap one_if other in
            let counts = comes.counts in omega arith);
        all_same = λ same all. (other ∙ all.0, comes.all_same same all.1);
        kept = λ same. each-both (Kept (now comes.states)) q (nodes c) (parts at up c) (parts_of (at + slots c) (up + nodes c) cs) (parts-count at up c)
            (ahead w h updated links first i end n start c at up q (at + slots c + slots_of cs) (now comes.states) before one leaves) (comes.kept same);
        turned = each-both (Kept (now turned)) q (nodes c) (parts at up c) (parts_of (at + slots c) (up + nodes c) cs) (parts-count at up c)
            (ahead w h updated links first i end n start c at up q (at + slots c + slots_of cs) (now turned) before one
            (leaves-set w h updated links first i end n start (q + nodes c) (at + slots c) (at + slots c + slots_of cs) comes.node comes.states
            (told_as comes.says_now (state_at comes.states (first + comes.node))) comes.low comes.high leaves)) comes.turned;
        leaves = wider w h updated links first i end n start q at (at + (slots c + slots_of cs)) (q + nodes c) (at + slots c) (at + slots c + slots_of cs) (now comes.states) (omega arith) (omega arith)
            (omega arith) leaves;
      }
