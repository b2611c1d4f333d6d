-- Which nodes count as updated while the temporal nodes of a condition are gone through, from the last to the first.
use Rattle.std.proofs.Common.{◌≡◌, ℕ, suc, ◌<◌, ◌≤◌, Bool, true, false, not, ◌||◌, leb, Option, refl, sym, ◌∙◌, ap}
use Rattle.std.specs.Option.{option_map_or}
use Rattle.std.specs.List.{slice_get}
use Rattle.std.proofs.lemmas.Bool.{le-leb, lt-leb}
use Rattle.std.proofs.Math.Bool.{or-true}
use Rattle.ecam_spec.specs.Book.{Tree}
use Rattle.ecam_spec.specs.Term.{World}
use Rattle.term_eval.specs.Asked.{heard}
use Rattle.term_eval.specs.Woken.{moved}
use Rattle.term_eval.specs.Memory.{NodeMemory}
use Rattle.term_eval.specs.Parts.{Part, parts, Heads, is_temporal}
use Rattle.term_eval.specs.NodeState.{own_says, NodesWait}
use Rattle.term_eval.proofs.Hearing.{AsBefore, wait-same, heard-is, atom-still, deaf}

-- node i heads a temporal part
abbrev pub temporal_at : Tree → ℕ → ℕ → Bool
temporal_at c at i = option_map_or (λ (x : Part). is_temporal x.tree) (slice_get (parts at 0 c) i) false

-- every node has been updated but the temporal ones before a place
abbrev pub gone : Tree → ℕ → ℕ → ℕ → Bool
gone c at m i = not (temporal_at c at i) || leb m i

gone-at : (c : Tree) (at m i : ℕ) (x : Part) → Heads c at i x → gone c at m i ≡ (not (is_temporal x.tree) || leb m i)
gone-at c at m i x heads = ap (λ (o : Option Part). not (option_map_or (λ (x : Part). is_temporal x.tree) o false) || leb m i) heads

pub gone-untimed : (c : Tree) (at m i : ℕ) (x : Part) → Heads c at i x → is_temporal x.tree ≡ false → gone c at m i ≡ true
gone-untimed c at m i x heads temporal = gone-at c at m i x heads ∙ ap (λ b. not b || leb m i) temporal

gone-temporal : (c : Tree) (at m i : ℕ) (x : Part) → Heads c at i x → is_temporal x.tree ≡ true → gone c at m i ≡ leb m i
gone-temporal c at m i x heads temporal = gone-at c at m i x heads ∙ ap (λ b. not b || leb m i) temporal

pub gone-through : (c : Tree) (at m i : ℕ) → m ≤ i → gone c at m i ≡ true
gone-through c at m i reached = ap (λ b. not (temporal_at c at i) || b) (le-leb m i reached) ∙ or-true (not (temporal_at c at i))

pub gone-ahead : (c : Tree) (at m i : ℕ) (x : Part) → Heads c at i x → is_temporal x.tree ≡ true → i < m → gone c at m i ≡ false
gone-ahead c at m i x heads temporal ahead = gone-temporal c at m i x heads temporal ∙ lt-leb m i ahead

-- ---- at the start none was gone through

module _ (w : World) (h : ℕ) (c : Tree) (at first : ℕ) where
  -- an atom counts as updated where it doesn't hear of what moves
  heard-same : (m i : ℕ) (x : Part) → Heads c at i x → i < m → AsBefore w h (heard (moved w (suc h)) c) (gone c at m) i x
  heard-same m i x heads ahead gate = by (is_temporal x.tree) (heard (moved w (suc h)) c i) refl refl where
    by : (b updated : Bool) → is_temporal x.tree ≡ b → heard (moved w (suc h)) c i ≡ updated →
        own_says w h (gone c at m i) x.tree ≡ own_says w h (heard (moved w (suc h)) c i) x.tree
    by true updated temporal is =
        ap (λ b. own_says w h b x.tree)
        (gone-ahead c at m i x heads temporal ahead ∙ sym (heard-is (moved w (suc h)) c at i x heads ∙ deaf (moved w (suc h)) x.at x.tree temporal))
    by false true temporal is = ap (λ b. own_says w h b x.tree) (gone-untimed c at m i x heads temporal ∙ sym is)
    by false false temporal is =
        ap (λ b. own_says w h b x.tree) (gone-untimed c at m i x heads temporal)
        ∙ atom-still w h x.at x.tree gate temporal (sym (heard-is (moved w (suc h)) c at i x heads) ∙ is)
        ∙ sym (ap (λ b. own_says w h b x.tree) is)

  pub start-waits : (m : ℕ) (n : NodeMemory) → ((i : ℕ) (x : Part) → Heads c at i x → i < m) → NodesWait w h (heard (moved w (suc h)) c) c at first n →
      NodesWait w h (gone c at m) c at first n
  start-waits m n ends waits =
      wait-same w h (heard (moved w (suc h)) c) (gone c at m) c at first n
      (λ i x heads. heard-same m i x heads (ends i x heads))
      (λ i x heads temporal.
      gone-ahead c at m i x heads temporal (ends i x heads)
      ∙ sym (heard-is (moved w (suc h)) c at i x heads ∙ deaf (moved w (suc h)) x.at x.tree temporal))
      waits
