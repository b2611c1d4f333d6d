-- The nodes of a list are those that ask for an operand.
use Rattle.std.proofs.Common.{◌≡◌, ℕ, suc, Bool, true, false, ◌&&◌, eqb, List, [], ◌∷◌, Option, slice_get, None, Some, refl, sym, ap, subst, ◌∙◌, inl, inr}
use Rattle.std.specs.List.{list_any}
use Rattle.std.specs.Option.{option_map_or}
use Rattle.std.proofs.lemmas.Bool.{eqb-true, eq-eqb}
use Rattle.std.proofs.lemmas.Map.Keys.{any_passes_from_place}
use Rattle.ecam_spec.specs.Book.{Book}
use Rattle.ecam_spec.specs.TermSize.{Placed}
use Rattle.book_model.specs.Conditions.{places}
use Rattle.term_eval.specs.Asked.{Asks, asked, heard}
use Rattle.term_eval.specs.Woken.{Operand, operands}
use Rattle.watch_lists.specs.Naming.{operand_number}
use Rattle.condition_codes.specs.IsAskers.{IsAsking, IsAmong}
use Rattle.condition_codes.specs.declared.askers.Asker.{Asker}
use Rattle.fwc_lane.specs.Waking.{sizes_in, is_listed, is_asking}
use Rattle.fwc_lane.proofs.Askers.{named-asked, asks-named, one-of}
use Rattle.fwc_lane.proofs.FlagSteps.{left-true}
use Rattle.fwc_lane.proofs.Hears.{heard-asks, asks-heard}

pub right-true : (a b : Bool) → (a && b) ≡ true → b ≡ true
right-true true b is = is
right-true false b is = absurd (let w : ⊥ = (let clash : false ≡ true = is in cc) in w)

both-ways : (a b : Bool) → (a ≡ true → b ≡ true) → (b ≡ true → a ≡ true) → a ≡ b
both-ways true b there back = sym (there refl)
both-ways false true there back = back refl
both-ways false false there back = refl

-- one that passes a test stands somewhere in a list of which some do
any-at : {X : Type 0} (f : X → Bool) (xs : List X) → list_any f xs ≡ true → (k : ℕ) × (x : X) × (slice_get xs k ≡ Some x) × (f x ≡ true)
any-at f [] is = absurd (let w : ⊥ = (let clash : false ≡ true = is in cc) in w)
any-at f (x ∷ xs) is = elim (one-of (f x) (list_any f xs) is) [
  | inl own ↦ (0, x, refl, own)
  | inr later ↦ let found = any-at f xs later in (suc found.0, found.1, found.2, found.3)
]

-- so does one that is listed
pub listed-at : (asking : List Asker) (j i : ℕ) → is_listed asking j i ≡ true → IsAmong asking j i
listed-at asking j i is =
    let found = any-at (λ (a : Asker). eqb a.term j && eqb a.node i) asking is in
    let a = found.1 in
    (found.0, a, found.2, eqb-true a.term j (left-true (eqb a.term j) (eqb a.node i) found.3), eqb-true a.node i (right-true (eqb a.term j) (eqb a.node i) found.3))

pub among-listed : (asking : List Asker) (j i : ℕ) → IsAmong asking j i → is_listed asking j i ≡ true
among-listed asking j i at =
    any_passes_from_place (λ (a : Asker). eqb a.term j && eqb a.node i) asking at.0 at.1 at.2
    (ap (λ x. x && eqb at.1.node i) (eq-eqb at.1.term j at.3) ∙ eq-eqb at.1.node i at.4)

-- a condition has these of its nodes in the list which hear of the operand
pub heard-listed : (b : Book) (operand : ℕ) (asking : List Asker) (other : Bool) → other ≡ true
    → ((j i : ℕ) (p : Placed) (x : Operand) → slice_get (places b) j ≡ Some p → Asks p.tree i x → operand_number (sizes_in b) x ≡ operand → IsAmong asking j i)
    → ((k : ℕ) (a : Asker) → slice_get asking k ≡ Some a → IsAsking b operand a)
    → (j : ℕ) (p : Placed) → slice_get (places b) j ≡ Some p → (i : ℕ)
    → heard (λ x. other && eqb (operand_number (sizes_in b) x) operand) p.tree i ≡ is_listed asking j i
heard-listed b operand asking other on each only j p is i = both-ways _ _ there back where
  f : Operand → Bool
  f x = other && eqb (operand_number (sizes_in b) x) operand

  there : heard f p.tree i ≡ true → is_listed asking j i ≡ true
  there hears =
      let own = heard-asks f p.tree i hears in
      among-listed asking j i (each j i p own.0 is own.1 (eqb-true (operand_number (sizes_in b) own.0) operand (right-true other _ own.2)))

  back : is_listed asking j i ≡ true → heard f p.tree i ≡ true
  back listed =
      let found = listed-at asking j i listed in
      let own = only found.0 found.1 found.2 in
      let place : Some own.place ≡ Some p = sym own.there ∙ ap (slice_get (places b)) found.3 ∙ is in
      let same : own.place ≡ p = cc in
      let asks : Asks p.tree i own.operand = subst (λ n. Asks p.tree n own.operand) found.4 (subst (λ (q : Placed). Asks q.tree found.1.node own.operand) same own.asks) in
      asks-heard f p.tree i own.operand asks
      ∙ ap (λ c. c && eqb (operand_number (sizes_in b) own.operand) operand) on ∙ eq-eqb (operand_number (sizes_in b) own.operand) operand own.number

-- a condition has a node in the list where it names the operand
pub asking-named : (b : Book) (operand : ℕ) (asking : List Asker) (other : Bool) → other ≡ true
    → ((j i : ℕ) (p : Placed) (x : Operand) → slice_get (places b) j ≡ Some p → Asks p.tree i x → operand_number (sizes_in b) x ≡ operand → IsAmong asking j i)
    → ((k : ℕ) (a : Asker) → slice_get asking k ≡ Some a → IsAsking b operand a)
    → (j : ℕ) (p : Placed) → slice_get (places b) j ≡ Some p
    → is_asking asking j ≡ list_any (λ x. other && eqb (operand_number (sizes_in b) x) operand) (operands p.tree)
asking-named b operand asking other on each only j p is = both-ways _ _ there back where
  f : Operand → Bool
  f x = other && eqb (operand_number (sizes_in b) x) operand

  there : is_asking asking j ≡ true → list_any f (operands p.tree) ≡ true
  there has =
      let found = any-at (λ (a : Asker). eqb a.term j) asking has in
      let own = only found.0 found.1 found.2 in
      let place : Some own.place ≡ Some p = sym own.there ∙ ap (slice_get (places b)) (eqb-true found.1.term j found.3) ∙ is in
      let same : own.place ≡ p = cc in
      asks-named f p.tree found.1.node own.operand (subst (λ (q : Placed). Asks q.tree found.1.node own.operand) same own.asks)
      (ap (λ c. c && eqb (operand_number (sizes_in b) own.operand) operand) on ∙ eq-eqb (operand_number (sizes_in b) own.operand) operand own.number)

  by-asked : (i : ℕ) (o : Option Operand) → slice_get (asked p.tree) i ≡ Some o → option_map_or f o false ≡ true → is_asking asking j ≡ true
  by-asked i None at passes = absurd (let w : ⊥ = (let clash : false ≡ true = passes in cc) in w)
  by-asked i (Some x) at passes =
      let among = each j i p x is at (eqb-true (operand_number (sizes_in b) x) operand (right-true other _ passes)) in
      any_passes_from_place (λ (a : Asker). eqb a.term j) asking among.0 among.1 among.2 (eq-eqb among.1.term j among.3)

  back : list_any f (operands p.tree) ≡ true → is_asking asking j ≡ true
  back names =
      let found = any-at (λ o. option_map_or f o false) (asked p.tree) (named-asked f p.tree ∙ names) in
      by-asked found.0 found.1 found.2 found.3
