-- An index that is being made: one more place is entered.
use Rattle.std.proofs.Common.{◌≡◌, ℕ, zero, suc, ◌+◌, ◌*◌, ◌%◌, ◌<◌, true, false, ◌==◌, ◌&&◌, List, [], ◌∷◌, ◌++◌, length, get_or, set, replicate, Option, Some, None, cond, refl, sym, ap, ◌∙◌, arith, inl, inr, add-one}
use Rattle.std.specs.Option.{option_map_or}
use Rattle.std.proofs.lemmas.Bool.{cases_Bool, cases_lt, and_parts, eqb-true}
use Rattle.std.proofs.lemmas.Bool.Decides.{nat_tests}
use Rattle.std.proofs.lemmas.List.{get_or_append_left, get_or_push, get_or-set_same, get_or-set_other, length-set, length_push, length-replicate}
use Rattle.std.proofs.lemmas.Option.{same_Some}
use Rattle.ecam_spec.specs.Book.{Source, Parameter}
use Rattle.book_model.specs.SourcePlaces.{source_at, listens, last_below}
use Rattle.ecam_spec.specs.Word.{label}
use Rattle.book_model.specs.Listening.{key_of, turned, IsIndex}
use Rattle.book_model.specs.declared.index.Index.{Index}
use Rattle.book_model.proofs.LastBelow.{last_below-suc, last_below-zero}
use Rattle.book_model.proofs.Labels.{label-low, label-turned, turned-label, turned-small}
use Rattle.book_model.proofs.SourcePlaces.{place_within}

-- the places below n are entered
pub record IsEntered (params : List Parameter) (n : ℕ) (last before : List (Option ℕ)) : Type 0 where
  pub keys : length last ≡ 4096
  pub places : length before ≡ n
  pub heads : (bus eight : ℕ) → eight < 256 → get_or last (key_of bus eight) None ≡ last_below (listens params bus (label eight)) n
  pub links : (q : ℕ) (s : Source) → q < n → source_at params q ≡ Some s → get_or before q None ≡ last_below (listens params s.bus s.label) q

-- nothing stands anywhere
pub none_replicate : {X : Type 0} (n i : ℕ) → get_or {A = Option X} (replicate n None) i None ≡ None
none_replicate zero i = refl
none_replicate (suc n) zero = refl
none_replicate (suc n) (suc i) = none_replicate n i

pub entered_none : (params : List Parameter) (last : List (Option ℕ)) (keys : ℕ) → keys ≡ 4096 → last ≡ replicate keys None → IsEntered params 0 last []
entered_none params last keys all blank = record {
  keys = ap length blank ∙ length-replicate keys None ∙ all;
  places = refl;
  heads = λ bus eight small. ap (λ l. get_or l (key_of bus eight) None) blank ∙ none_replicate keys (key_of bus eight) ∙ sym (last_below-zero (listens params bus (label eight)));
  links = λ q s less there. absurd (omega arith);
}

other_key : (bus eight b l : ℕ) → eight < 256 → l < 256 → (bus == b && label eight == l) ≡ false → key_of bus eight ≡ key_of b (turned l) → ⊥
other_key bus eight b l small few apart same =
    let less = turned-small l in
    let one : bus ≡ b = omega arith in
    let two : eight ≡ turned l = omega arith in
    let three : label eight ≡ l = ap label two ∙ label-turned l few in
    grind (arith, nat_tests)

module _ (params : List Parameter) (n : ℕ) (last before : List (Option ℕ)) (entered : IsEntered params n last before) where
  -- the places before keep their links
  links_kept : (x : Option ℕ) (q : ℕ) (s : Source) → q < n → source_at params q ≡ Some s → get_or (before ++ x ∷ []) q None ≡ last_below (listens params s.bus s.label) q
  links_kept x q s less there =
      let within : q < length before = omega (arith, entered.places) in
      get_or_append_left before (x ∷ []) None q within ∙ entered.links q s less there

  pub enter_none : source_at params n ≡ None → IsEntered params (n + 1) last (before ++ None ∷ [])
  enter_none nothing = record {
    keys = entered.keys;
    places = length_push before None ∙ ap (λ k. k + 1) entered.places;
    heads = λ bus eight small.
        entered.heads bus eight small
        ∙ sym (ap (last_below (listens params bus (label eight))) (add-one n) ∙ last_below-suc (listens params bus (label eight)) n
        ∙ ap (λ o. cond (option_map_or (λ (s : Source). bus == s.bus && label eight == s.label) o false) (Some n) (last_below (listens params bus (label eight)) n)) nothing);
    links = λ q s less there. elim (cases_lt q n) [
      | inl below ↦ links_kept None q s below there
      | inr same ↦ absurd (let at : q ≡ n = omega arith in cc)
    ];
  }

  pub enter_some : (s : Source) → source_at params n ≡ Some s → s.bus < 16 → s.label < 256
      → IsEntered params (n + 1) (set last (key_of s.bus (turned s.label)) (Some n)) (before ++ get_or last (key_of s.bus (turned s.label)) None ∷ [])
  enter_some s there bus_small label_small = record {
    keys = length-set last (key_of s.bus (turned s.label)) (Some n) ∙ entered.keys;
    places = length_push before (get_or last (key_of s.bus (turned s.label)) None) ∙ ap (λ k. k + 1) entered.places;
    heads = λ bus eight small.
        let test = bus == s.bus && label eight == s.label in
        let step : last_below (listens params bus (label eight)) (n + 1) ≡ cond test (Some n) (last_below (listens params bus (label eight)) n) =
        ap (last_below (listens params bus (label eight))) (add-one n) ∙ last_below-suc (listens params bus (label eight)) n
        ∙ ap (λ o. cond (option_map_or (λ (s : Source). bus == s.bus && label eight == s.label) o false) (Some n) (last_below (listens params bus (label eight)) n)) there in
        elim (cases_Bool test) [
          | inl so ↦
              let parts : (bus == s.bus ≡ true) × (label eight == s.label ≡ true) = and_parts (bus == s.bus) (label eight == s.label) so in
              let same : key_of bus eight ≡ key_of s.bus (turned s.label) =
              ap (λ b. key_of b eight) (eqb-true bus s.bus parts.0) ∙ ap (key_of s.bus) (sym (turned-label eight small) ∙ ap turned (eqb-true (label eight) s.label parts.1)) in
              ap (λ k. get_or (set last (key_of s.bus (turned s.label)) (Some n)) k None) same
              ∙ get_or-set_same last (key_of s.bus (turned s.label)) (Some n) None (omega (arith, entered.keys, turned-small s.label))
              ∙ sym (step ∙ ap (λ b. cond b (Some n) (last_below (listens params bus (label eight)) n)) so)
          | inr not_so ↦
              get_or-set_other last (key_of s.bus (turned s.label)) (key_of bus eight) (Some n) None (other_key bus eight s.bus s.label small label_small not_so)
              ∙ entered.heads bus eight small
              ∙ sym (step ∙ ap (λ b. cond b (Some n) (last_below (listens params bus (label eight)) n)) not_so)
        ];
    links = λ q t less is_there. elim (cases_lt q n) [
      | inl below ↦ links_kept (get_or last (key_of s.bus (turned s.label)) None) q t below is_there
      | inr same ↦
          let at : q ≡ n = omega arith in
          let alike : s ≡ t = same_Some s t (sym there ∙ ap (source_at params) (sym at) ∙ is_there) in
          get_or_push before (get_or last (key_of s.bus (turned s.label)) None) None q (entered.places ∙ sym at)
          ∙ entered.heads s.bus (turned s.label) (turned-small s.label)
          ∙ ap (λ l. last_below (listens params s.bus l) n) (label-turned s.label label_small)
          ∙ ap (λ (u : Source). last_below (listens params u.bus u.label) n) alike
          ∙ ap (last_below (listens params t.bus t.label)) (sym at)
    ];
  }

-- all places are entered
pub entered_all : (params : List Parameter) (n : ℕ) (x : Index) (last before : List (Option ℕ)) → x.last.items.items ≡ last → x.before.items.items ≡ before → n ≡ 3 * length params
    → IsEntered params n last before → IsIndex params x
entered_all params n x last before is_last is_before all entered = record {
  last = λ bus word.
      ap (λ l. get_or l (key_of bus (word % 256)) None) is_last ∙ entered.heads bus (word % 256) (omega arith)
      ∙ ap (λ l. last_below (listens params bus l) n) (label-low word) ∙ ap (last_below (listens params bus (label word))) all;
  count = ap length is_before ∙ entered.places ∙ all;
  before = λ q s there.
      let within : q < n = omega (arith, place_within params q s there, all) in
      ap (λ l. get_or l q None) is_before ∙ entered.links q s within there;
}
