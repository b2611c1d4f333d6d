-- The cancelled cautions, one alert more.
use Rattle.std.proofs.Common.{◌≡◌, ℕ, ◌+◌, ◌<◌, Bool, true, false, ◌||◌, List, [], ◌∷◌, ◌++◌, map, length, take, get_or, cond, ltb, refl, sym, ◌∙◌, ap, subst, arith}
use Rattle.std.specs.Prelude.{codes, filter}
use Rattle.std.proofs.lemmas.List.{append-nil, map-append, length-map}
use Rattle.std.proofs.lemmas.Bool.{lt-ltb}
use Rattle.ecam_spec.specs.declared.kinds.Colour.TheVariants.{White, Amber}
use Rattle.ecam_spec.specs.Book.{Text, Alert, Book}
use Rattle.ecam_spec.specs.Situation.{alert_at}
use Rattle.ecam_spec.specs.Picture.{Row, row}
use Rattle.ecam_spec.specs.StatusPage.{cancelled_rows}
use Rattle.zone_rows.specs.Tracked.{TrackedRows}
use Rattle.status_page.specs.declared.place.Place.{Place}
use Rattle.status_page.specs.Behind.{AppendsBehind}
use Rattle.status_page.proofs.Behind.{behind-both}
use Rattle.status_page.proofs.AtPlaces.{passing-more}

-- there is one
abbrev pub is_some : List Alert → Bool
is_some [] = false
is_some (a ∷ rest) = true

abbrev pub heading : Row
heading = row White (codes "CANCELLED CAUTION")

-- what an alert adds: nothing, its title, or the heading and its title
abbrev pub title_rows : Bool → Bool → Alert → List Row
title_rows listed titled a = cond listed (cond titled (row Amber a.title ∷ []) (heading ∷ row Amber a.title ∷ [])) []

pub some-more : (alerts : List Alert) (a : Alert) (p : Bool) → is_some (alerts ++ cond p (a ∷ []) []) ≡ (is_some alerts || p)
some-more [] a true = refl
some-more [] a false = refl
some-more (x ∷ xs) a p = refl

pub cancelled-more : (alerts : List Alert) (a : Alert) (p : Bool) → cancelled_rows (alerts ++ cond p (a ∷ []) []) ≡ cancelled_rows alerts ++ title_rows p (is_some alerts) a
unfolding cancelled_rows
cancelled-more [] a true = refl
cancelled-more [] a false = refl
cancelled-more (x ∷ xs) a true = ap (λ rs. heading ∷ row Amber x.title ∷ rs) (map-append (λ (y : Alert). row Amber y.title) xs (a ∷ []))
cancelled-more (x ∷ xs) a false = ap cancelled_rows (append-nil (x ∷ xs)) ∙ sym (append-nil (cancelled_rows (x ∷ xs)))

-- how many rows they have
pub cancelled-length : (alerts : List Alert) → length (cancelled_rows alerts) ≡ cond (ltb 0 (length alerts)) (length alerts + 1) 0
unfolding cancelled_rows
cancelled-length [] = refl
cancelled-length (x ∷ xs) =
    let some = lt-ltb 0 (length (x ∷ xs)) (omega arith) in
    rw some (omega (arith, length-map (x ∷ xs) (λ (y : Alert). row Amber y.title)))

-- the heading, if it hasn't come, and a title
pub titled-rows : (titled : Bool) (title : Row) → cond titled [] (heading ∷ []) ++ title ∷ [] ≡ cond titled (title ∷ []) (heading ∷ title ∷ [])
titled-rows true title = refl
titled-rows false title = refl

pub no-cancelled : cancelled_rows [] ≡ []
unfolding cancelled_rows
no-cancelled = refl

-- one alert more, as the loop over places meets it
module _ (b : Book) (places : List ℕ) (i : ℕ) (within : i < length places) (cancelled : ℕ → Bool) (listed titled : Bool) where
  abbrev these : List Alert
  these = map (alert_at b) (filter cancelled (take i places))

  abbrev one : Alert
  one = alert_at b (get_or places i 0)

  pub cancelled-on : (title : Text) → listed ≡ cancelled (get_or places i 0) → titled ≡ is_some (map (alert_at b) (filter cancelled (take i places)))
      → (alert_at b (get_or places i 0)).title ≡ title → (p q r : Place) (x y z : TrackedRows)
      → AppendsBehind (cancelled_rows (map (alert_at b) (filter cancelled (take i places)))) p q x y
      → AppendsBehind (cond listed (cond titled (row Amber title ∷ []) (heading ∷ row Amber title ∷ [])) []) q r y z
      → AppendsBehind (cancelled_rows (map (alert_at b) (filter cancelled (take (i + 1) places)))) p r x z
  cancelled-on title told some same p q r x y z before next =
      let rows : title_rows listed titled one ≡ title_rows (cancelled (get_or places i 0)) (is_some these) one
      = ap (λ l. title_rows l titled one) told ∙ ap (λ t. title_rows (cancelled (get_or places i 0)) t one) some in
      let all : cancelled_rows these ++ title_rows listed titled one ≡ cancelled_rows (map (alert_at b) (filter cancelled (take (i + 1) places)))
      = ap (λ rs. cancelled_rows these ++ rs) rows ∙ sym (cancelled-more these one (cancelled (get_or places i 0))) ∙ ap cancelled_rows (sym (passing-more b places i within cancelled)) in
      let put : AppendsBehind (title_rows listed titled one) q r y z = subst (λ t. AppendsBehind (cond listed (cond titled (row Amber t ∷ []) (heading ∷ row Amber t ∷ [])) []) q r y z) (sym same) next in
      subst (λ rs. AppendsBehind rs p r x z) all (behind-both (cancelled_rows these) (title_rows listed titled one) p q r x y z before put)

  pub some-on : (either : Bool) → listed ≡ cancelled (get_or places i 0) → titled ≡ is_some (map (alert_at b) (filter cancelled (take i places)))
      → either ≡ (titled || listed) → either ≡ is_some (map (alert_at b) (filter cancelled (take (i + 1) places)))
  some-on either told some is =
      is ∙ ap (λ t. t || listed) some ∙ ap (λ l. is_some these || l) told
      ∙ sym (some-more these one (cancelled (get_or places i 0))) ∙ ap is_some (sym (passing-more b places i within cancelled))
