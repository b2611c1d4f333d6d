-- Numbers with keys wait in rows until they are looked at.
use Rattle.std.proofs.Common.{◌≡◌, ◌≢◌, ℕ, ◌+◌, ◌-◌, ◌%◌, ◌<◌, min, Bool, true, false, not, ◌&&◌, ◌||◌, ◌==◌, List, length, get_or, set, slice_index, refl, sym, ap, subst, ◌∙◌, inl, inr, arith}
use Rattle.std.proofs.lemmas.Bool.{cases_eq, eq-eqb, ne_eqb}
use Rattle.std.proofs.lemmas.List.{get_or-set_same, get_or-set_other, get_or_default, length-set}
use Rattle.wakes.specs.Due.{never}
use Rattle.wakes.specs.Turning.{IsRows, AllLook, WillLook, look_at, waits_in}
use Rattle.wakes.specs.declared.rows.Rows.{Rows}

-- what waits in some rows waits in others too, but for one number
abbrev pub KeepsOthers : ℕ → Rows → Rows → Type 0
KeepsOthers item old new = (r i : ℕ) → r < 64 → i < old.count → i ≢ item → waits_in old r i ≡ true → waits_in new r i ≡ true

look-kept : (old new : Rows) (time i key : ℕ) → ((r : ℕ) → r < 64 → waits_in old r i ≡ true → waits_in new r i ≡ true) → WillLook old time i key → WillLook new time i key
look-kept old new time i key kept look = (look.0, look.1, kept ((time + look.0) % 64) (omega arith) look.2)

or-right : (a b : Bool) → b ≡ true → (a || b) ≡ true
or-right true b is = refl
or-right false b is = is

-- a number waits for the moment in which its key is looked at, if it has one
module _ (old new : Rows) (time item key : ℕ) (within : item < old.count) (none : key ≡ never → new ≡ old)
    (waits : key ≢ never → (r i : ℕ) → r < 64 → i < old.count → waits_in new r i ≡ ((r == look_at time key % 64 && i == item) || waits_in old r i)) where
  pub wait-looks : key ≢ never → WillLook new time item key
  wait-looks some =
      let row = look_at time key % 64 in
      let own : (row == row && item == item) ≡ true = ap (λ b. b && item == item) (eq-eqb row row refl) ∙ eq-eqb item item refl in
      (min (key - time) 63, omega arith, waits some row item (omega arith) within ∙ ap (λ b. b || waits_in old row item) own)

  pub wait-keeps : (r i : ℕ) → r < 64 → i < old.count → waits_in old r i ≡ true → waits_in new r i ≡ true
  wait-keeps r i low lt is = elim (cases_eq key never) [
    | inl e ↦ ap (λ rows. waits_in rows r i) (none e) ∙ is
    | inr some ↦ waits some r i low lt ∙ or-right _ _ is
  ]

  -- none waits in another row than before
  pub wait-others : (r i : ℕ) → r < 64 → i < old.count → r ≢ look_at time key % 64 → waits_in new r i ≡ waits_in old r i
  wait-others r i low lt apart = elim (cases_eq key never) [
    | inl e ↦ ap (λ rows. waits_in rows r i) (none e)
    | inr some ↦ waits some r i low lt ∙ ap (λ b. (b && i == item) || waits_in old r i) (ne_eqb r _ apart)
  ]

-- the others wait where they did, and one for the moment in which its key is looked at, if it has one
pub one-looks : (keys keys' : List ℕ) (old new : Rows) (time item : ℕ) → AllLook keys old time → IsRows new → new.count ≡ old.count → length keys' ≡ length keys
    → ((i : ℕ) → i ≢ item → slice_index keys' i ≡ slice_index keys i) → KeepsOthers item old new
    → (slice_index keys' item ≢ never → WillLook new time item (slice_index keys' item)) → AllLook keys' new time
one-looks keys keys' old new time item all is count long others kept own = record {
  count = count ∙ all.count ∙ sym long;
  rows = is;
  looks = λ i lt some. elim (cases_eq i item) [
    | inl e ↦ subst (λ n. WillLook new time n (slice_index keys' n)) (sym e) (own (λ none. some (ap (slice_index keys') e ∙ none)))
    | inr ne ↦
        subst (WillLook new time i) (sym (others i ne))
        (look-kept old new time i (slice_index keys i) (λ r low waits. kept r i low (omega (arith, lt, long, all.count)) ne waits)
        (all.looks i (omega (arith, lt, long)) (λ none. some (others i ne ∙ none))))
  ];
}

take-keeps : (a b : Bool) → a ≡ false → b ≡ true → (not a && b) ≡ true
take-keeps a b off on = ap (λ x. not x && b) off ∙ on

and-false-right : (a b : Bool) → b ≡ false → (a && b) ≡ false
and-false-right true b is = is
and-false-right false b is = refl

module _ (old new : Rows) (row item : ℕ) (taken : (r i : ℕ) → r < 64 → i < old.count → waits_in new r i ≡ (not (r == row && i == item) && waits_in old r i)) where
  -- one number is taken out of a row
  pub take-others : KeepsOthers item old new
  take-others r i low lt ne is = taken r i low lt ∙ take-keeps _ _ (and-false-right (r == row) (i == item) (ne_eqb i item ne)) is

  pub take-out : row < 64 → item < old.count → waits_in new row item ≡ false
  take-out low lt =
      let own : (row == row && item == item) ≡ true = ap (λ b. b && item == item) (eq-eqb row row refl) ∙ eq-eqb item item refl in
      taken row item low lt ∙ ap (λ b. not b && waits_in old row item) own

  pub take-none : (r i : ℕ) → r < 64 → i < old.count → waits_in old r i ≡ false → waits_in new r i ≡ false
  take-none r i low lt is = taken r i low lt ∙ and-false-right (not (r == row && i == item)) (waits_in old r i) is

module _ (keys : List ℕ) (rows : Rows) (now : ℕ) (all : AllLook keys rows now) where
  clash : (d i : ℕ) → d ≡ 0 → waits_in rows ((now + d) % 64) i ≡ true → waits_in rows (now % 64) i ≡ false → ⊥
  clash d i here on off =
      let e : now % 64 ≡ (now + d) % 64 = ap (λ n. n % 64) (omega (arith, here)) in
      let w : true ≡ false = sym on ∙ ap (λ r. waits_in rows r i) (sym e) ∙ off in cc

  -- who doesn't wait in the row isn't due
  pub not-due : now < never → (i : ℕ) → i < length keys → waits_in rows (now % 64) i ≡ false → now < slice_index keys i
  not-due early i lt none = elim (cases_eq (slice_index keys i) never) [
    | inl e ↦ omega (arith, early, e)
    | inr some ↦
        let look = all.looks i lt some in
        elim (cases_eq look.0 0) [
          | inl here ↦ absurd (let w : ⊥ = clash look.0 i here look.2 none in w)
          | inr far ↦ omega (arith, far, look.1)
        ]
  ]

  -- where none waits in the row, the next row is gone on to
  pub goes-on : ((i : ℕ) → i < rows.count → waits_in rows (now % 64) i ≡ false) → AllLook keys rows (now + 1)
  goes-on none = record {
    count = all.count;
    rows = all.rows;
    looks = λ i lt some.
        let look = all.looks i lt some in
        elim (cases_eq look.0 0) [
          | inl here ↦ absurd (let w : ⊥ = clash look.0 i here look.2 (none i (omega (arith, lt, all.count))) in w)
          | inr far ↦
              let same : (now + 1 + (look.0 - 1)) % 64 ≡ (now + look.0) % 64 = ap (λ n. n % 64) (omega (arith, far)) in
              (look.0 - 1, omega (arith, far, look.1), ap (λ r. waits_in rows r i) same ∙ look.2)
        ];
  }

-- a number that isn't due is put on from the row of now
module _ (keys : List ℕ) (old mid new : Rows) (now item key : ℕ) (all : AllLook keys old now) (within : item < length keys) (is : key ≡ slice_index keys item) (late : now < key)
    (count : mid.count ≡ old.count) (taken : (r i : ℕ) → r < 64 → i < old.count → waits_in mid r i ≡ (not (r == now % 64 && i == item) && waits_in old r i))
    (none : key ≡ never → new ≡ mid) (waits : key ≢ never → (r i : ℕ) → r < 64 → i < mid.count → waits_in new r i ≡ ((r == look_at now key % 64 && i == item) || waits_in mid r i)) where
  inside : item < mid.count
  inside = omega (arith, within, count, all.count)

  pub put-looks : IsRows new → new.count ≡ mid.count → AllLook keys new now
  put-looks rows same =
      one-looks keys keys old new now item all rows (same ∙ count) refl (λ i ne. refl)
      (λ r i low lt ne on. wait-keeps mid new now item key inside none waits r i low (omega (arith, lt, count)) (take-others old mid (now % 64) item taken r i low lt ne on))
      (λ some. subst (WillLook new now item) is (wait-looks mid new now item key inside none waits (λ e. some (sym is ∙ e))))

  elsewhere : (i : ℕ) → i < mid.count → waits_in new (now % 64) i ≡ waits_in mid (now % 64) i
  elsewhere i lt = wait-others mid new now item key inside none waits (now % 64) i (omega arith) lt (omega (arith, late))

  pub put-own : waits_in new (now % 64) item ≡ false
  put-own = elsewhere item inside ∙ take-out old mid (now % 64) item taken (omega arith) (omega (arith, inside, count))

  pub put-others : (i : ℕ) → i < length keys → waits_in old (now % 64) i ≡ false → waits_in new (now % 64) i ≡ false
  put-others i lt off = elsewhere i (omega (arith, lt, count, all.count)) ∙ take-none old mid (now % 64) item taken (now % 64) i (omega arith) (omega (arith, lt, all.count)) off

-- a number gets a key, and waits for the moment in which that is looked at
module _ (keys : List ℕ) (old new : Rows) (time item key : ℕ) (within : item < old.count) (none : key ≡ never → new ≡ old)
    (waits : key ≢ never → (r i : ℕ) → r < 64 → i < old.count → waits_in new r i ≡ ((r == look_at time key % 64 && i == item) || waits_in old r i)) where
  pub set-looks : AllLook keys old time → IsRows new → new.count ≡ old.count → AllLook (set keys item key) new time
  set-looks all rows count =
      let own : slice_index (set keys item key) item ≡ key = get_or-set_same keys item key 0 (omega (arith, within, all.count)) in
      one-looks keys (set keys item key) old new time item all rows count (length-set keys item key) (λ i ne. get_or-set_other keys item i key 0 ne)
      (λ r i low lt ne on. wait-keeps old new time item key within none waits r i low lt on)
      (λ some. subst (WillLook new time item) (sym own) (wait-looks old new time item key within none waits (λ e. some (own ∙ e))))

  -- those before it wait already
  pub settle-looks : key ≡ slice_index keys item → ((j : ℕ) → j < item → slice_index keys j ≢ never → WillLook old time j (slice_index keys j))
      → (j : ℕ) → j < item + 1 → slice_index keys j ≢ never → WillLook new time j (slice_index keys j)
  settle-looks is before j lt some = elim (cases_eq j item) [
    | inl e ↦
        subst (λ i. WillLook new time i (slice_index keys i)) (sym e)
        (subst (WillLook new time item) is (wait-looks old new time item key within none waits (λ f. some (ap (slice_index keys) e ∙ (sym is ∙ f)))))
    | inr ne ↦
        look-kept old new time j (slice_index keys j) (λ r low on. wait-keeps old new time item key within none waits r j low (omega (arith, lt, ne, within)) on)
        (before j (omega (arith, lt, ne)) some)
  ]

-- a number that is taken out has no key, wherever it waits
pub taken-looks : (keys : List ℕ) (old new : Rows) (time row item : ℕ) → item < length keys → AllLook keys old time → IsRows new → new.count ≡ old.count
    → ((r i : ℕ) → r < 64 → i < old.count → waits_in new r i ≡ (not (r == row && i == item) && waits_in old r i)) → AllLook (set keys item never) new time
taken-looks keys old new time row item within all rows count taken =
    one-looks keys (set keys item never) old new time item all rows count (length-set keys item never) (λ i ne. get_or-set_other keys item i never 0 ne) (take-others old new row item taken)
    (λ some. absurd (some (get_or-set_same keys item never 0 within)))

-- the rows are others, in which the same wait
pub same-looks : (keys keys' : List ℕ) (old new : Rows) (time time' : ℕ) → keys' ≡ keys → time' ≡ time → AllLook keys old time → IsRows new → new.count ≡ old.count
    → ((r i : ℕ) → waits_in new r i ≡ waits_in old r i) → AllLook keys' new time'
same-looks keys keys' old new time time' one two all rows count same = subst (λ ks. AllLook ks new time') (sym one) (subst (AllLook keys new) (sym two) record {
  count = count ∙ all.count;
  rows = rows;
  looks = λ i lt some. look-kept old new time i (slice_index keys i) (λ r low on. same r i ∙ on) (all.looks i lt some);
})

-- the key that is read
pub key-here : (xs keys : List ℕ) (i v : ℕ) → xs ≡ keys → i < length keys → v ≡ get_or xs i v → v ≡ slice_index keys i
key-here xs keys i v same lt is = is ∙ ap (λ ks. get_or ks i v) same ∙ sym (get_or_default keys i 0 v lt)
