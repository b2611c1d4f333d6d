-- Words by how many they are.
use Rattle.std.proofs.Common.{◌≡◌, ◌≢◌, List, [], ◌∷◌, map, length, get_or, None, refl, sym, ap, ◌∙◌, arith}
use Rattle.ecam_spec.specs.Book.{Text}
use Rattle.ecam_spec.specs.Command.{command_of, form_of_two, form_of_three, form_of_four, form_of_five}

module _ {W : Type 0} (bytes : W → Text) where
  pub two_words : (ws : List W) (a b : W) → length ws ≡ 2 → a ≡ get_or ws 0 a → b ≡ get_or ws 1 b
      → command_of (map bytes ws) ≡ form_of_two (bytes a) (bytes b)
  unfolding command_of
  two_words (x ∷ y ∷ []) a b long is_a is_b =
      ap (λ a. form_of_two (bytes a) (bytes y)) (sym is_a) ∙ ap (λ b. form_of_two (bytes a) (bytes b)) (sym is_b)
  two_words [] a b long is_a is_b = absurd (let w : ⊥ = omega arith in w)
  two_words (x ∷ []) a b long is_a is_b = absurd (let w : ⊥ = omega arith in w)
  two_words (x ∷ y ∷ z ∷ ws) a b long is_a is_b = absurd (let w : ⊥ = omega arith in w)

  pub three_words : (ws : List W) (a b c : W) → length ws ≡ 3 → a ≡ get_or ws 0 a → b ≡ get_or ws 1 b → c ≡ get_or ws 2 c
      → command_of (map bytes ws) ≡ form_of_three (bytes a) (bytes b) (bytes c)
  unfolding command_of
  three_words (x ∷ y ∷ z ∷ []) a b c long is_a is_b is_c =
      ap (λ a. form_of_three (bytes a) (bytes y) (bytes z)) (sym is_a)
      ∙ ap (λ b. form_of_three (bytes a) (bytes b) (bytes z)) (sym is_b)
      ∙ ap (λ c. form_of_three (bytes a) (bytes b) (bytes c)) (sym is_c)
  three_words [] a b c long is_a is_b is_c = absurd (let w : ⊥ = omega arith in w)
  three_words (x ∷ []) a b c long is_a is_b is_c = absurd (let w : ⊥ = omega arith in w)
  three_words (x ∷ y ∷ []) a b c long is_a is_b is_c = absurd (let w : ⊥ = omega arith in w)
  three_words (x ∷ y ∷ z ∷ w ∷ ws) a b c long is_a is_b is_c = absurd (let w : ⊥ = omega arith in w)

  pub four_words : (ws : List W) (a b c d : W) → length ws ≡ 4 → a ≡ get_or ws 0 a → b ≡ get_or ws 1 b → c ≡ get_or ws 2 c → d ≡ get_or ws 3 d
      → command_of (map bytes ws) ≡ form_of_four (bytes a) (bytes b) (bytes c) (bytes d)
  unfolding command_of
  four_words (w ∷ x ∷ y ∷ z ∷ []) a b c d long is_a is_b is_c is_d =
      ap (λ a. form_of_four (bytes a) (bytes x) (bytes y) (bytes z)) (sym is_a)
      ∙ ap (λ b. form_of_four (bytes a) (bytes b) (bytes y) (bytes z)) (sym is_b)
      ∙ ap (λ c. form_of_four (bytes a) (bytes b) (bytes c) (bytes z)) (sym is_c)
      ∙ ap (λ d. form_of_four (bytes a) (bytes b) (bytes c) (bytes d)) (sym is_d)
  four_words [] a b c d long is_a is_b is_c is_d = absurd (let w : ⊥ = omega arith in w)
  four_words (_ ∷ []) a b c d long is_a is_b is_c is_d = absurd (let w : ⊥ = omega arith in w)
  four_words (_ ∷ _ ∷ []) a b c d long is_a is_b is_c is_d = absurd (let w : ⊥ = omega arith in w)
  four_words (_ ∷ _ ∷ _ ∷ []) a b c d long is_a is_b is_c is_d = absurd (let w : ⊥ = omega arith in w)
  four_words (_ ∷ _ ∷ _ ∷ _ ∷ _ ∷ _) a b c d long is_a is_b is_c is_d = absurd (let w : ⊥ = omega arith in w)

  pub five_words : (ws : List W) (a b c d e : W) → length ws ≡ 5 → a ≡ get_or ws 0 a → b ≡ get_or ws 1 b → c ≡ get_or ws 2 c → d ≡ get_or ws 3 d → e ≡ get_or ws 4 e
      → command_of (map bytes ws) ≡ form_of_five (bytes a) (bytes b) (bytes c) (bytes d) (bytes e)
  unfolding command_of
  five_words (v ∷ w ∷ x ∷ y ∷ z ∷ []) a b c d e long is_a is_b is_c is_d is_e =
      ap (λ a. form_of_five (bytes a) (bytes w) (bytes x) (bytes y) (bytes z)) (sym is_a)
      ∙ ap (λ b. form_of_five (bytes a) (bytes b) (bytes x) (bytes y) (bytes z)) (sym is_b)
      ∙ ap (λ c. form_of_five (bytes a) (bytes b) (bytes c) (bytes y) (bytes z)) (sym is_c)
      ∙ ap (λ d. form_of_five (bytes a) (bytes b) (bytes c) (bytes d) (bytes z)) (sym is_d)
      ∙ ap (λ e. form_of_five (bytes a) (bytes b) (bytes c) (bytes d) (bytes e)) (sym is_e)
  five_words [] a b c d e long is_a is_b is_c is_d is_e = absurd (let w : ⊥ = omega arith in w)
  five_words (_ ∷ []) a b c d e long is_a is_b is_c is_d is_e = absurd (let w : ⊥ = omega arith in w)
  five_words (_ ∷ _ ∷ []) a b c d e long is_a is_b is_c is_d is_e = absurd (let w : ⊥ = omega arith in w)
  five_words (_ ∷ _ ∷ _ ∷ []) a b c d e long is_a is_b is_c is_d is_e = absurd (let w : ⊥ = omega arith in w)
  five_words (_ ∷ _ ∷ _ ∷ _ ∷ []) a b c d e long is_a is_b is_c is_d is_e = absurd (let w : ⊥ = omega arith in w)
  five_words (_ ∷ _ ∷ _ ∷ _ ∷ _ ∷ _ ∷ _) a b c d e long is_a is_b is_c is_d is_e = absurd (let w : ⊥ = omega arith in w)

  -- any other number of words has no form
  pub other_words : (ws : List W) → length ws ≢ 2 → length ws ≢ 3 → length ws ≢ 4 → length ws ≢ 5 → command_of (map bytes ws) ≡ None
  unfolding command_of
  other_words [] two three four five = refl
  other_words (_ ∷ []) two three four five = refl
  other_words (_ ∷ _ ∷ []) two three four five = absurd (two refl)
  other_words (_ ∷ _ ∷ _ ∷ []) two three four five = absurd (three refl)
  other_words (_ ∷ _ ∷ _ ∷ _ ∷ []) two three four five = absurd (four refl)
  other_words (_ ∷ _ ∷ _ ∷ _ ∷ _ ∷ []) two three four five = absurd (five refl)
  other_words (_ ∷ _ ∷ _ ∷ _ ∷ _ ∷ _ ∷ _) two three four five = refl
