-- The truth of a condition in each moment, in past-time temporal logic over what the computers know then.
-- The language of conditions is this project's own.
use Rattle.std.specs.Prelude.{ℕ, Bool, false, not, ◌&&◌, ◌==◌, nat_le, ℤ, pos, int_lt, int_le, List, [], ◌∷◌, count_by, Option, Some, None, is_some}
use Rattle.std.specs.List.{list_any, list_all}
use Rattle.std.specs.Ordering.{int_eq}
use Rattle.ecam_spec.specs.declared.kinds.Key.{Key}
use Rattle.ecam_spec.specs.declared.kinds.Op.{Op}
use Rattle.ecam_spec.specs.declared.kinds.Op.TheVariants.{Less, LessEq, More, MoreEq, Equal, Differ}
use Rattle.ecam_spec.specs.Past.{Signal, historically_within, once_within, rise, since}
use Rattle.ecam_spec.specs.Word.{bit}
use Rattle.ecam_spec.specs.Book.{Tree, Trees, constant, discrete, valid, compared, in_phase, alert, press, computer, negation, all, any, at_least, confirmed, held, risen, latched, none, more}

-- what conditions speak of, in each moment
pub record World : Type 0 where
  -- the value of each parameter, if it has one
  pub values : ℕ → ℕ → Option ℤ
  -- the flight phase
  pub phase : ℕ → ℕ
  -- the alert is active
  pub active : ℕ → Signal
  -- the key is pressed
  pub pressed : Key → Signal
  -- the computer, 1 or 2, is up
  pub up : ℕ → Signal

-- phase p is in a set of phases
abbrev pub in_set : ℕ → ℕ → Bool
in_set set p = bit p set == 1

-- a number stands so to another
abbrev pub stands : Op → ℤ → ℤ → Bool
stands Less x y = int_lt x y
stands LessEq x y = int_le x y
stands More x y = int_lt y x
stands MoreEq x y = int_le y x
stands Equal x y = int_eq x y
stands Differ x y = not (int_eq x y)

-- there is a value, and it passes a test
abbrev pub is_so : (ℤ → Bool) → Option ℤ → Bool
is_so test None = false
is_so test (Some z) = test z

-- s has held, and r hasn't since, nor with it
abbrev pub latch : Signal → Signal → Signal
latch s r = since (λ k. s k && not (r k)) (λ k. not (r k))

unfoldable mutual
  pub holds : World → Tree → Signal
  holds w (constant b) k = b
  holds w (discrete p) k = is_so (int_eq (pos 1)) (w.values p k)
  holds w (valid p) k = is_some (w.values p k)
  holds w (compared p op x) k = is_so (λ z. stands op z x) (w.values p k)
  holds w (in_phase set) k = in_set set (w.phase k)
  holds w (alert a) k = w.active a k
  holds w (press key) k = w.pressed key k
  holds w (computer n) k = w.up n k
  holds w (negation c) k = not (holds w c k)
  holds w (all cs) k = list_all (λ b. b) (truths w cs k)
  holds w (any cs) k = list_any (λ b. b) (truths w cs k)
  holds w (at_least n cs) k = nat_le n (count_by (λ b. b) (truths w cs k))
  holds w (confirmed c n) k = historically_within n (holds w c) k
  holds w (held c n) k = once_within n (holds w c) k
  holds w (risen c) k = rise (holds w c) k
  holds w (latched s r) k = latch (holds w s) (holds w r) k

  -- the truth of each of some conditions
  pub truths : World → Trees → ℕ → List Bool
  truths w none k = []
  truths w (more c cs) k = holds w c k ∷ truths w cs k
