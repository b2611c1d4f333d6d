-- What the keys and the target of one moment say of the control panel.
use Rattle.std.specs.Prelude.{◌≡◌, ℕ, ◌+◌, ◌<◌, Bool, false, ◌&&◌, length, Option, Some, None, IfSome}
use Rattle.ecam_spec.specs.declared.kinds.Key.TheVariants.{Clr, Sts, All, Emer, Page}
use Rattle.ecam_spec.specs.Places.{first_place}
use Rattle.ecam_spec.specs.Levels.{is_caution_level}
use Rattle.ecam_spec.specs.Book.{Book}
use Rattle.ecam_spec.specs.Situation.{alert_at}
use Rattle.ecam_spec.specs.Selection.{Panel}
use Rattle.ecam_kinds.specs.KeyState.{is_pressed, is_held}
use Rattle.ecam_kinds.specs.declared.keys.Keys.{Keys}
use Rattle.system_display.specs.declared.inputs.Inputs.{Inputs}

-- the target is a caution
abbrev pub is_caution_target : Book → Option ℕ → Bool
is_caution_target b None = false
is_caution_target b (Some a) = is_caution_level (alert_at b a).level

-- the page, from 0, whose key is pressed, of so many pages: of several the least
abbrev pub page_pressed : Keys → ℕ → Option ℕ
page_pressed keys pages = first_place (λ i. is_pressed keys (Page (i + 1))) pages

-- with these keys and this target, the panel is used as it is in moment k
pub record Shows (b : Book) (keys : Keys) (target : Option ℕ) (p : Panel) (k : ℕ) : Type 0 where
  pub pages : p.pages ≡ length b.pages
  pub all_held : p.all_held k ≡ is_held keys All
  pub page_called : p.page_called k ≡ page_pressed keys (length b.pages)
  pub sts : p.sts k ≡ is_pressed keys Sts
  pub clr : p.clr k ≡ is_pressed keys Clr
  pub cancels : p.cancels k ≡ (is_pressed keys Emer && is_caution_target b target)

-- a page that is called is one of the pages
abbrev pub CallsItsPages : Inputs → Type 0
CallsItsPages i = IfSome i.page_called (λ n. n < i.pages)

-- these are the inputs of moment k
pub record AreInputs (p : Panel) (k : ℕ) (i : Inputs) : Type 0 where
  pub pages : p.pages ≡ i.pages
  pub all_held : p.all_held k ≡ i.all_held
  pub page_called : p.page_called k ≡ i.page_called
  pub sts : p.sts k ≡ i.sts
  pub clr : p.clr k ≡ i.clr
  pub cancels : p.cancels k ≡ i.cancels

-- in moment k nothing is selected: ALL isn't held, and none of the keys that select is pressed
pub record SelectsNothing (p : Panel) (k : ℕ) : Type 0 where
  pub all_held : p.all_held k ≡ false
  pub page_called : p.page_called k ≡ None
  pub sts : p.sts k ≡ false
  pub clr : p.clr k ≡ false
  pub cancels : p.cancels k ≡ false
