-- A list that was lent as a slice, and what was written through it.
use Rattle.std.proofs.Common.{◌≡◌, List, map, length, Global, sym, ◌∙◌, ap}
use Rattle.std.specs.Vec.{with_items}
use Rattle.std.specs.Prelude.{Vec}
use Rattle.std.proofs.lemmas.List.{with_items_is, length-map}
use Rattle.advisories.specs.declared.watches.Watch.{Watch}
use Rattle.advisories.specs.Watches.{watched, all_watched}

module _ (v : Vec Watch Global) (ws : List Watch) where
  pub mapped-back : (f : Watch → Watch) → ws ≡ map f v.items → (with_items v ws).items ≡ map f v.items
  mapped-back f are = with_items_is v ws (ap length are ∙ length-map v.items f ∙ sym v.ok.0) ∙ are

  pub same-watched : (lent : List Watch) → lent ≡ v.items → all_watched ws ≡ all_watched lent → (with_items v ws).items ≡ ws
  same-watched lent is same =
      with_items_is v ws (sym (length-map ws watched) ∙ ap length same ∙ length-map lent watched ∙ ap length is ∙ sym v.ok.0)
