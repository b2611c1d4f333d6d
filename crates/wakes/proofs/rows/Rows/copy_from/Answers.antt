use Rattle.std.proofs.Common.{◌≡◌, ◌+◌, ◌*◌, ◌/◌, ◌^◌, length, sym, ap, subst, ◌∙◌}
use Rattle.std.specs.Box.{boxed_slice_items, boxed_slice_with_items}
use Rattle.wakes.specs.Turning.{IsGrouped, AreRows}
use Rattle.wakes.proofs.Places.{one-shift, written-over}
use Rattle.wakes.proofs.rows.Rows.copy_from.Goals as goal

pub copy_from_slice-requires : goal.copy_from_slice-requires
copy_from_slice-requires c =
    let old = c.args.self.now in
    let other = c.args.other.now in
    let count = c.requires.count in
    let shift : old.shift ≡ other.shift = one-shift old.count old.shift other.shift c.requires.rows.grouped (subst (λ n. IsGrouped n other.shift) (sym count) c.requires.other.grouped) in
    let room : length (boxed_slice_items old.words) ≡ length (boxed_slice_items other.words) =
    c.requires.rows.room ∙ ap (λ n. (n / 2 ^ old.shift + 1) * 2 ^ old.shift) count ∙ ap (λ s. (other.count / 2 ^ s + 1) * 2 ^ s) shift ∙ sym c.requires.other.room in
    ap length c.deref_mut.ensures.value ∙ room ∙ ap length (sym c.deref.ensures.value)

pub returns-clause-rows : goal.returns-clause-rows
returns-clause-rows c =
    let old = c.args.self.now in
    let other = c.args.other.now in
    let count = c.requires.count in
    let shift : old.shift ≡ other.shift = one-shift old.count old.shift other.shift c.requires.rows.grouped (subst (λ n. IsGrouped n other.shift) (sym count) c.requires.other.grouped) in
    let words : boxed_slice_items (boxed_slice_with_items old.words c.copy_from_slice.new.self) ≡ boxed_slice_items other.words =
    written-over old.words c.copy_from_slice.new.self (c.copy_from_slice.ensures.len ∙ ap length c.deref_mut.ensures.value) ∙ c.copy_from_slice.ensures.after ∙ c.deref.ensures.value in
    subst (λ ws. AreRows ws other.busy old.count old.shift) (sym words)
    (subst (λ s. AreRows (boxed_slice_items other.words) other.busy old.count s) (sym shift)
    (subst (λ n. AreRows (boxed_slice_items other.words) other.busy n other.shift) (sym count) c.requires.other))
