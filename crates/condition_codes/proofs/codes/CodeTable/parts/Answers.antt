use Rattle.std.proofs.Common.{◌≡◌, ℕ, suc, ◌+◌, ◌<◌, length, slice_index, slice_index_or, ap, ◌∙◌, arith, add-one}
use Rattle.std.proofs.lemmas.Option.{slice_get_within}
use Rattle.ecam_spec.specs.Book as plain
use Rattle.book_model.specs.Conditions.{places}
use Rattle.condition_codes.specs.IsCodes.{IsCodes, node_starts, owner_starts}
use Rattle.condition_codes.specs.declared.codes.CodeTable.{CodeTable}
use Rattle.condition_codes.specs.declared.starts.Starts.{Starts}
use Rattle.condition_codes.proofs.Linking.{many-starts, node-read, owner-read, slot-read, start-read}
use Rattle.condition_codes.proofs.codes.CodeTable.parts.Goals as goal

pub index-own-requires : goal.index-own-requires
index-own-requires c = omega (arith, many-starts c.requires.0 c.args.self.now c.requires.1, c.requires.2, c.args.self.now.starts.items.ok.0)

pub index-next-requires : goal.index-next-requires
index-next-requires c = omega (arith, many-starts c.requires.0 c.args.self.now c.requires.1, c.requires.2, c.args.self.now.starts.items.ok.0)

-- what is read of both records
module _ (b : plain.Book) (t : CodeTable) (coded : IsCodes b t) (n : ℕ) (less : n < length (places b)) (own next : Starts)
    (own_is : own ≡ slice_index_or t.starts.items.items n own) (next_is : next ≡ slice_index_or t.starts.items.items (n + 1) next) where
  from-node : own.node ≡ slice_index (node_starts t.starts.items.items) n
  from-node = node-read b t coded n own (omega arith) own_is

  to-node : next.node ≡ slice_index (node_starts t.starts.items.items) (suc n)
  to-node = node-read b t coded (n + 1) next (omega arith) next_is ∙ ap (slice_index (node_starts t.starts.items.items)) (add-one n)

  from-owner : own.owner ≡ slice_index (owner_starts t.starts.items.items) n
  from-owner = owner-read b t coded n own (omega arith) own_is

  to-owner : next.owner ≡ slice_index (owner_starts t.starts.items.items) (suc n)
  to-owner = owner-read b t coded (n + 1) next (omega arith) next_is ∙ ap (slice_index (owner_starts t.starts.items.items)) (add-one n)

pub slice_bounds-result-count : goal.slice_bounds-result-count
slice_bounds-result-count c =
    let (b, coded, less) = c.requires in
    let t = c.args.self.now in
    omega (
      arith,
      from-node b t coded c.args.number less c.index-own.result.now c.index-next.result.now c.index-own.ensures c.index-next.ensures,
      to-node b t coded c.args.number less c.index-own.result.now c.index-next.result.now c.index-own.ensures c.index-next.ensures,
      coded.codes.pieces.ordered c.args.number less,
    )

pub slice_bounds-result-start : goal.slice_bounds-result-start
slice_bounds-result-start c = slice_bounds-result-count c

pub slice_bounds-result-end : goal.slice_bounds-result-end
slice_bounds-result-end c =
    let (b, coded, less) = c.requires in
    let t = c.args.self.now in
    omega (
      arith,
      to-node b t coded c.args.number less c.index-own.result.now c.index-next.result.now c.index-own.ensures c.index-next.ensures,
      coded.links.pieces.within (suc c.args.number) less,
      t.links.items.ok.0,
      c.deref.ensures.len,
    )

pub slice_bounds-result-count-2 : goal.slice_bounds-result-count-2
slice_bounds-result-count-2 c =
    let (b, coded, less) = c.requires in
    let t = c.args.self.now in
    omega (
      arith,
      from-owner b t coded c.args.number less c.index-own.result.now c.index-next.result.now c.index-own.ensures c.index-next.ensures,
      to-owner b t coded c.args.number less c.index-own.result.now c.index-next.result.now c.index-own.ensures c.index-next.ensures,
      coded.owners.pieces.ordered c.args.number less,
    )

pub slice_bounds-result-end-2 : goal.slice_bounds-result-end-2
slice_bounds-result-end-2 c =
    let (b, coded, less) = c.requires in
    let t = c.args.self.now in
    omega (
      arith,
      to-owner b t coded c.args.number less c.index-own.result.now c.index-next.result.now c.index-own.ensures c.index-next.ensures,
      coded.owners.pieces.within (suc c.args.number) less,
      t.owners.items.ok.0,
      c.deref-2.ensures.len,
    )

pub slice_bounds-result-start-2 : goal.slice_bounds-result-start-2
slice_bounds-result-start-2 c = slice_bounds-result-count-2 c

pub returns-clause-links : goal.returns-clause-links
returns-clause-links c b coded p here =
    let t = c.args.self.now in
    let n = c.args.number in
    let less : n < length (places b) = slice_get_within (places b) n p here in
    rw (
      from-node b t coded n less c.index-own.result.now c.index-next.result.now c.index-own.ensures c.index-next.ensures,
      to-node b t coded n less c.index-own.result.now c.index-next.result.now c.index-own.ensures c.index-next.ensures,
      c.deref.ensures.value,
    ) (coded.links.each n p here)

pub returns-clause-owners : goal.returns-clause-owners
returns-clause-owners c b coded p here =
    let t = c.args.self.now in
    let n = c.args.number in
    let less : n < length (places b) = slice_get_within (places b) n p here in
    rw (
      from-owner b t coded n less c.index-own.result.now c.index-next.result.now c.index-own.ensures c.index-next.ensures,
      to-owner b t coded n less c.index-own.result.now c.index-next.result.now c.index-own.ensures c.index-next.ensures,
      c.deref-2.ensures.value,
    ) (coded.owners.each n p here)

pub returns-clause-first : goal.returns-clause-first
returns-clause-first c b coded less = start-read b c.args.self.now coded c.args.number c.index-own.result.now (omega arith) c.index-own.ensures

pub returns-clause-slot : goal.returns-clause-slot
returns-clause-slot c b coded p here =
    slot-read b c.args.self.now coded c.args.number c.index-own.result.now (omega (arith, slice_get_within (places b) c.args.number p here)) c.index-own.ensures
    ∙ coded.slots c.args.number p here
