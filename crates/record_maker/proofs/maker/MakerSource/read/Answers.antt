use Rattle.std.proofs.Common.{◌≡◌, ℕ, ◌+◌, ◌-◌, ◌≤◌, List, ◌++◌, length, take, drop, sym, ◌∙◌, ap, arith, length-append, length-drop}
use Rattle.std.proofs.Math.Seq.{take-add, take-append-add}
use Rattle.std.proofs.lemmas.List.{take-append-le, length-take-le, drop-drop}
use borrow.Rule.Slice.PartMut.{put_mid, post_of}
use Rattle.record_maker.specs.Maker.{left_of}
use Rattle.record_maker.proofs.maker.MakerSource.read.Goals as goal

module _ (into part left : List ℕ) (n k given : ℕ) (within : n ≤ length into) (bound : given ≤ length part) where
  -- the first bytes and those of a part behind them
  take-both : take n into ≡ take n left → take given part ≡ take given (drop n left) → take (n + given) (put_mid n k into part) ≡ take (n + given) left
  take-both first second =
      let front : length (take n into) ≡ n = length-take-le n into within in
      ap (λ m. take (m + given) (put_mid n k into part)) (sym front)
      ∙ take-append-add (take n into) (part ++ post_of n k into) given
      ∙ ap (λ l. take n into ++ l) (take-append-le given part (post_of n k into) bound ∙ second)
      ∙ ap (λ l. l ++ take given (drop n left)) first
      ∙ sym (take-add n given left)

  length-both : n + given ≤ length (put_mid n k into part)
  length-both =
      let front : length (take n into) ≡ n = length-take-le n into within in
      omega (arith, length-append (take n into) (part ++ post_of n k into), length-append part (post_of n k into))

pub loop-n-preserved : goal.loop-n-preserved
loop-n-preserved c =
    let n = c.loop-n.n in
    let given = c.give-given.result in
    let part = c.give-given.new.into in
    let left = left_of c.args.self.now in
    let bound : given ≤ length part = omega (arith, c.give-given.ensures.bound, c.give-given.auto.into) in
    let was = c.loop-n.invariant.left in
    record {
      within = length-both c.loop-n.into part left n (length c.loop-n.into - n) given c.loop-n.invariant.within bound;
      there = omega (arith, c.give-given.ensures.there, c.loop-n.invariant.there, length-drop n left, ap length was);
      moved = take-both c.loop-n.into part left n (length c.loop-n.into - n) given c.loop-n.invariant.within bound c.loop-n.invariant.moved
          (c.give-given.ensures.moved ∙ ap (take given) was);
      left = c.give-given.ensures.left ∙ ap (drop given) was ∙ drop-drop given n left;
    }
