use Rattle.std.proofs.Common.{arith}
use Rattle.condition_codes.proofs.Linking.{within-links, own-links}
use Rattle.condition_codes.proofs.codes.CodeTable.links_by.Goals as goal

pub slice_bounds-result-end : goal.slice_bounds-result-end
slice_bounds-result-end c =
    omega (
      arith,
      within-links c.requires.0 c.args.self.now c.requires.2 c.requires.1 c.args.asker.now c.requires.3,
      c.args.self.now.links.items.ok.0,
      c.deref.ensures.len,
      c.from.ensures,
    )

pub returns : goal.returns
returns c b o coded asks p here = rw (c.from.ensures, c.deref.ensures.value) (own-links b c.args.self.now coded o c.args.asker.now asks p here)
