use Rattle.std.proofs.Common.{ap, length}
use Rattle.condition_codes.specs.Pieces.{links_of, owners_of}
use Rattle.condition_codes.proofs.Appending.{codes-none}
use Rattle.condition_codes.proofs.Owning.{each-none, slots-none}
use Rattle.condition_codes.proofs.pieces.Pieces.new.Goals as goal

pub returns : goal.returns
returns c = record {
  codes = rw (c.in_ok-push.ensures.items, c.new-starts.ensures.items, c.new.ensures.items) codes-none;
  links = rw (c.in_ok-push.ensures.items, c.new-starts.ensures.items, c.new-2.ensures.items) (each-none links_of);
  owners = rw (c.in_ok-push-2.ensures.items, c.new-owner_starts.ensures.items, c.new-3.ensures.items) (each-none owners_of);
  count = ap length c.new-4.ensures.items;
  slots = slots-none _;
}
