use Prim.Native.Nat.{◌≤◌}
use lib.ListN.{length}
use native.Mathlib.Omega.{arith}
use Rattle.io.proofs.Counting.{prefix_len_of_le}
use Rattle.daybook.specs.Listing.{listing as Listing·listing}
use Rattle.daybook.proofs.Told.{whole_length, whole-listing}
use Rattle.daybook_main.proofs.list.Goals as goal

pub returns : goal.returns
returns c =
    let fits : length (Listing·listing c.args.file.now) ≤ length c.args.listing.now = omega (arith, c.replay.ensures.bounded, c.requires) in
    let whole = whole_length c.args.file.now c.args.listing.now _ c.replay.result c.replay.ensures.listing_after fits in
    record {
      lists = whole-listing c.args.file.now c.args.listing.now _ c.replay.result c.replay.ensures.listing_after fits;
      counts = prefix_len_of_le _ _ (omega (arith, whole, c.replay.ensures.bounded, c.requires));
    }
