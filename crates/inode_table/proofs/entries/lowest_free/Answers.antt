use Rattle.std.proofs.Common.{◌+◌, ◌-◌, ◌/◌, ◌≡◌, ◌<◌, length, get_or, arith}
use Rattle.inode_table.specs.Listing.{listing}
use Rattle.inode_table.proofs.Listings.{length-listing}
use Rattle.inode_table.proofs.Orders.{free-ge, free-le, free-above, free-below}
use Rattle.inode_table.proofs.entries.lowest_free.Goals as goal

pub loop-low-init : goal.loop-low-init
loop-low-init c =
    let least = free-ge 1 (listing c.args.entries.now) in
    let most = free-le 1 (listing c.args.entries.now) in
    let len = length-listing c.args.entries.now in
    record { within = omega arith; from = omega arith; to = omega arith }

pub loop-low-preserved-then-entries-middle : goal.loop-low-preserved-then-entries-middle
loop-low-preserved-then-entries-middle c =
    let middle = c.loop-low.low + (c.loop-low.high - c.loop-low.low) / 2 in
    let entry = c.index-entries-middle.result in
    let within : middle < length c.args.entries.now = omega arith in
    let is : (get_or c.args.entries.now middle entry).key.ino ≡ 1 + middle = omega arith in
    let more = free-above 1 c.args.entries.now middle entry c.requires.order within is in
    record { within = omega arith; from = omega arith; to = omega arith }

pub loop-low-preserved : goal.loop-low-preserved
loop-low-preserved c =
    let middle = c.loop-low.low + (c.loop-low.high - c.loop-low.low) / 2 in
    let entry = c.index-entries-middle.result in
    let within : middle < length c.args.entries.now = omega arith in
    let more = free-below 1 c.args.entries.now middle entry c.requires.order within (λ is. c.if-entries-middle.false (omega arith)) in
    record { within = omega arith; from = omega arith; to = omega arith }
