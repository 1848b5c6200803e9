use Rattle.std.proofs.Common.{Ok}
use Rattle.std.specs.FinMap.{get}
use Rattle.hosts.proofs.HandingOut.{handed-count, handed-room, handed-has, handed-only, handed-there, Hands-gone, Hands-others}
use Rattle.hosts.proofs.mem_host.MemHostHost.drives.Goals as goal

pub returns-clause-given : goal.returns-clause-given
returns-clause-given c =
    let held = get c.args.self.now.folders c.args.dir.now in
    let hands = c.in_ok-hand.ensures.hands.1 in
    rw c.into_vec.ensures record {
      count = handed-count c.args.dir.now c.args.drives c.args.volumes c.args.capacity c.args.self.now c.hand.new.self held c.in_ok-hand.field-0 hands;
      counted = c.in_ok-hand.ensures.unfailed;
      room = handed-room c.args.dir.now c.args.drives c.args.volumes c.args.capacity c.args.self.now c.hand.new.self held c.in_ok-hand.field-0 hands;
      has = handed-has c.args.dir.now c.args.drives c.args.volumes c.args.capacity c.args.self.now c.hand.new.self held c.in_ok-hand.field-0 hands;
      only = handed-only c.args.dir.now c.args.drives c.args.volumes c.args.capacity c.args.self.now c.hand.new.self held c.in_ok-hand.field-0 hands;
      there = handed-there c.args.dir.now c.args.drives c.args.volumes c.args.capacity c.args.self.now c.hand.new.self held c.in_ok-hand.field-0 hands;
    }

pub returns-clause-gone : goal.returns-clause-gone
returns-clause-gone c = Hands-gone c.args.dir.now c.args.drives c.args.volumes c.args.capacity c.args.self.now c.hand.new.self (Ok c.in_ok-hand.field-0) c.in_ok-hand.ensures.hands

pub returns-clause-others : goal.returns-clause-others
returns-clause-others c = Hands-others c.args.dir.now c.args.drives c.args.volumes c.args.capacity c.args.self.now c.hand.new.self (Ok c.in_ok-hand.field-0) c.in_ok-hand.ensures.hands
