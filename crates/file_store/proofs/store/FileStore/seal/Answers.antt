use Rattle.file_store.proofs.Names.{Some, false, Stub, sym, ◌∙◌}
use Rattle.file_store.proofs.Ended.{ends_as}
use Rattle.file_store.proofs.Looked.{length-print}
use Rattle.file_store.proofs.SealEvents.{seals, can_seal}
use Rattle.file_store.proofs.store.FileStore.seal.Goals as goal

pub record-requires-clause-bodiless : goal.record-requires-clause-bodiless
record-requires-clause-bodiless g c =
    rw (c.inode-ino.ensures.inode, ← c.self.view_is)
    (seals c.self.invariant.0 c.args.key (rw (← c.self.view_is) at c.requires.live) c.args.segment c.args.entry (rw (← c.self.view_is) at c.requires.here) (rw (← c.self.view_is) at c.requires.start) c.requires.volume
    (length-print c.args.key c.args.segment (rw (← c.self.view_is) at c.requires.print)))

pub record-requires-clause-stands : goal.record-requires-clause-stands
record-requires-clause-stands g c =
    rw (c.inode-ino.ensures.inode, ← c.self.view_is)
    (can_seal c.self.invariant.0 c.args.key (rw (← c.self.view_is) at c.requires.live) c.args.segment c.args.entry (rw (← c.self.view_is) at c.requires.here) (rw (← c.self.view_is) at c.requires.start) c.requires.volume
    (length-print c.args.key c.args.segment (rw (← c.self.view_is) at c.requires.print)))

pub returns-clause-changed : goal.returns-clause-changed
returns-clause-changed g c =
    let own = c.inode-ino.ensures.refusal (Stub c.inode-ino.result c.args.segment (Some (record { entry = c.args.entry; offline = false }))) c.inode-ino.ensures.inode in
    record { held = c.record.ensures.held; ends = ends_as own c.record.ensures.ends }

pub record-requires-clause-small : goal.record-requires-clause-small
record-requires-clause-small g c = λ none. sym c.digest_len-len.ensures.bytes ∙ c.digest_len-len.ensures.whole
