use Rattle.std.proofs.Common.{length, ap, arith}
use Rattle.meta_journal.specs.Steps.{Journal}
use Rattle.meta_journal.proofs.Framing.{staged_long}
use Rattle.meta_journal.proofs.journal.MetaJournal.fits.Goals as goal

pub returns-then-taken-len : goal.returns-then-taken-len
returns-then-taken-len c =
    let size = staged_long c.self.inside.bytes.items c.self.inside.used c.self.inside.count c.self.inside.size c.self.invariant in
    let seen = ap (λ (j : Journal). length j.staged) c.self.view_is in
    let used = ap (λ (j : Journal). j.used) c.self.view_is in
    let len = ap (λ (j : Journal). j.len) c.self.view_is in
    grind (arith, size, seen, used, len, c.len-then-taken-len.ensures, c.if-taken-len.true)
