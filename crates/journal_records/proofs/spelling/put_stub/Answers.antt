use Rattle.std.proofs.Common.{◌≡◌, ℕ, ◌++◌, subst, arith}
use Rattle.byteorder.specs.Endian.{big_bytes}
use Rattle.journal_records.specs.Texts.{state_of, entry_bytes}
use Rattle.journal_records.specs.Places.{Puts}
use Rattle.journal_records.proofs.WrittenTexts.{puts_both}
use Rattle.journal_records.proofs.spelling.put_stub.Goals.{then-stub, else-stub}
use Rattle.journal_records.proofs.spelling.put_stub.Goals as goal

pub returns-clause-puts : goal.returns-clause-puts
returns-clause-puts c =
    let state : c.if-stub.state ≡ state_of c.in-Some.stub.offline = elim c.if-stub.branch [ then-stub w ↦ grind (arith, w.state-is, w.if-stub.true) | else-stub w ↦ grind (arith, w.state-is, w.if-stub.false) ] in
    let room = rw c.in-Some.is at c.requires in
    rw c.in-Some.is (subst (λ (n : ℕ). Puts c.args.at (big_bytes 1 n ++ entry_bytes c.in-Some.stub.entry) c.args.out.now c.put_entry.new.out) state
    (puts_both c.args.at c.put_u8-at.result (big_bytes 1 c.if-stub.state) (entry_bytes c.in-Some.stub.entry) c.args.out.now _ _ c.put_u8-at.ensures.end (omega (arith, c.put_u8-at.ensures.end, room)) c.put_u8-at.ensures.puts c.put_entry.ensures.puts))
