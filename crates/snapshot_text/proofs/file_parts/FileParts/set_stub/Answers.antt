use Rattle.std.proofs.Common.{◌≡◌, true, Option, refl, sym, ◌∙◌, arith}
use Rattle.std.proofs.lemmas.Result.{on_ok_weaker}
use Rattle.hsm_types.specs.declared.stubs.Stub.{Stub}
use Rattle.hsm_types.specs.declared.stubs.StubEntry.{StubEntry}
use Rattle.hsm_types.specs.Stubs.{is_offline}
use Rattle.stub_map.specs.States.{state_of}
use Rattle.stub_map.specs.declared.stubs.State.TheVariants.{Offline}
use Rattle.snapshot_text.proofs.StubLists.{punched-with, restored-with}
use Rattle.snapshot_text.proofs.file_parts.FileParts.set_stub.Goals as goal

away : (o : Option Stub) (entry : StubEntry) → state_of o ≡ Offline entry → is_offline o ≡ true
away o entry is = grind arith

pub returns-then-stub-clause-taken : goal.returns-then-stub-clause-taken
returns-then-stub-clause-taken c =
    rw (c.clear_segment.ensures, c.in_ok-punch.ensures.after, punched-with c.args.segment c.args.stub c.args.self.now.stubs c.len-count.ensures.ascend c.if-stub.true (c.requires.fits.goes c.if-stub.true)) (rw c.if-stub.true refl)

pub returns-in-Offline-clause-taken : goal.returns-in-Offline-clause-taken
returns-in-Offline-clause-taken c =
    let off = away _ c.in-Offline.field-0 (sym c.state.ensures ∙ c.in-Offline.is) in
    let same = restored-with c.args.segment c.args.stub c.args.self.now.stubs c.len-count.ensures.ascend c.if-stub.false (c.requires.fits.comes c.if-stub.false off) in
    on_ok_weaker c.restore.result (λ is. grind (arith, is, same, c.if-stub.false)) c.restore.ensures.after
