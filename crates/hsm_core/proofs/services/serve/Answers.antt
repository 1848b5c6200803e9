use Rattle.std.proofs.Common.{◌≡◌, ◌+◌, Some, None, Ok, sym, ◌∙◌, ap, subst, arith}
use Rattle.disk_model.specs.Moments.{Tells}
use Rattle.hsm_types.specs.Refusals.{first_refusal}
use Rattle.hsm_types.specs.Calls.{scope_of}
use Rattle.hsm_types.specs.declared.dm.Scope.{Scope}
use Rattle.hsm_types.specs.declared.dm.DmReply.{DmReply}
use Rattle.plain_model.specs.Services.{scope_refusals, dm_reply_to}
use Rattle.file_store.specs.Stores.{superblock_of}
use Rattle.dm_service.specs.Services.{AreBoth}
use Rattle.dm_service.specs.Tables.{awaited_in}
use Rattle.dm_service.proofs.Anywhere.{told_anywhere, left_anywhere, entry_alone}
use Rattle.hsm_core.specs.Stamps.{stamp_in}
use Rattle.hsm_core.specs.Store.{state_with}
use Rattle.hsm_core.proofs.HandedOut.{unhanded, all_unhanded}
use Rattle.hsm_core.proofs.Seeing.{held_seen}
use Rattle.hsm_core.proofs.Serving.{left_by_told, refused_reply, refused_left, served_replies, served_left, granted_reply, granted_left}
use Rattle.hsm_core.proofs.services.serve.Given.{Over}
use Rattle.hsm_core.proofs.services.serve.Goals.{After-refused, After-perform, In_ok-dm}
use Rattle.hsm_core.proofs.services.serve.Goals as goal

-- by the tables alone
tables-both : (g : Over) (c : In_ok-dm g) → AreBoth (dm_reply_to (superblock_of c.args.files.now) (state_with c.args.files.now.held c.args.stamps.now.entries c.args.service.now c.args.number) c.args.sid c.args.call.now) c.in_ok-dm.field-0
tables-both g c =
    subst (λ (reply : DmReply). AreBoth reply c.in_ok-dm.field-0)
    (told_anywhere (superblock_of c.args.files.now) c.args.files.now.held (stamp_in c.args.stamps.now.entries) c.args.number c.args.service.now c.args.sid c.args.call.now (sym c.asks_tables.ensures ∙ c.if-asks_tables.true))
    c.in_ok-dm.ensures.served.replies

pub returns-then-asks_tables-clause-replies : goal.returns-then-asks_tables-clause-replies
returns-then-asks_tables-clause-replies g c = (c.args.files.now.held, held_seen c.args.files.now.held, tables-both g c)

pub returns-then-asks_tables-clause-left : goal.returns-then-asks_tables-clause-left
returns-then-asks_tables-clause-left g c =
    left_by_told (superblock_of c.args.files.now) (state_with c.args.files.now.held c.args.stamps.now.entries c.args.service.now c.args.number) (state_with c.args.files.now.held c.args.stamps.now.entries c.dm.new.self (c.args.number + 1)) c.args.sid c.args.call.now
    c.in_ok-dm.field-0 (tables-both g c)
    (left_anywhere (superblock_of c.args.files.now) c.args.files.now.held (stamp_in c.args.stamps.now.entries) c.args.number c.args.service.now c.dm.new.self c.args.sid c.args.call.now (sym c.asks_tables.ensures ∙ c.if-asks_tables.true)
    c.in_ok-dm.ensures.served.left)

pub returns-then-asks_tables-clause-packed : goal.returns-then-asks_tables-clause-packed
returns-then-asks_tables-clause-packed g c = c.in_ok-dm.ensures.packed

pub returns-then-asks_rights-clause-packed : goal.returns-then-asks_rights-clause-packed
returns-then-asks_rights-clause-packed g c = unhanded c.args.service.now.sessions c.args.sid c.args.call.now c.in_ok-serve.field-0.0 (sym c.asks_tables.ensures ∙ c.if-asks_tables.false)

pub returns-in-Err-clause-packed : goal.returns-in-Err-clause-packed
returns-in-Err-clause-packed g c = unhanded c.args.service.now.sessions c.args.sid c.args.call.now c.refused.result.0 (sym c.asks_tables.ensures ∙ c.if-asks_tables.false)

pub returns-clause-packed : goal.returns-clause-packed
returns-clause-packed g c = all_unhanded c.args.service.now.sessions c.args.sid c.args.call.now c.perform.result (sym c.asks_tables.ensures ∙ c.if-asks_tables.false)

passed : (g : Over) (c : After-perform g)
    → first_refusal (scope_refusals (superblock_of c.args.files.now) (state_with c.args.files.now.held c.args.stamps.now.entries c.args.service.now c.args.number) c.args.sid (scope_of c.args.call.now)) ≡ None
passed g c =
    subst (λ (scope : Scope). first_refusal (scope_refusals (superblock_of c.args.files.now) (state_with c.args.files.now.held c.args.stamps.now.entries c.args.service.now c.args.number) c.args.sid scope) ≡ None)
    c.scope.ensures (c.in_default.ensures.judged c.args.stamps.now.entries c.args.number)

pub returns-clause-replies : goal.returns-clause-replies
returns-clause-replies g c =
    served_replies (Tells g.D.Disk c.perform.new.files.disk) (superblock_of c.args.files.now) c.args.files.now.held c.args.stamps.now.entries c.args.service.now c.args.number c.args.sid c.args.call.now c.perform.new.files.held c.perform.result
    (passed g (goal.at.returns-clause-replies g c).After-perform) (c.perform.ensures c.args.service.now).serves

pub returns-clause-left : goal.returns-clause-left
returns-clause-left g c =
    served_left (Tells g.D.Disk c.perform.new.files.disk) (superblock_of c.args.files.now) c.args.files.now.held c.args.stamps.now.entries c.args.service.now c.args.number c.args.sid c.args.call.now c.perform.new.files.held c.perform.result
    (sym c.asks_tables.ensures ∙ c.if-asks_tables.false) (sym c.asks_rights.ensures ∙ c.if-asks_rights.false) (c.perform.ensures c.args.service.now).serves

pub returns-clause-ends : goal.returns-clause-ends
returns-clause-ends g c = (c.perform.ensures c.args.service.now).ends

refuses : (g : Over) (c : After-refused g)
    → first_refusal (scope_refusals (superblock_of c.args.files.now) (state_with c.args.files.now.held c.args.stamps.now.entries c.args.service.now c.args.number) c.args.sid (scope_of c.args.call.now)) ≡ Some c.in-Err.why
refuses g c =
    subst (λ (scope : Scope). first_refusal (scope_refusals (superblock_of c.args.files.now) (state_with c.args.files.now.held c.args.stamps.now.entries c.args.service.now c.args.number) c.args.sid scope) ≡ Some c.in-Err.why)
    c.scope.ensures (c.in-Err.ensures.judged c.args.stamps.now.entries c.args.number)

refused-both : (g : Over) (c : After-refused g) → AreBoth (dm_reply_to (superblock_of c.args.files.now) (state_with c.args.files.now.held c.args.stamps.now.entries c.args.service.now c.args.number) c.args.sid c.args.call.now) c.refused.result
refused-both g c =
    subst (λ (reply : DmReply). AreBoth reply c.refused.result)
    (refused_reply (superblock_of c.args.files.now) (state_with c.args.files.now.held c.args.stamps.now.entries c.args.service.now c.args.number) c.args.sid c.args.call.now c.in-Err.why (refuses g c)) c.refused.ensures

pub returns-in-Err-clause-replies : goal.returns-in-Err-clause-replies
returns-in-Err-clause-replies g c = (c.args.files.now.held, held_seen c.args.files.now.held, refused-both g (goal.at.returns-in-Err-clause-replies g c).After-refused)

pub returns-in-Err-clause-left : goal.returns-in-Err-clause-left
returns-in-Err-clause-left g c =
    left_by_told (superblock_of c.args.files.now) (state_with c.args.files.now.held c.args.stamps.now.entries c.args.service.now c.args.number) (state_with c.args.files.now.held c.args.stamps.now.entries c.args.service.now (c.args.number + 1)) c.args.sid
    c.args.call.now c.refused.result (refused-both g (goal.at.returns-in-Err-clause-left g c).After-refused)
    (refused_left (superblock_of c.args.files.now) (state_with c.args.files.now.held c.args.stamps.now.entries c.args.service.now c.args.number) c.args.sid c.args.call.now c.in-Err.why
    (refuses g (goal.at.returns-in-Err-clause-left g c).After-refused))

granting : (g : Over) (c : goal.In_ok-serve g)
    → first_refusal (scope_refusals (superblock_of c.args.files.now) (state_with c.args.files.now.held c.args.stamps.now.entries c.args.service.now c.args.number) c.args.sid (scope_of c.args.call.now)) ≡ None
granting g c =
    subst (λ (scope : Scope). first_refusal (scope_refusals (superblock_of c.args.files.now) (state_with c.args.files.now.held c.args.stamps.now.entries c.args.service.now c.args.number) c.args.sid scope) ≡ None)
    c.scope.ensures (c.in_default.ensures.judged c.args.stamps.now.entries c.args.number)

granted-both : (g : Over) (c : goal.In_ok-serve g) → AreBoth (dm_reply_to (superblock_of c.args.files.now) (state_with c.args.files.now.held c.args.stamps.now.entries c.args.service.now c.args.number) c.args.sid c.args.call.now) c.in_ok-serve.field-0
granted-both g c =
    granted_reply (superblock_of c.args.files.now) c.args.files.now.held c.args.stamps.now.entries c.args.service.now c.serve.new.service c.args.number c.args.sid c.args.call.now (Ok c.in_ok-serve.field-0)
    (granting g c) (sym c.asks_rights.ensures ∙ c.if-asks_rights.true) c.in_ok-serve.ensures.granted

pub returns-then-asks_rights-clause-replies : goal.returns-then-asks_rights-clause-replies
returns-then-asks_rights-clause-replies g c = (c.args.files.now.held, held_seen c.args.files.now.held, granted-both g c)

pub returns-then-asks_rights-clause-left : goal.returns-then-asks_rights-clause-left
returns-then-asks_rights-clause-left g c =
    left_by_told (superblock_of c.args.files.now) (state_with c.args.files.now.held c.args.stamps.now.entries c.args.service.now c.args.number) (state_with c.args.files.now.held c.args.stamps.now.entries c.serve.new.service (c.args.number + 1)) c.args.sid
    c.args.call.now c.in_ok-serve.field-0 (granted-both g c)
    (granted_left (superblock_of c.args.files.now) c.args.files.now.held c.args.stamps.now.entries c.args.service.now c.serve.new.service c.args.number c.args.sid c.args.call.now (Ok c.in_ok-serve.field-0)
    (granting g c) (sym c.asks_rights.ensures ∙ c.if-asks_rights.true) c.in_ok-serve.ensures.granted)

pub returns-then-asks_rights-clause-room : goal.returns-then-asks_rights-clause-room
returns-then-asks_rights-clause-room g c =
    let same : awaited_in c.serve.new.service ≡ awaited_in c.args.service.now = ap awaited_in c.in_ok-serve.ensures.granted.left in
    let one = entry_alone c.args.service.now.sessions c.args.sid c.args.call.now (sym c.asks_tables.ensures ∙ c.if-asks_tables.false) in
    omega (arith, same, one)
