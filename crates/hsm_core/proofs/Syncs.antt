-- A done call that syncs is a sync, and what was answered for a fault syncs nothing.
use Rattle.std.proofs.Common.{◌≡◌, true, false, refl, sym, ◌∙◌, ap}
use Rattle.std.specs.Prelude.{Result, Ok, Err, IfOk, OnOk}
use Rattle.hsm_types.specs.declared.calls.Call.{Call}
use Rattle.hsm_types.specs.declared.calls.Call.TheVariants.{Create, Read, Write, Truncate, Remove, Stat, Sync}
use Rattle.hsm_types.specs.declared.calls.CallRefusal.{CallRefusal}
use Rattle.hsm_types.specs.declared.calls.CallRefusal.TheVariants.{Disk}
use Rattle.hsm_types.specs.declared.calls.Reply.{Reply}
use Rattle.hsm_types.specs.declared.calls.Reply.TheVariants.{Refused}
use Rattle.plain_model.specs.declared.entries.Action.{Action}
use Rattle.plain_model.specs.declared.entries.Action.TheVariants.{Issue, Resume, Dm, Commit}
use Rattle.plain_model.specs.declared.entries.Answer.TheVariants.{Call as Replied}
use Rattle.plain_model.specs.Faults.{fault_of}
use Rattle.plain_model.specs.Synced.{syncs}

refused_no_sync : (call : Call) (why : CallRefusal) → syncs (Issue call) (Replied (Refused why)) ≡ false
refused_no_sync Sync why = refl
refused_no_sync call why = refl

-- what is refused syncs nothing
pub never_synced : {P : Type 0} (call : Call) (why : CallRefusal) (reply : Reply) → reply ≡ Refused why → syncs (Issue call) (Replied reply) ≡ true → P
never_synced call why reply is done = absurd (let wrong : false ≡ true = sym (refused_no_sync call why) ∙ ap (λ (r : Reply). syncs (Issue call) (Replied r)) (sym is) ∙ done in cc wrong)

-- a call that syncs is a sync
only_sync : (call : Call) (reply : Reply) → syncs (Issue call) (Replied reply) ≡ true → call ≡ Sync
only_sync Sync reply is = refl
only_sync (Create name) reply is = absurd cc
only_sync (Read name offset len) reply is = absurd cc
only_sync (Write name offset bytes) reply is = absurd cc
only_sync (Truncate name size) reply is = absurd cc
only_sync (Remove name) reply is = absurd cc
only_sync (Stat name) reply is = absurd cc

pub where_synced : {E : Type 0} (P : Type 0) (call : Call) (r : Result (Reply × Reply) E) → (call ≡ Sync → OnOk r P) → IfOk r (λ z. syncs (Issue call) (Replied z.0) ≡ true → P)
where_synced P call (Ok z) done = λ is. done (only_sync call z.0 is)
where_synced P call (Err e) done = tt

pub fault_no_sync : (action : Action) → syncs action (fault_of action) ≡ false
fault_no_sync (Issue call) = refused_no_sync call Disk
fault_no_sync Resume = refl
fault_no_sync (Dm call) = refl
fault_no_sync Commit = refl
