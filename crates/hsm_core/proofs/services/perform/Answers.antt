use Rattle.std.proofs.Common.{None, refl, sym, ◌∙◌, subst}
use Rattle.hsm_types.specs.Calls.{scope_of}
use Rattle.hsm_types.specs.declared.dm.DmCall.{DmCall}
use Rattle.file_store.proofs.Ended.{ends_done}
use Rattle.hsm_core.specs.Services.{IsInScope, IsPerformed}
use Rattle.hsm_core.proofs.Seeing.{held_seen}
use Rattle.hsm_core.proofs.Serving.{change_performed, read_performed, reads_apart, same_held}
use Rattle.hsm_core.proofs.services.perform.Goals as goal

pub returns-then-changes_file : goal.returns-then-changes_file
returns-then-changes_file g c t =
    change_performed g.D.Disk c.args.files.now c.change.new.files c.args.number c.args.stamps.now.entries t c.args.sid c.args.call.now c.change.result (sym c.changes_file.ensures ∙ c.if-changes_file.true) c.change.ensures

pub read-requires-clause-live : goal.read-requires-clause-live
read-requires-clause-live g c = subst (λ (call : DmCall). IsInScope c.args.files.now.held.files (scope_of call)) c.in-ReadInvis.is c.requires.within

pub tell-requires-clause-apart : goal.tell-requires-clause-apart
tell-requires-clause-apart g c = reads_apart c.args.call.now c.in_default.not-ReadInvis

pub returns-in-ReadInvis : goal.returns-in-ReadInvis
returns-in-ReadInvis g c t =
    subst (λ (call : DmCall). IsPerformed g.D.Disk c.args.files.now c.args.number c.args.stamps.now.entries t c.args.sid call c.read.result c.read.new.files) (sym c.in-ReadInvis.is)
    (read_performed g.D.Disk c.args.files.now c.read.new.files c.args.number c.args.stamps.now.entries t c.args.sid c.in-ReadInvis.token c.in-ReadInvis.handle c.in-ReadInvis.offset c.in-ReadInvis.len c.read.result (c.read.ensures c.args.number))

pub returns : goal.returns
returns g c t = record {
  serves = (
    c.args.files.now.held,
    held_seen c.args.files.now.held,
    record {
      replies = c.in_ok-tell.ensures t;
      held = same_held c.args.sid c.args.call.now _ c.args.files.now.held (sym c.changes_file.ensures ∙ c.if-changes_file.false);
    },
  );
  ends = ends_done g.D.Disk c.args.files.now c.args.files.now c.args.number None c.requires.idle c.in_ok-tell.field-0 refl c.requires.working refl;
}
