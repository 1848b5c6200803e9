use Rattle.std.proofs.Common.{ℕ, Some, Ok, refl, sym, ◌∙◌, ap, subst}
use Rattle.hsm_types.specs.declared.calls.Call.{Call}
use Rattle.hsm_types.specs.declared.calls.Reply.TheVariants.{Done, Data, Size}
use Rattle.plain_model.specs.Plain.{read_at}
use Rattle.plain_model.specs.State.{Held, bytes_of}
use Rattle.plain_model.specs.Verdict.{done_reply, done_held}
use Rattle.hsm_core.specs.Targets.{IsOn}
use Rattle.hsm_core.proofs.Replying.{every}
use Rattle.hsm_core.proofs.Seeing.{held_replies, seen_replies}
use Rattle.hsm_core.proofs.performing.perform.Goals as goal

pub returns-in-Read-clause-reply : goal.returns-in-Read-clause-reply
returns-in-Read-clause-reply g c =
    seen_replies _ c.read.result c.args.files.now.held (λ (seen : Held). Data (read_at c.in-Read.offset c.in-Read.len (bytes_of c.args.target.key seen.files))) (λ seen. done_reply seen c.args.target.key c.args.call.now)
    (λ seen alike. sym (ap (done_reply seen c.args.target.key) c.in-Read.is)) c.read.ensures.reply

pub returns-in-Read-clause-held : goal.returns-in-Read-clause-held
returns-in-Read-clause-held g c = every c.read.result (c.read.ensures.held ∙ sym (ap (done_held c.args.files.now.held c.args.target.key) c.in-Read.is))

pub returns-in-Read-clause-ends : goal.returns-in-Read-clause-ends
returns-in-Read-clause-ends g c = c.read.ensures.ends c.args.number

pub returns-in-Write-clause-reply : goal.returns-in-Write-clause-reply
returns-in-Write-clause-reply g c =
    held_replies _ c.write.result c.args.files.now.held (λ seen. done_reply seen c.args.target.key c.args.call.now) Done (sym (ap (done_reply c.args.files.now.held c.args.target.key) c.in-Write.is)) c.write.ensures.reply

pub returns-in-Truncate-clause-reply : goal.returns-in-Truncate-clause-reply
returns-in-Truncate-clause-reply g c =
    held_replies _ c.truncate.result c.args.files.now.held (λ seen. done_reply seen c.args.target.key c.args.call.now) Done (sym (ap (done_reply c.args.files.now.held c.args.target.key) c.in-Truncate.is)) c.truncate.ensures.reply

pub returns-in-Remove-clause-reply : goal.returns-in-Remove-clause-reply
returns-in-Remove-clause-reply g c =
    held_replies _ c.remove.result c.args.files.now.held (λ seen. done_reply seen c.args.target.key c.args.call.now) Done (sym (ap (done_reply c.args.files.now.held c.args.target.key) c.in-Remove.is)) c.remove.ensures.reply

pub returns-in-Stat-clause-reply : goal.returns-in-Stat-clause-reply
returns-in-Stat-clause-reply g c =
    let size = (subst (λ (call : Call). IsOn c.args.files.now.held.files c.args.target.key call (Some c.args.target)) c.in-Stat.is c.requires.target).size in
    held_replies _ (Ok (Size c.args.target.size, Size c.args.target.size)) c.args.files.now.held (λ seen. done_reply seen c.args.target.key c.args.call.now) (Size c.args.target.size)
    (ap (λ (n : ℕ). Size n) size ∙ sym (ap (done_reply c.args.files.now.held c.args.target.key) c.in-Stat.is)) (refl, refl)
