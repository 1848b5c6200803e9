use Rattle.hsm_types.specs.declared.dm.DmCall.TheVariants.{ReadInvis}
use Rattle.hsm_types.specs.Messages.{no_token}
use Rattle.hsm_core.proofs.ServedBytes.{failed_served, lacked_served, read_told}
use Rattle.hsm_core.proofs.Moved.{refused_served}
use Rattle.hsm_core.proofs.services.invisible.read.Goals as goal

pub returns-in-Err : goal.returns-in-Err
returns-in-Err g c n = refused_served c.in-Err.why c.in-Err.ensures c.requires.working (c.has_failed-failed.ensures.idle c.requires.working n) c.refused.ensures

pub returns-in_err-bytes : goal.returns-in_err-bytes
returns-in_err-bytes g c n =
    failed_served g.D.Disk c.args.files.now c.read.new.self n (ReadInvis no_token c.args.handle c.args.offset c.args.len) c.from_residual.result c.in_err-bytes.field-0.0 c.in_err-bytes.ensures.looks c.from_residual.ensures.1

pub returns-in_err-twice : goal.returns-in_err-twice
returns-in_err-twice g c n =
    lacked_served g.D.Disk c.args.files.now c.read.new.self n (ReadInvis no_token c.args.handle c.args.offset c.args.len) c.from_residual-in_err-twice.result c.in_ok-bytes.bytes c.in_ok-bytes.ensures.looks c.from_residual-in_err-twice.ensures.1

pub returns : goal.returns
returns g c n =
    read_told g.D.Disk c.args.files.now c.args.handle c.args.offset c.args.len c.read.new.self n c.in_ok-bytes.bytes c.in_ok-twice.field-0 c.in_default.ensures c.in_ok-bytes.ensures.bytes c.in_ok-bytes.ensures.looks c.in_ok-twice.ensures
