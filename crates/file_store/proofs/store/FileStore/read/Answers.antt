use Rattle.file_store.proofs.Names.{◌∙◌, ap}
use Rattle.plain_model.specs.Plain.{read_at}
use Rattle.file_store.proofs.Looked.{all_seen, unread, looks_done, looks_lacking}
use Rattle.file_store.proofs.store.FileStore.read.Goals as goal

pub returns : goal.returns
returns g c = record {
  bytes = all_seen (c.in_ok-read.ensures ∙ ap (read_at c.args.offset c.args.len) c.body.ensures.bytes);
  looks = looks_done (unread g.D.Disk c.args.self.now.disk (g.met.D.Disk.only_now c.args.self.now.disk)) c.has_failed-failed.ensures.idle c.requires.working c.in_ok-read.field-0;
}

pub returns-in_err-read-clause-looks : goal.returns-in_err-read-clause-looks
returns-in_err-read-clause-looks g c =
    looks_lacking (unread g.D.Disk c.args.self.now.disk (g.met.D.Disk.only_now c.args.self.now.disk)) c.has_failed-failed.ensures.idle c.requires.working c.from_residual.result c.from_residual.ensures.1
