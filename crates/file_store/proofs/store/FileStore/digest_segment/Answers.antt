use Rattle.file_store.proofs.Names.{◌∙◌, ap}
use Rattle.hsm_types.specs.Stubs.{print_of}
use Rattle.plain_model.specs.Plain.{segment}
use Rattle.file_store.proofs.Looked.{all_seen, unread, looks_done}
use Rattle.file_store.proofs.store.FileStore.digest_segment.Goals as goal

pub returns : goal.returns
returns g c = record {
  print = all_seen (c.of.ensures ∙ ap print_of ((rw c.unwrap.ensures at c.segment.ensures.bytes) ∙ ap (segment c.args.segment) c.body.ensures.bytes));
  looks = looks_done (unread g.D.Disk c.args.self.now.disk (g.met.D.Disk.only_now c.args.self.now.disk)) c.has_failed-failed.ensures.idle c.requires.working c.of.result;
}
