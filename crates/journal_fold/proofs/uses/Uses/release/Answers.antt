use Rattle.std.proofs.lemmas.List.{with_items_is}
use Rattle.std.proofs.Common.{◌≡◌, ◌-◌, List, length, ◌∙◌, ap, arith}
use Rattle.std.specs.Vec.{with_items}
use Rattle.snapshot_text.specs.declared.snapshot.Mapping.{Mapping}
use Rattle.snapshot_text.specs.FileValidity.{places_of}
use Rattle.journal_fold.specs.declared.uses.Uses.{Uses}
use Rattle.journal_fold.specs.Counted.{with_free}
use Rattle.journal_fold.proofs.CountedFiles.{left}
use Rattle.journal_fold.proofs.uses.Uses.release.Goals as goal

pub returns : goal.returns
returns c = λ geometry fs is.
    let u = c.args.self.now in
    let ps = places_of c.args.file.now.extents in
    let items : (with_items u.flags c.release.new.flags).items ≡ c.release.new.flags = with_items_is u.flags c.release.new.flags (omega (arith, c.release.auto.flags, ap length c.deref_mut.ensures.value, u.flags.ok.0)) in
    let flags : (with_items u.flags c.release.new.flags).items ≡ with_free ps u.flags.items =
    items ∙ c.release.ensures ∙ ap (λ (es : List Mapping). with_free (places_of es) c.deref_mut.result.now) c.extents.ensures ∙ ap (with_free ps) c.deref_mut.ensures.value in
    let v : Uses = record { flags = with_items u.flags c.release.new.flags; attributes = u.attributes - c.attribute_bytes.result; stubs = u.stubs - c.stub_count.result } in
    left geometry u v c.args.file.now fs is flags (omega (arith, c.attribute_bytes.ensures, c.requires.attributes)) (omega (arith, c.stub_count.ensures, c.requires.stubs))
