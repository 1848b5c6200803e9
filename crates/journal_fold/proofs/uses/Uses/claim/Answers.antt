use Rattle.std.proofs.lemmas.List.{with_items_is}
use Rattle.std.proofs.lemmas.Bool.{leb-true}
use Rattle.std.proofs.Common.{◌≡◌, ℕ, ◌+◌, List, length, true, false, sym, ◌∙◌, ap, arith}
use Rattle.std.specs.Vec.{with_items}
use Rattle.plain_model.specs.Blocks.{with_mapped}
use Rattle.snapshot_text.specs.declared.snapshot.Mapping.{Mapping}
use Rattle.snapshot_text.specs.FileValidity.{are_free, places_of}
use Rattle.journal_fold.specs.declared.uses.Uses.{Uses}
use Rattle.journal_fold.proofs.CountedFiles.{joined, not_free}
use Rattle.journal_fold.proofs.uses.Uses.claim.Goals as goal

pub returns-then-not-claim-clause-refused : goal.returns-then-not-claim-clause-refused
returns-then-not-claim-clause-refused c = λ _ fs is.
    let taken : are_free (places_of c.args.file.now.extents) c.args.self.now.flags.items ≡ false =
    sym (c.claim.ensures.free ∙ ap (λ (es : List Mapping). are_free (places_of es) c.deref_mut.result.now) c.extents.ensures ∙ ap (are_free (places_of c.args.file.now.extents)) c.deref_mut.ensures.value) ∙ c.if-not-claim.true in
    not_free c.args.geometry c.args.self.now c.args.self.now c.args.file.now fs is c.requires.within taken

pub returns-then-self-from-clause-joined : goal.returns-then-self-from-clause-joined
returns-then-self-from-clause-joined c = λ stubs_few fs is.
    let u = c.args.self.now in
    let ps = places_of c.args.file.now.extents in
    let free : are_free ps u.flags.items ≡ true =
    sym (c.claim.ensures.free ∙ ap (λ (es : List Mapping). are_free (places_of es) c.deref_mut.result.now) c.extents.ensures ∙ ap (are_free ps) c.deref_mut.ensures.value) ∙ c.if-not-claim.false in
    let items : (with_items u.flags c.claim.new.flags).items ≡ c.claim.new.flags = with_items_is u.flags c.claim.new.flags (omega (arith, c.claim.auto.flags, ap length c.deref_mut.ensures.value, u.flags.ok.0)) in
    let flags : (with_items u.flags c.claim.new.flags).items ≡ with_mapped ps u.flags.items =
    items ∙ c.if-not-claim.ensures.flags ∙ ap (λ (es : List Mapping). with_mapped (places_of es) c.deref_mut.result.now) c.extents.ensures ∙ ap (with_mapped ps) c.deref_mut.ensures.value in
    let v : Uses = record { flags = with_items u.flags c.claim.new.flags; attributes = u.attributes + c.attribute_bytes.result; stubs = u.stubs + c.stub_count.result } in
    joined c.args.geometry u v c.args.file.now fs is c.requires.within free flags (ap (λ (n : ℕ). u.attributes + n) c.attribute_bytes.ensures) (ap (λ (n : ℕ). u.stubs + n) c.stub_count.ensures)
    (omega (arith, c.if-self-from.true, c.from.ensures)) (omega (arith, leb-true (u.stubs + c.stub_count.result) c.from-then-self-from.result stubs_few, c.from-then-self-from.ensures))
