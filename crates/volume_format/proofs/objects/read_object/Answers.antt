use Rattle.std.proofs.Common.{refl, sym, ap, ◌∙◌, arith}
use Rattle.sha2.specs.Sha256.{sha256}
use Rattle.hsm_types.specs.declared.stubs.Fingerprint.{Fingerprint}
use Rattle.volume_format.proofs.ReadObjects.{all_well, behind_frame, long_enough, object_taken}
use Rattle.volume_format.proofs.objects.read_object.Goals as goal

pub says_digest-requires-clause-digest : goal.says_digest-requires-clause-digest
says_digest-requires-clause-digest c = ap (λ (f : Fingerprint). f.digest.0) c.of.ensures ∙ ap sha256 (behind_frame c.args.buf.now _ refl)

pub returns-clause-object : goal.returns-clause-object
returns-clause-object c =
    let buf = c.args.buf.now in
    let begins = sym c.if-not-begins_well.ensures in
    let none = all_well buf begins (sym c.if-not-says_length.ensures) (sym c.if-not-says_digest.ensures) in
    object_taken buf (λ i. omega (arith, c.type_inv.buf i)) none _ c.from_slice.ensures.numbers c.from_slice.ensures.bytes _ _ _ c.read_u32.ensures
    (omega (arith, long_enough buf begins)) refl
