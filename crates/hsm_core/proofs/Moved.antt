-- How calls that change a file's segments are served.
use Rattle.std.proofs.Common.{◌≡◌, ℕ, min, List, [], ◌∷◌, length, Bool, true, false, Option, Some, None, refl, sym, ◌∙◌, ap, subst, arith}
use Rattle.std.proofs.lemmas.Bool.{eqb-true}
use Rattle.std.proofs.lemmas.Slice.Eq.{bytes_eq-Decides}
use Rattle.std.specs.Prelude.{◌&&◌, ◌==◌, Result, Ok, Err, IfSome, if◌then◌else◌}
use Rattle.std.specs.List.{AllByRecursion}
use Rattle.std.specs.Str.{bytes_eq}
use Rattle.disk_model.specs.Moments.{Tells}
use Rattle.disk_model.specs.declared.device.Disk as disk
use Rattle.hsm_types.specs.Refusals.{first_refusal}
use Rattle.hsm_types.specs.Segments.{segment_len, segments_in}
use Rattle.hsm_types.specs.Stubs.{FitsFile, print_of, stub_at, any_unpunched, entry_print}
use Rattle.hsm_types.specs.declared.keys.FileKey.{FileKey}
use Rattle.hsm_types.specs.declared.stores.Limits.{Limits}
use Rattle.hsm_types.specs.declared.stubs.Fingerprint.{Fingerprint}
use Rattle.hsm_types.specs.declared.stubs.Stub.{Stub}
use Rattle.hsm_types.specs.declared.stubs.StubEntry.{StubEntry}
use Rattle.hsm_types.specs.declared.dm.DmCall.{DmCall}
use Rattle.hsm_types.specs.declared.dm.DmRefusal.{DmRefusal}
use Rattle.hsm_types.specs.declared.dm.DmReply.{DmReply}
use Rattle.hsm_types.specs.declared.dm.DmReply.TheVariants as reply
use Rattle.plain_model.specs.Effects.{Effect, Change, Nothing, OfFile, OfSessions, OfRights, Closes, change_of, punch_from, punch_to}
use Rattle.hsm_types.specs.Keyed.{find_key}
use Rattle.plain_model.specs.Segments.{bad_punch, same_print, punch_refusal, seal_refusal}
use Rattle.plain_model.specs.Seen.{IsSeen}
use Rattle.plain_model.specs.Services.{kept_of}
use Rattle.plain_model.specs.State.{FileState, Held, file_or_new, bytes_of}
use Rattle.snapshot_text.proofs.StubLists.{each-at}
use Rattle.stub_map.specs.States.{state_of}
use Rattle.stub_map.specs.declared.stubs.State.TheVariants.{Sealed, Offline as Away}
use Rattle.dm_service.specs.Services.{AreBoth}
use Rattle.snapshot_text.specs.declared.refusal.MetaRefusal.{MetaRefusal}
use Rattle.snapshot_text.specs.declared.refusal.MetaRefusal.TheVariants.{Part, Disk, Memory}
use Rattle.file_store.specs.Changes.{Changes}
use Rattle.file_store.specs.Stores.{Store as FileStore, superblock_of, IsLawful, IsStubbed, Proceeds}
use Rattle.file_store.proofs.Ended.{ends_done, ends_err}
use Rattle.hsm_core.specs.Services.{anybody, service_over, service_on, told_where, held_where, replies_to, IsServedByFiles}
use Rattle.hsm_core.proofs.Refusing.{passes, alone}
use Rattle.hsm_core.proofs.Seeing.{held_seen}

-- ---- fingerprints

pub print_itself : (a b : Fingerprint) → a ≡ b → same_print a b ≡ true
print_itself a b same = subst (λ (x : Fingerprint). same_print a x ≡ true) same (rw ((bytes_eq-Decides a.digest.0 a.digest.0).1 refl) (by a.len))
  where
    by : (n : ℕ) → ((n == n) && true) ≡ true
    by n = grind arith

same_if : (a b : Fingerprint) (len digest : Bool) → (a.len == b.len) ≡ len → bytes_eq a.digest.0 b.digest.0 ≡ digest → (a ≡ b → ⊥) → (len && digest) ≡ false
same_if a b true true len digest apart =
    let lens : a.len ≡ b.len = eqb-true a.len b.len len in
    let digests : a.digest.0 ≡ b.digest.0 = (bytes_eq-Decides a.digest.0 b.digest.0).0 digest in
    absurd (apart (λ i. record { len = lens i; digest = record { 0 = digests i } }))
same_if a b true false len digest apart = refl
same_if a b false digest len is apart = refl

pub print_apart : (a b : Fingerprint) → (a ≡ b → ⊥) → same_print a b ≡ false
print_apart a b apart = same_if a b (a.len == b.len) (bytes_eq a.digest.0 b.digest.0) refl refl apart

-- ---- the bytes of a segment that comes back

each_held : (P : FileState → Type 0) (k : FileKey) (f : FileState) (fs : List FileState) → AllByRecursion P fs → find_key (λ x. x.key) k fs ≡ Some f → P f
each_held P k f [] each found = cc
each_held P k f (x ∷ fs) each found = grind (arith, each.0, each_held P k f fs each.1)

stubbed_file : (k : FileKey) (fs : List FileState) (j : ℕ) (stub : Stub) (found : Option FileState) → find_key (λ x. x.key) k fs ≡ found → AllByRecursion IsStubbed fs → stub_at j (file_or_new k found).kept.stubs ≡ Some stub
    → FitsFile (length (file_or_new k found).body) (file_or_new k found).kept.regions (j, stub)
stubbed_file k fs j stub None is each at = absurd cc
stubbed_file k fs j stub (Some f) is each at = each-at (FitsFile (length f.body) f.kept.regions) f.kept.stubs j stub (each_held IsStubbed k f fs each is).each at

-- an entry has the length of its segment
pub entry_len : (limit : ℕ) (h : Held) (k : FileKey) (j : ℕ) → IsLawful limit h → IfSome (stub_at j (kept_of k h.files).stubs) (λ stub. (entry_print stub.entry).len ≡ segment_len (length (bytes_of k h.files)) j)
entry_len limit h k j lawful = by (stub_at j (kept_of k h.files).stubs) refl
  where
    by : (o : Option Stub) → stub_at j (kept_of k h.files).stubs ≡ o → IfSome o (λ stub. (entry_print stub.entry).len ≡ segment_len (length (bytes_of k h.files)) j)
    by None at = tt
    by (Some stub) at = (stubbed_file k h.files j stub (find_key (λ x. x.key) k h.files) refl lawful.stubs at).len

-- so have the bytes that come back
pub restored_len : (stub : Option Stub) (entry : StubEntry) (bytes : List ℕ) (n : ℕ) → state_of stub ≡ Away entry → IfSome stub (λ stub. (entry_print stub.entry).len ≡ n) → entry_print entry ≡ print_of bytes → length bytes ≡ n
restored_len None entry bytes n is len print = absurd cc
restored_len (Some x) entry bytes n is len print = by x.offline is
  where
    by : (b : Bool) → (if b then Away x.entry else Sealed x.entry) ≡ Away entry → length bytes ≡ n
    by true is = let same : x.entry ≡ entry = cc in ap (λ (p : Fingerprint). p.len) (sym print) ∙ ap (λ (e : StubEntry). (entry_print e).len) (sym same) ∙ len
    by false is = absurd cc

-- ---- the answer to a change of a file

-- it is the answer of the service over what is seen of the files
pub served : {D : Type 0} (g : disk.Ghosts D) (old new : FileStore D) (n : ℕ) (call : DmCall) (k : FileKey) (effect : Effect) (own : Option DmRefusal) (ended : Result Unit MetaRefusal) (seen : Held) → IsSeen (Tells g new.disk) old.held seen → Changes g old n k effect own ended new
    → own ≡ (service_over (superblock_of old) seen call).refusal → change_of anybody call ≡ OfFile k effect → (service_over (superblock_of old) seen call).reply ≡ reply.Done → old.failed ≡ false → IsServedByFiles g old n call (replies_to ended) new
served g old new n call k effect own (Ok x) seen is_seen is own_is changes is_done works =
    let none = sym own_is ∙ is.ends.judged in
    let told = sym (ap (λ why. told_where why (service_over (superblock_of old) seen call).reply) none ∙ is_done) in
    record {
      serves = (seen, is_seen, record { replies = (told, told); held = is.held ∙ (λ i. held_where (sym changes i) (sym none i) old.held) });
      ends = ends_done g old new n None is.ends.proceeds _ refl is.ends.working (is.ends.faults.counts.quiet (λ e. cc));
    }
served g old new n call k effect own (Err (Part why)) seen is_seen is own_is changes is_done works =
    let some = sym own_is ∙ is.ends.refused why refl in
    let told = sym (ap (λ why. told_where why (service_over (superblock_of old) seen call).reply) some) in
    let same = is.ends.unchanged why refl in
    record {
      serves = (seen, is_seen, record { replies = (told, told); held = ap (λ f. f.held) same ∙ (λ i. held_where (sym changes i) (sym some i) old.held) });
      ends = ends_done g old new n None is.ends.proceeds _ refl (ap (λ f. f.failed) same ∙ works) (ap (λ f. g.fault_count f.disk) same);
    }
served g old new n call k effect own (Err Memory) seen is_seen is own_is changes is_done works = record { serves = tt; ends = ends_err g old new n own (Err Memory) Memory refl (λ part e. cc) is.ends }
served g old new n call k effect own (Err Disk) seen is_seen is own_is changes is_done works = record { serves = tt; ends = ends_err g old new n own (Err Disk) Disk refl (λ part e. cc) is.ends }

-- the change is done, or its part refuses as the service does, or it fails
pub change_served : {D : Type 0} {g : disk.Ghosts D} {old new : FileStore D} {n : ℕ} {call : DmCall} {k : FileKey} {effect : Effect} {own : Option DmRefusal} {ended : Result Unit MetaRefusal} {result : Result (DmReply × DmReply) MetaRefusal} → Changes g old n k effect own ended new
    → own ≡ (service_on old call).refusal → change_of anybody call ≡ OfFile k effect → (service_on old call).reply ≡ reply.Done → old.failed ≡ false → result ≡ replies_to ended → IsServedByFiles g old n call result new
change_served {D} {g} {old} {new} {n} {call} is own changes is_done works told = subst (λ r. IsServedByFiles g old n call r new) (sym told) (served g old new n call _ _ _ _ old.held (held_seen old.held) is own changes is_done works)

refused_held : (change : Change) (why : DmRefusal) (h : Held) → h ≡ held_where change (Some why) h
refused_held Nothing why h = refl
refused_held (OfFile k effect) why h = refl
refused_held (OfSessions to) why h = refl
refused_held (OfRights to) why h = refl
refused_held (Closes owner token) why h = refl

-- a call that is refused before anything of it is done
pub refused_served : {D : Type 0} {g : disk.Ghosts D} {old : FileStore D} {n : ℕ} {call : DmCall} {r : DmReply × DmReply} (why : DmRefusal) → (service_on old call).refusal ≡ Some why → old.failed ≡ false → Proceeds g old n old → AreBoth (reply.Refused why) r → IsServedByFiles g old n call (Ok r) old
refused_served {D} {g} {old} {n} {call} {r} why refuses works idle both = record {
  serves = (
    old.held,
    held_seen old.held,
    record {
      replies = subst (λ (x : DmReply). AreBoth x r) (sym (ap (λ why. told_where why (service_on old call).reply) refuses)) both;
      held = refused_held (change_of anybody call) why old.held ∙ (λ i. held_where (change_of anybody call) (sym refuses i) old.held);
    },
  );
  ends = ends_done g old old n None idle r refl works refl;
}

-- ---- what is left to its part

pub punch_left : (limits : Limits) (f : FileState) (offset len : ℕ) → bad_punch limits offset len (length f.body) ≡ None
    → punch_refusal limits f offset len ≡ any_unpunched f.kept.regions f.kept.stubs (punch_from offset) (min (punch_to offset len) (segments_in (length f.body)))
punch_left limits f offset len none =
    let own : Option DmRefusal = any_unpunched f.kept.regions f.kept.stubs (punch_from offset) (min (punch_to offset len) (segments_in (length f.body))) in
    passes (bad_punch limits offset len (length f.body)) (own ∷ []) none ∙ alone own

pub seal_left : (f : FileState) (j : ℕ) (entry : StubEntry) (many : Option DmRefusal) → seal_refusal f j entry ≡ None → first_refusal (seal_refusal f j entry ∷ many ∷ []) ≡ many
seal_left f j entry many none = passes (seal_refusal f j entry) (many ∷ []) none ∙ alone many
