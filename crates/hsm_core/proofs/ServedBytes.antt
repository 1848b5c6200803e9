-- How services are answered that look at bytes of a file: an invisible read, and a seal.
use Rattle.std.proofs.Common.{◌≡◌, ℕ, List, [], ◌∷◌, Option, Some, None, refl, sym, ◌∙◌, ap, subst}
use Rattle.std.specs.Prelude.{Result, Ok, Err, IfOk, if◌then◌else◌}
use Rattle.std.specs.Result.{IsErrAnd}
use Rattle.std.proofs.lemmas.Result.{err_from_is_err_and}
use Rattle.disk_model.specs.Moments.{Tells}
use Rattle.disk_model.specs.declared.device.Disk as disk
use Rattle.hsm_types.specs.Messages.{no_token}
use Rattle.hsm_types.specs.Refusals.{first_refusal}
use Rattle.hsm_types.specs.Stubs.{print_of, entry_print, too_many_stubs}
use Rattle.hsm_types.specs.declared.keys.Handle.{Handle}
use Rattle.hsm_types.specs.declared.stores.Superblock.{Superblock}
use Rattle.hsm_types.specs.declared.stubs.Fingerprint.{Fingerprint}
use Rattle.hsm_types.specs.declared.stubs.StubEntry.{StubEntry}
use Rattle.hsm_types.specs.declared.dm.DmCall.{DmCall}
use Rattle.hsm_types.specs.declared.dm.DmCall.TheVariants.{ReadInvis, Seal}
use Rattle.hsm_types.specs.declared.dm.DmRefusal.{DmRefusal}
use Rattle.hsm_types.specs.declared.dm.DmRefusal.TheVariants.{Changed}
use Rattle.hsm_types.specs.declared.dm.DmReply.{DmReply}
use Rattle.hsm_types.specs.declared.dm.DmReply.TheVariants as reply
use Rattle.plain_model.specs.Effects.{Seals, change_of}
use Rattle.plain_model.specs.Plain.{read_at, segment}
use Rattle.plain_model.specs.Seen.{IsSeen, IsOfSeen}
use Rattle.plain_model.specs.Segments.{same_print, changed_bytes, reading_refusal, seal_refusal}
use Rattle.plain_model.specs.Services.{kept_of, other_stubs}
use Rattle.plain_model.specs.State.{Held, file_at, bytes_of}
use Rattle.snapshot_text.specs.Files.{geometry_of}
use Rattle.meta_store.specs.Meta.{Meta}
use Rattle.dm_service.specs.Services.{AreBoth}
use Rattle.snapshot_text.specs.declared.refusal.MetaRefusal.{MetaRefusal}
use Rattle.snapshot_text.specs.declared.refusal.MetaRefusal.TheVariants.{Memory}
use Rattle.file_store.specs.Changes.{Ends, Changes}
use Rattle.file_store.specs.Looks.{Looks}
use Rattle.file_store.specs.Stores.{Store as FileStore, superblock_of}
use Rattle.file_store.proofs.Durable.{proceeds_on}
use Rattle.file_store.proofs.Ended.{faults_on}
use Rattle.hsm_core.specs.Services.{anybody, service_over, told_where, held_where, service_on, unread_refusals, replies_to, ServesBy, IsServedByFiles}
use Rattle.hsm_core.proofs.Looking.{looked, look_lacked, look_failed}
use Rattle.hsm_core.proofs.Moved.{served, seal_left}
use Rattle.hsm_core.proofs.Refusing.{one_stops, stops}
use Rattle.hsm_core.proofs.Seeing.{weaker_seen}
use Rattle.hsm_core.proofs.SeenServices.{kept_seen, other_stubs_seen, reading_seen, seal_seen}

-- ---- what is done after a look

-- by which all is held as before
ends_on : {D S T : Type 0} (g : disk.Ghosts D) (old mid new : FileStore D) (n : ℕ) (x : S) (r : Result T MetaRefusal) → Ends g old n None (Ok x) mid → mid.held ≡ old.held → Ends g mid n None r new → Ends g old n None r new
ends_on g old mid new n x r before same is = record {
  judged = is.judged;
  refused = is.refused;
  unchanged = λ part e. absurd (let some = is.refused part e in cc);
  working = is.working;
  memory = λ e. ((is.memory e).0 ∙ same, (is.memory e).1);
  faults = faults_on g old mid new r (before.faults.counts.quiet (λ failed. cc)) is.faults;
  proceeds = proceeds_on g old mid new n before.proceeds same is.proceeds;
}

abbrev ServesOver : {D : Type 0} → disk.Ghosts D → FileStore D → DmCall → Result (DmReply × DmReply) MetaRefusal → Superblock → Held → Type 0
ServesOver g new call result s h = IfOk result (λ r. IsOfSeen (Tells g new.disk) h (λ seen. ServesBy (service_over s seen call) (change_of anybody call) h new.held r))

super_same : {D : Type 0} (a b : FileStore D) → a.meta ≡ b.meta → superblock_of a ≡ superblock_of b
super_same a b same = ap (λ (m : Meta). record { geometry = geometry_of m.durable.geometry; fsid = m.fsid }) same

served_on : {D S : Type 0} (g : disk.Ghosts D) (old mid new : FileStore D) (n : ℕ) (call : DmCall) (result : Result (DmReply × DmReply) MetaRefusal) (x : S) → Looks g old (Ok x) mid → IsServedByFiles g mid n call result new → IsServedByFiles g old n call result new
served_on g old mid new n call result x looks is = record {
  serves = subst (λ (s : Superblock). ServesOver g new call result s old.held) (super_same mid old looks.meta) (subst (λ (h : Held). ServesOver g new call result (superblock_of mid) h) looks.held is.serves);
  ends = ends_on g old mid new n x result (looks.ends n) looks.held is.ends;
}

no_reply : (P : MetaRefusal → Type 0) (Q : DmReply × DmReply → Type 0) (result : Result (DmReply × DmReply) MetaRefusal) → IsErrAnd result P → IfOk result Q
no_reply P Q result is = subst (λ (r : Result (DmReply × DmReply) MetaRefusal). IfOk r Q) (sym (err_from_is_err_and result is).1) tt

module _ {D S : Type 0} (g : disk.Ghosts D) (old new : FileStore D) (n : ℕ) (call : DmCall) (result : Result (DmReply × DmReply) MetaRefusal) where
  -- the look has failed, so nothing is answered
  pub failed_served : (why : MetaRefusal) → Looks {T = S} g old (Err why) new → IsErrAnd result (λ e. e ≡ why) → IsServedByFiles g old n call result new
  failed_served why looks is = record { serves = no_reply _ _ result is; ends = look_failed g old new why result looks is n }

  -- there is no memory to answer
  pub lacked_served : (x : S) → Looks g old (Ok x) new → IsErrAnd result (λ e. e ≡ Memory) → IsServedByFiles g old n call result new
  lacked_served x looks is = record { serves = no_reply _ _ result is; ends = look_lacked g old new x result looks is n }

-- ---- an invisible read

module _ {D : Type 0} (g : disk.Ghosts D) (old : FileStore D) (handle : Handle) (offset len : ℕ) where
  abbrev Read : DmCall
  Read = ReadInvis no_token handle offset len

  -- the bytes that were seen are told
  pub read_told : (new : FileStore D) (n : ℕ) (bytes : List ℕ) (r : DmReply × DmReply) → reading_refusal (file_at handle.key old.held.files) offset len ≡ None
      → IsOfSeen (Tells g new.disk) old.held (λ seen. bytes ≡ read_at offset len (bytes_of handle.key seen.files)) → Looks g old (Ok bytes) new → AreBoth (reply.Data bytes) r → IsServedByFiles g old n Read (Ok r) new
  read_told new n bytes r none shown looks both =
      let seen : Held = shown.0 in
      let passes = reading_seen old.held seen shown.1 handle.key offset len ∙ none in
      let told : told_where (service_over (superblock_of old) seen Read).refusal (service_over (superblock_of old) seen Read).reply ≡ reply.Data bytes = ap (λ why. told_where why (reply.Data (read_at offset len (bytes_of handle.key seen.files)))) passes ∙ ap (λ (bytes : List ℕ). reply.Data bytes) (sym shown.2) in
      record {
        serves = (seen, shown.1, record { replies = subst (λ (x : DmReply). AreBoth x r) (sym told) both; held = looks.held });
        ends = looked g old new bytes r looks n;
      }

-- ---- a seal

abbrev other_print : Fingerprint → Fingerprint → Option DmRefusal
other_print want got = if same_print want got then None else Some (Changed want got)

module _ {D : Type 0} (g : disk.Ghosts D) (old : FileStore D) (n : ℕ) (handle : Handle) (j : ℕ) (entry : StubEntry) where
  abbrev Sealing : DmCall
  Sealing = Seal no_token handle j entry

  abbrev many_in : Superblock → Held → Option DmRefusal
  many_in s h = too_many_stubs j (other_stubs handle.key h.files) s.geometry.stubs (kept_of handle.key h.files).stubs

  abbrev refusal_in : Held → Option DmRefusal
  refusal_in h = seal_refusal (file_at handle.key h.files) j entry

  -- it is refused whatever the bytes
  pub seal_unread : (why : DmRefusal) → first_refusal (unread_refusals (file_at handle.key old.held.files) j entry) ≡ Some why → (service_on old Sealing).refusal ≡ Some why
  seal_unread why refuses =
      stops (refusal_in old.held) (many_in (superblock_of old) old.held ∷ []) why
      (one_stops (unread_refusals (file_at handle.key old.held.files) j entry) (changed_bytes (entry_print entry) (segment j (bytes_of handle.key old.held.files)) ∷ []) why refuses)

  module _ (mid : FileStore D) (got : Fingerprint) (passes : first_refusal (unread_refusals (file_at handle.key old.held.files) j entry) ≡ None)
      (shown : IsOfSeen (Tells g mid.disk) old.held (λ seen. got ≡ print_of (segment j (bytes_of handle.key seen.files)))) (looks : Looks g old (Ok got) mid) where
    -- the bytes that were seen decide
    by_bytes : IsOfSeen (Tells g mid.disk) old.held (λ seen. refusal_in seen ≡ other_print (entry_print entry) got)
    by_bytes =
        (shown.0, shown.1, seal_seen old.held shown.0 shown.1 handle.key j entry passes ∙ ap (other_print (entry_print entry)) (sym shown.2))

    -- they aren't those of the entry
    pub seal_changed : (why : DmRefusal) (r : DmReply × DmReply) → other_print (entry_print entry) got ≡ Some why → AreBoth (reply.Refused why) r → IsServedByFiles g old n Sealing (Ok r) mid
    seal_changed why r refuses both =
        let all = stops (refusal_in by_bytes.0) (many_in (superblock_of old) by_bytes.0 ∷ []) why (by_bytes.2 ∙ refuses) in
        record {
          serves = (
            by_bytes.0,
            by_bytes.1,
            record {
              replies = subst (λ (x : DmReply). AreBoth x r) (sym (ap (λ why. told_where why reply.Done) all)) both;
              held = looks.held ∙ (λ i. held_where (change_of anybody Sealing) (sym all i) old.held);
            },
          );
          ends = looked g old mid got r looks n;
        }

    -- they are
    pub seal_served : (new : FileStore D) (ended : Result Unit MetaRefusal) (result : Result (DmReply × DmReply) MetaRefusal) → other_print (entry_print entry) got ≡ None
        → Changes g mid n handle.key (Seals j entry) (many_in (superblock_of mid) mid.held) ended new → result ≡ replies_to ended → IsServedByFiles g old n Sealing result new
    seal_served new ended result none changed told =
        let seen : Held = by_bytes.0 in
        let is_seen : IsSeen (Tells g new.disk) mid.held seen = subst (λ (h : Held). IsSeen (Tells g new.disk) h seen) (sym looks.held) (weaker_seen changed.ends.proceeds.moments.tells old.held seen by_bytes.1) in
        let own : many_in (superblock_of mid) mid.held ≡ many_in (superblock_of mid) seen = (λ i. too_many_stubs j (sym (other_stubs_seen mid.held seen is_seen handle.key) i) (superblock_of mid).geometry.stubs (sym (kept_seen mid.held seen is_seen handle.key) i).stubs) in
        served_on g old mid new n Sealing result got looks
        (subst (λ r. IsServedByFiles g mid n Sealing r new) (sym told)
        (served g mid new n Sealing handle.key (Seals j entry) (many_in (superblock_of mid) mid.held) ended seen is_seen changed
        (own ∙ sym (seal_left (file_at handle.key seen.files) j entry (many_in (superblock_of mid) seen) (by_bytes.2 ∙ none))) refl refl (looks.ends n).working))
