-- How a session's call is served that its scope doesn't refuse: by its service, and by its change.
use Rattle.std.specs.Prelude.{◌≡◌, ℕ, List, [], ◌∷◌, length, map, Bool, true, false, Option, Some, None, is_some, IsSome, Result, Ok, Err, IfOk, OnOk, OnErr}
use Rattle.disk_model.specs.Moments.{Tells}
use Rattle.disk_model.specs.declared.device.Disk as disk
use Rattle.hsm_types.specs.Rights.{Rights, right_of, too_low, bad_right}
use Rattle.hsm_types.specs.declared.keys.FileKey.{FileKey}
use Rattle.hsm_types.specs.declared.keys.Sid.{Sid}
use Rattle.hsm_types.specs.declared.stores.Superblock.{Superblock}
use Rattle.hsm_types.specs.declared.dm.Scope.{Scope}
use Rattle.hsm_types.specs.declared.dm.Scope.TheVariants.{OnFile, OnRight}
use Rattle.hsm_types.specs.Stubs.{Stubs, entry_place}
use Rattle.hsm_types.specs.declared.stubs.StubEntry.{StubEntry}
use Rattle.hsm_types.specs.declared.dm.DmCall.{DmCall}
use Rattle.hsm_types.specs.declared.dm.DmCall.TheVariants.{SetRegion, SetDmAttr, RemoveDmAttr, ReadInvis, WriteInvis, PunchHole, Seal, Restore}
use Rattle.hsm_types.specs.declared.dm.DmRefusal.{DmRefusal}
use Rattle.hsm_types.specs.declared.dm.DmReply.{DmReply}
use Rattle.hsm_types.specs.declared.dm.DmReply.TheVariants as reply
use Rattle.hsm_types.specs.Keyed.{find_key}
use Rattle.plain_model.specs.Effects.{Change, OfFile, OfRights, change_of}
use Rattle.plain_model.specs.Seen.{IsOfSeen}
use Rattle.plain_model.specs.Segments.{bad_volume, past_end, away}
use Rattle.plain_model.specs.State.{FileState, Held, nothing_held, affected_held, just_opened}
use Rattle.plain_model.specs.Services.{Service, service, bad_handle}
use Rattle.dm_service.specs.Services.{AreBoth, any_superblock}
use Rattle.dm_service.specs.Tables.{Tables}
use Rattle.snapshot_text.specs.declared.refusal.MetaRefusal.{MetaRefusal}
use Rattle.snapshot_text.specs.declared.refusal.MetaRefusal.TheVariants.{Part}
use Rattle.file_store.specs.Stores.{Store as FileStore, superblock_of}
use Rattle.file_store.specs.Changes.{Ends}
use Rattle.hsm_core.specs.Store.{state_with}

-- What a scope that doesn't refuse says of files: its file lives
abbrev pub IsInScope : List FileState → Scope → Type 0
IsInScope files (OnFile token handle right) = IsSome (find_key (λ f. f.key) handle.key files)
IsInScope files (OnRight token handle right) = IsSome (find_key (λ f. f.key) handle.key files)
IsInScope files scope = Unit {0}

-- and of rights: its token has the one that is needed
abbrev pub HasRight : Rights → Scope → Type 0
HasRight rights (OnRight token handle right) = too_low right (right_of token handle.key rights) ≡ None
HasRight rights scope = Unit {0}

-- what refuses a call by its file, and by the right that it needs there
abbrev pub file_refusals : Superblock → List FileState → Rights → Scope → List (Option DmRefusal)
file_refusals s files rights (OnFile token handle right) = bad_handle s files handle ∷ bad_right token handle.key right rights ∷ []
file_refusals s files rights (OnRight token handle right) = bad_handle s files handle ∷ too_low right (right_of token handle.key rights) ∷ []
file_refusals s files rights scope = []

-- ---- which calls these are

-- those by which bytes of segments go away and come back
abbrev pub moves_segments : DmCall → Bool
moves_segments (PunchHole token handle offset len) = true
moves_segments (Seal token handle segment entry) = true
moves_segments (Restore token handle segment bytes) = true
moves_segments call = false

-- those that change a file, or what is kept with it
abbrev pub changes_file : DmCall → Bool
changes_file (SetRegion token handle regions) = true
changes_file (SetDmAttr token handle name value) = true
changes_file (RemoveDmAttr token handle name) = true
changes_file (WriteInvis token handle offset body) = true
changes_file call = moves_segments call

-- the one that reads bytes of a file
abbrev pub reads_bytes : DmCall → Bool
reads_bytes (ReadInvis token handle offset len) = true
reads_bytes call = false

-- The file has so many bytes, its blocks lie at these places, and these are its stub entries.
pub record IsMadeOf (bytes : ℕ) (places : List (Option ℕ)) (entries : Stubs) (f : FileState) : Type 0 where
  pub size : length f.body ≡ bytes
  pub mapped : f.mapped ≡ map is_some places
  pub stubs : f.kept.stubs ≡ entries

-- ---- how it is served

-- what is held after a change that may have been refused
abbrev pub held_where : Change → Option DmRefusal → Held → Held
held_where (OfFile k effect) None h = record h { files = affected_held effect k h.files }
held_where change why h = h

-- what refuses a seal whatever the bytes of its segment, in the order of judgement
abbrev pub unread_refusals : FileState → ℕ → StubEntry → List (Option DmRefusal)
unread_refusals f j entry = past_end j (length f.body) ∷ bad_volume (entry_place entry).volume ∷ away f j ∷ []

-- what is told where that refuses
abbrev pub told_where : Option DmRefusal → DmReply → DmReply
told_where (Some why) r = reply.Refused why
told_where None r = r

-- both replies, for the session and for the history, are those of the service
abbrev pub AreOf : Service → DmReply × DmReply → Type 0
AreOf v r = AreBoth (told_where v.refusal v.reply) r

-- A session in the place of any: no service of files asks who calls
abbrev pub anybody : Sid
anybody = record { 0 = 0 }

-- what a call asks for by itself, whatever the number of the entry
abbrev pub asked : Superblock → Held → List (FileKey × ℕ) → Tables → Sid → DmCall → Service
asked s h stamps t sid call = service s (state_with h stamps t 0) sid call

-- the service of a call that asks of the files alone
abbrev pub service_over : Superblock → Held → DmCall → Service
service_over s h call = service s (record (just_opened 0 nothing_held) { held = h }) anybody call

abbrev pub service_on : {D : Type 0} → FileStore D → DmCall → Service
service_on f call = service_over (superblock_of f) f.held call

-- both replies are of this service, and its change was made where that doesn't refuse
pub record ServesBy (v : Service) (change : Change) (old new : Held) (r : DmReply × DmReply) : Type 0 where
  pub replies : AreOf v r
  pub held : new ≡ held_where change v.refusal old

-- A call on files that its scope doesn't refuse was served: it was answered by its service over what is seen of the files, and its change was made where
-- that doesn't refuse. The tables have no part in it.
pub record IsPerformed {D : Type 0} (g : disk.Ghosts D) (old : FileStore D) (n : ℕ) (stamps : List (FileKey × ℕ)) (t : Tables) (sid : Sid) (call : DmCall) (result : Result (DmReply × DmReply) MetaRefusal) (new : FileStore D) : Type 0 where
  pub serves : IfOk result (λ r. IsOfSeen (Tells g new.disk) old.held (λ seen. ServesBy (asked (superblock_of old) seen stamps t sid call) (change_of sid call) old.held new.held r))
  pub ends : Ends g old n None result new

-- The same of a call that asks of the files alone.
pub record IsServedByFiles {D : Type 0} (g : disk.Ghosts D) (old : FileStore D) (n : ℕ) (call : DmCall) (result : Result (DmReply × DmReply) MetaRefusal) (new : FileStore D) : Type 0 where
  pub serves : IfOk result (λ r. IsOfSeen (Tells g new.disk) old.held (λ seen. ServesBy (service_over (superblock_of old) seen call) (change_of anybody call) old.held new.held r))
  pub ends : Ends g old n None result new

-- the service of a call that asks of rights alone
abbrev pub service_with : Rights → DmCall → Service
service_with rights call = service any_superblock (record (just_opened 0 nothing_held) { rights = rights }) anybody call

-- what tokens hold after a change that may have been refused
abbrev pub rights_where : Change → Option DmRefusal → Rights → Rights
rights_where (OfRights to) None rights = to rights
rights_where change why rights = rights

-- A call on rights that its scope doesn't refuse was served, by the rights alone. For want of memory, where nothing refuses, they are left.
pub record IsGranted {E : Type 0} (t : Tables) (call : DmCall) (result : Result (DmReply × DmReply) E) (u : Tables) : Type 0 where
  pub replies : IfOk result (λ r. AreOf (service_with t.rights call) r)
  pub left : OnOk result (u ≡ record t { rights = rights_where (change_of anybody call) (service_with t.rights call).refusal t.rights })
  pub err : OnErr result (u ≡ t)

-- The replies to a change of what is kept with a file: that it is done, or why its part refuses it. Else it ends as the change has.
abbrev pub replies_to : {T : Type 0} → Result T MetaRefusal → Result (DmReply × DmReply) MetaRefusal
replies_to (Ok x) = Ok (reply.Done, reply.Done)
replies_to (Err (Part why)) = Ok (reply.Refused why, reply.Refused why)
replies_to (Err e) = Err e
