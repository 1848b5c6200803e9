-- The text of a history: a line for each event, its words with a space between each two.
use Rattle.std.specs.Prelude.{ℕ, List, [], ◌∷◌, ◌++◌, length, map, codes, Bool, true, false, ◌==◌, nat_le, if◌then◌else◌}
use Rattle.std.specs.List.{flat_map, join_with_byte}
use Rattle.std.specs.Fmt.{decimal}
use Rattle.hex.specs.Hex.{encode_lower}
use Rattle.sha2.specs.Sha256.{sha256}
use Rattle.hsm_types.specs.declared.calls.Call.{Call}
use Rattle.hsm_types.specs.declared.calls.CallRefusal.{CallRefusal}
use Rattle.hsm_types.specs.declared.calls.CallRefusal.TheVariants.{Missing, Exists, BadName, TooBig, BadLength, NoInodes, NoSpace, Aborted}
use Rattle.hsm_types.specs.declared.calls.CallRefusal.TheVariants.{Media as Faulted, Disk, Memory, Waiting, Idle}
use Rattle.hsm_types.specs.declared.calls.Reply.{Reply}
use Rattle.hsm_types.specs.declared.calls.Reply.TheVariants.{Done, Made, Data, Size, Parked, Blocked, Still, Refused}
use Rattle.hsm_types.specs.declared.dm.DmCall.{DmCall}
use Rattle.hsm_types.specs.declared.dm.Kinds.{Kinds}
use Rattle.hsm_types.specs.declared.dm.Response.{Response}
use Rattle.hsm_types.specs.declared.dm.Response.TheVariants.{Continue, Abort, Media}
use Rattle.hsm_types.specs.declared.dm.Right.{Right}
use Rattle.hsm_types.specs.declared.dm.Right.TheVariants.{Null, Shared, Excl}
use Rattle.hsm_types.specs.declared.dm.DmRefusal.{DmRefusal}
use Rattle.hsm_types.specs.declared.dm.DmRefusal.TheVariants as why
use Rattle.hsm_types.specs.declared.dm.DmReply.{DmReply}
use Rattle.hsm_types.specs.declared.dm.DmReply.TheVariants as told
use Rattle.hsm_types.specs.declared.attributes.AttrName.{AttrName}
use Rattle.hsm_types.specs.declared.media.Fault.{Fault}
use Rattle.hsm_types.specs.declared.media.Fault.TheVariants.{Failed, Damaged}
use Rattle.hsm_types.specs.declared.regions.Region.{Region}
use Rattle.hsm_types.specs.declared.keys.Handle.{Handle}
use Rattle.hsm_types.specs.declared.stubs.Fingerprint.{Fingerprint}
use Rattle.hsm_types.specs.declared.stubs.Segment.{Segment}
use Rattle.hsm_types.specs.declared.stubs.Segment.TheVariants as state
pub use Rattle.hsm_types.specs.Words.{spaced, key_word}
use Rattle.call_forms.specs.declared.parts.Part.{Part}
use Rattle.call_forms.specs.declared.parts.Part.TheVariants as part
use Rattle.call_forms.specs.Forms.{verb_text, call_form, dm_verb_text, dm_form}
use Rattle.plain_model.specs.declared.entries.Entry.{Entry}
use Rattle.plain_model.specs.declared.entries.Actor.{Actor}
use Rattle.plain_model.specs.declared.entries.Actor.TheVariants.{Caller, Session, Store}
use Rattle.plain_model.specs.declared.entries.Action.{Action}
use Rattle.plain_model.specs.declared.entries.Action.TheVariants.{Issue, Resume, Dm, Commit}
use Rattle.plain_model.specs.declared.entries.Answer.{Answer}
use Rattle.plain_model.specs.declared.entries.Answer.TheVariants.{Call as Replied, Dm as Told}

-- a number of bytes and their digest
abbrev pub sum_text : ℕ → List ℕ → List ℕ
sum_text len digest = codes "n=" ++ decimal len ++ codes " sha=" ++ encode_lower digest

abbrev pub digest_text : List ℕ → List ℕ
digest_text bytes = sum_text (length bytes) (sha256 bytes)

-- data: `-` for no bytes, hex for up to 32, else their number and their digest
abbrev pub data_text : List ℕ → List ℕ
data_text bytes =
    if length bytes == 0 then codes "-"
    else if nat_le (length bytes) 32 then encode_lower bytes
    else digest_text bytes

-- a handle: the file system id, and the key
abbrev pub handle_word : Handle → List ℕ
handle_word h = decimal h.fsid ++ codes "." ++ key_word h.key

-- the words of a list, `-` for none
abbrev pub listed : List (List ℕ) → List (List ℕ)
listed [] = codes "-" ∷ []
listed (word ∷ words) = word ∷ words

abbrev pub actor_word : Actor → List ℕ
actor_word (Caller c) = codes "c" ++ decimal c
actor_word (Session sid) = codes "s" ++ decimal sid.0
actor_word Store = codes "store"

-- a region: its offset, its size and its flags
abbrev pub region_word : Region → List ℕ
region_word r = join_with_byte 58 (decimal r.offset ∷ decimal r.size ∷ decimal r.flags ∷ [])

-- regions with a comma between each two, `-` for none
abbrev pub regions_word : List Region → List ℕ
regions_word [] = codes "-"
regions_word (r ∷ rs) = join_with_byte 44 (map region_word (r ∷ rs))

abbrev pub name_word : AttrName → List ℕ
name_word name = encode_lower name.0

abbrev pub if_taken : Bool → List ℕ → List (List ℕ)
if_taken true word = word ∷ []
if_taken false word = []

-- the kinds in their order with a comma between each two, `-` for none
abbrev pub kinds_word : Kinds → List ℕ
kinds_word kinds =
    let words = if_taken kinds.read (codes "read") ++ if_taken kinds.write (codes "write") ++ if_taken kinds.truncate (codes "truncate") ++ if_taken kinds.no_space (codes "nospace") in
    join_with_byte 44 (listed words)

-- a fingerprint: how many bytes there are, and their digest
abbrev pub print_words : Fingerprint → List (List ℕ)
print_words print = decimal print.len ∷ encode_lower print.digest.0 ∷ []

-- a fault of a medium: its volume and object, and both counts or both fingerprints
abbrev pub fault_words : Fault → List (List ℕ)
fault_words (Failed volume object before after) = codes "failed" ∷ decimal volume ∷ decimal object ∷ decimal before ∷ decimal after ∷ []
fault_words (Damaged volume object want got) = codes "damaged" ∷ decimal volume ∷ decimal object ∷ print_words want ++ print_words got

-- `continue`, `abort` and the error, or `media` and the fault
abbrev pub response_word : Response → List ℕ
response_word Continue = codes "continue"
response_word (Abort error) = codes "abort " ++ decimal error
response_word (Media fault) = codes "media " ++ spaced (fault_words fault)

abbrev pub right_word : Right → List ℕ
right_word Null = codes "null"
right_word Shared = codes "shared"
right_word Excl = codes "excl"

-- a part of a call, its data as `word` writes data. A script line has the same words
abbrev pub part_word : (List ℕ → List ℕ) → Part → List ℕ
part_word word (part.Number n) = decimal n
part_word word (part.Count n) = decimal n
part_word word (part.Fetch len) = decimal len
part_word word (part.Word name) = name
part_word word (part.Handle handle) = handle_word handle
part_word word (part.Regions regions) = regions_word regions
part_word word (part.Name name) = name_word name
part_word word (part.Kinds kinds) = kinds_word kinds
part_word word (part.Response response) = response_word response
part_word word (part.Right right) = right_word right
part_word word (part.Digest digest) = encode_lower digest.0
part_word word (part.Data bytes) = word bytes
part_word word (part.Verified bytes) = word bytes

-- a verb, and the parts behind it
abbrev pub form_words : (List ℕ → List ℕ) → List ℕ → List Part → List (List ℕ)
form_words word verb parts = verb ∷ map (part_word word) parts

abbrev pub call_words : (List ℕ → List ℕ) → Call → List (List ℕ)
call_words word call = form_words word (verb_text (call_form call).0) (call_form call).1

abbrev pub dm_words : (List ℕ → List ℕ) → DmCall → List (List ℕ)
dm_words word call = form_words word (dm_verb_text (dm_form call).0) (dm_form call).1

abbrev pub action_words : (List ℕ → List ℕ) → Action → List (List ℕ)
action_words word (Issue call) = call_words word call
action_words word Resume = codes "resume" ∷ []
action_words word (Dm call) = dm_words word call
action_words word Commit = codes "commit" ∷ []

abbrev pub refusal_words : CallRefusal → List (List ℕ)
refusal_words Missing = codes "Missing" ∷ []
refusal_words Exists = codes "Exists" ∷ []
refusal_words BadName = codes "BadName" ∷ []
refusal_words (TooBig end) = codes "TooBig" ∷ decimal end ∷ []
refusal_words (BadLength len) = codes "BadLength" ∷ decimal len ∷ []
refusal_words (NoInodes count) = codes "NoInodes" ∷ decimal count ∷ []
refusal_words (NoSpace need free) = codes "NoSpace" ∷ decimal need ∷ decimal free ∷ []
refusal_words (Aborted error) = codes "Aborted" ∷ decimal error ∷ []
refusal_words (Faulted fault) = codes "Media" ∷ fault_words fault
refusal_words Disk = codes "Disk" ∷ []
refusal_words Memory = codes "Memory" ∷ []
refusal_words Waiting = codes "Waiting" ∷ []
refusal_words Idle = codes "Idle" ∷ []

abbrev pub reply_words : Reply → List (List ℕ)
reply_words Done = codes "done" ∷ []
reply_words (Made k) = codes "made" ∷ key_word k ∷ []
reply_words (Data bytes) = data_text bytes ∷ []
reply_words (Size n) = codes "size" ∷ decimal n ∷ []
reply_words (Parked t) = codes "parked" ∷ decimal t.0 ∷ []
reply_words (Blocked t) = codes "blocked" ∷ decimal t.0 ∷ []
reply_words (Still t) = codes "still" ∷ decimal t.0 ∷ []
reply_words (Refused why) = codes "refused" ∷ refusal_words why

abbrev pub dm_refusal_words : DmRefusal → List (List ℕ)
dm_refusal_words why.NoSession = codes "NoSession" ∷ []
dm_refusal_words why.NoToken = codes "NoToken" ∷ []
dm_refusal_words (why.NotYours owner) = codes "NotYours" ∷ decimal owner.0 ∷ []
dm_refusal_words why.NoObject = codes "NoObject" ∷ []
dm_refusal_words (why.NeedRight have) = codes "NeedRight" ∷ right_word have ∷ []
dm_refusal_words (why.Busy token) = codes "Busy" ∷ decimal token.0 ∷ []
dm_refusal_words (why.EventsLeft count) = codes "EventsLeft" ∷ decimal count ∷ []
dm_refusal_words why.Again = codes "Again" ∷ []
dm_refusal_words (why.TooSmall need) = codes "TooSmall" ∷ decimal need ∷ []
dm_refusal_words (why.BadRegion index) = codes "BadRegion" ∷ decimal index ∷ []
dm_refusal_words why.NoAttr = codes "NoAttr" ∷ []
dm_refusal_words why.Reserved = codes "Reserved" ∷ []
dm_refusal_words (why.AttrTooBig len) = codes "AttrTooBig" ∷ decimal len ∷ []
dm_refusal_words (why.Offline segment) = codes "Offline" ∷ decimal segment ∷ []
dm_refusal_words (why.NotSealed segment) = codes "NotSealed" ∷ decimal segment ∷ []
dm_refusal_words (why.NotOffline segment) = codes "NotOffline" ∷ decimal segment ∷ []
dm_refusal_words (why.Changed want got) = codes "Changed" ∷ print_words want ++ print_words got
dm_refusal_words (why.Uncovered segment) = codes "Uncovered" ∷ decimal segment ∷ []
dm_refusal_words why.BadRange = codes "BadRange" ∷ []
dm_refusal_words why.BadResponse = codes "BadResponse" ∷ []
dm_refusal_words (why.NoSpace need free) = codes "NoSpace" ∷ decimal need ∷ decimal free ∷ []
dm_refusal_words (why.TooMany count) = codes "TooMany" ∷ decimal count ∷ []
dm_refusal_words why.Disk = codes "Disk" ∷ []
dm_refusal_words why.Memory = codes "Memory" ∷ []

-- a letter for each segment: resident, sealed or offline
abbrev pub segment_letter : Segment → ℕ
segment_letter (state.Resident blocks) = 114
segment_letter (state.Sealed blocks entry) = 115
segment_letter (state.Offline entry) = 111

abbrev pub segments_word : List Segment → List ℕ
segments_word segments = if length segments == 0 then codes "-" else map segment_letter segments

abbrev pub dm_reply_words : DmReply → List (List ℕ)
dm_reply_words told.Done = codes "done" ∷ []
dm_reply_words (told.Session sid) = codes "session" ∷ decimal sid.0 ∷ []
dm_reply_words (told.Sids sids) = codes "sessions" ∷ listed (map (λ sid. decimal sid.0) sids)
dm_reply_words (told.Info info) = codes "info" ∷ info ∷ []
dm_reply_words (told.Kinds kinds) = codes "disp" ∷ kinds_word kinds ∷ []
dm_reply_words (told.Packed bytes tokens) = codes "packed" ∷ decimal (length bytes) ∷ listed (map (λ token. decimal token.0) tokens)
dm_reply_words (told.Tokens tokens) = codes "tokens" ∷ listed (map (λ token. decimal token.0) tokens)
dm_reply_words (told.Token token) = codes "token" ∷ decimal token.0 ∷ []
dm_reply_words (told.Right right) = codes "right" ∷ right_word right ∷ []
dm_reply_words (told.Attr size stamp blocks) = codes "attr" ∷ decimal size ∷ decimal stamp ∷ decimal blocks ∷ []
dm_reply_words (told.Data bytes) = data_text bytes ∷ []
dm_reply_words (told.Range offset len) = codes "range" ∷ decimal offset ∷ decimal len ∷ []
dm_reply_words (told.Alloc segments) = codes "alloc" ∷ segments_word segments ∷ []
dm_reply_words (told.Regions regions) = codes "regions" ∷ regions_word regions ∷ []
dm_reply_words (told.Names names) = codes "attrs" ∷ listed (map name_word names)
dm_reply_words (told.Handle handle) = codes "handle" ∷ handle_word handle ∷ []
dm_reply_words (told.Space used total) = codes "space" ∷ decimal used ∷ decimal total ∷ []
dm_reply_words (told.Table table) = codes "table" ∷ decimal table.used ∷ decimal table.total ∷ decimal (length table.files) ∷ []
dm_reply_words (told.Refused why) = codes "refused" ∷ dm_refusal_words why

abbrev pub answer_words : Answer → List (List ℕ)
answer_words (Replied reply) = reply_words reply
answer_words (Told reply) = dm_reply_words reply

-- an event, its data as `word` writes data
abbrev pub event_text : (List ℕ → List ℕ) → Actor → Action → List ℕ
event_text word actor action = spaced (actor_word actor ∷ action_words word action)

abbrev pub entry_text : Entry → List ℕ
entry_text e = event_text data_text e.actor e.action ++ codes " = " ++ spaced (answer_words e.answer) ++ codes "\n"

-- a line for each entry
abbrev pub text_of : List Entry → List ℕ
text_of history = flat_map entry_text history
