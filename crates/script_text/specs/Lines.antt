-- The lines of scripts: how each is spelled, and which there are.
use Rattle.std.specs.Prelude.{ℕ, ◌≡◌, ◌+◌, ◌*◌, ◌/◌, ◌%◌, ◌^◌, ◌<◌, ◌≤◌, ◌==◌, ◌&&◌, not, nat_le, map, Bool, Option, Some, None, List, [], ◌∷◌, length, codes}
use Rattle.std.specs.Prelude.{IsTrue}
use Rattle.std.specs.List.{join_with_byte, list_all, range_with_len, AllByRecursion}
use Rattle.std.specs.Fmt.{decimal}
use Rattle.hex.specs.Hex.{encode_lower, IsBytes}
use Rattle.hsm_types.specs.declared.attributes.AttrName.{AttrName}
use Rattle.hsm_types.specs.declared.daemons.Daemon.{Daemon}
use Rattle.hsm_types.specs.declared.daemons.Daemon.TheVariants.{Recall, Migrate}
use Rattle.hsm_types.specs.declared.dm.Response.{Response}
use Rattle.hsm_types.specs.declared.dm.Response.TheVariants.{Continue, Abort, Media}
use Rattle.hsm_types.specs.declared.dm.Right.{Right}
use Rattle.hsm_types.specs.declared.dm.Right.TheVariants.{Null, Shared, Excl}
use Rattle.hsm_types.specs.declared.dm.Scope.{Scope}
use Rattle.hsm_types.specs.declared.dm.Scope.TheVariants.{Anyone, InSession, OnToken, OnFile, OnRight}
use Rattle.hsm_types.specs.declared.keys.Sid.{Sid}
use Rattle.call_forms.specs.declared.parts.Part.{Part}
use Rattle.call_forms.specs.declared.parts.Part.TheVariants as part
use Rattle.hsm_types.specs.declared.regions.Region.{Region}
use Rattle.hsm_types.specs.declared.stubs.Digest.{Digest}
use Rattle.hsm_types.specs.Callers.{IsCallerNumber}
use Rattle.hsm_types.specs.Calls.{scope_of}
use Rattle.call_forms.specs.Forms.{call_form, dm_form}
use Rattle.hsm_types.specs.Handles.{IsHandle}
use Rattle.call_forms.specs.Parts.{access_of}
use Rattle.plain_model.specs.declared.entries.Actor.{Actor}
use Rattle.plain_model.specs.declared.entries.Actor.TheVariants.{Caller, Session, Store}
use Rattle.plain_model.specs.declared.entries.Action.{Action}
use Rattle.plain_model.specs.declared.entries.Action.TheVariants.{Issue, Resume, Dm, Commit}
use Rattle.event_text.specs.Render.{spaced, actor_word, action_words}
use Rattle.script_text.specs.Limits.{line_regions, pattern_bytes, greatest_seed}
use Rattle.script_text.specs.declared.lines.Allowed.{Allowed}
use Rattle.script_text.specs.declared.lines.Allowed.TheVariants.{All, Calls}
use Rattle.script_text.specs.declared.lines.Line.{Line}
use Rattle.script_text.specs.declared.lines.Line.TheVariants.{Event, Start, Kill, Step, Settle}

-- the byte of a pattern at i
abbrev pub pattern_byte : ℕ → ℕ → ℕ
pattern_byte seed i = (seed + 7 * i + i / 256) % 256

-- the bytes that their number and a seed stand for
abbrev pub pattern : ℕ → ℕ → List ℕ
pattern len seed = map (pattern_byte seed) (range_with_len 0 len)

-- parts with a colon between each two
abbrev pub coloned : List (List ℕ) → List ℕ
coloned parts = join_with_byte 58 parts

-- data as a script has it: hex digits, or their number and a seed where they were given so
abbrev pub data_word : Option ℕ → List ℕ → List ℕ
data_word None bytes = coloned (codes "x" ∷ encode_lower bytes ∷ [])
data_word (Some seed) bytes = coloned (codes "p" ∷ decimal (length bytes) ∷ decimal seed ∷ [])

-- a daemon as a word of a line
abbrev pub daemon_word : Daemon → List ℕ
daemon_word Recall = codes "recall"
daemon_word Migrate = codes "migrate"

abbrev pub line_words : Line → List (List ℕ)
line_words (Event actor action seed) = actor_word actor ∷ action_words (data_word seed) action
line_words (Start daemon) = codes "start" ∷ daemon_word daemon ∷ []
line_words (Kill daemon) = codes "kill" ∷ daemon_word daemon ∷ []
line_words (Step daemon) = codes "step" ∷ daemon_word daemon ∷ []
line_words Settle = codes "settle" ∷ []

-- the one spelling of a line
abbrev pub line_text : Line → List ℕ
line_text line = spaced (line_words line)

-- ---- which lines there are

-- a visible byte
abbrev pub is_word_byte : ℕ → Bool
is_word_byte b = nat_le 0x21 b && nat_le b 0x7e

-- one or more of them. The store judges which words are names
abbrev pub is_word : List ℕ → Bool
is_word word = not (length word == 0) && list_all is_word_byte word

-- Data given by a seed are at most `pattern_bytes` of its pattern.
abbrev pub IsData : Option ℕ → List ℕ → Type 0
IsData None bytes = IsBytes bytes
IsData (Some seed) bytes = (length bytes ≤ pattern_bytes) × (seed ≤ greatest_seed) × (bytes ≡ pattern (length bytes) seed)

-- Data with their fingerprint are as many as it can count.
abbrev pub IsVerified : Option ℕ → List ℕ → Type 0
IsVerified seed bytes = IsData seed bytes × (length bytes < 2 ^ 32)

abbrev pub IsRegion : Region → Type 0
IsRegion r = (r.offset < 2 ^ 64) × (r.size < 2 ^ 64) × (r.flags < 256)

-- A line has at most `line_regions`.
abbrev pub IsRegions : List Region → Type 0
IsRegions regions = (length regions ≤ line_regions) × AllByRecursion IsRegion regions

-- eight bytes
abbrev pub IsAttrName : AttrName → Type 0
IsAttrName name = IsBytes name.0 × (length name.0 ≡ 8)

-- 32 bytes
abbrev pub IsDigest : Digest → Type 0
IsDigest digest = IsBytes digest.0 × (length digest.0 ≡ 32)

-- An abort's error has 32 bits. The store judges which it takes. No line has a fault of a medium.
abbrev pub IsResponse : Response → Type 0
IsResponse Continue = Unit {0}
IsResponse (Abort error) = error < 2 ^ 32
IsResponse (Media fault) = ⊥

-- What a line asks for is a right, and null is none.
abbrev pub IsAskedRight : Right → Type 0
IsAskedRight Null = ⊥
IsAskedRight Shared = Unit {0}
IsAskedRight Excl = Unit {0}

-- A lawful part. Only data have a seed.
abbrev pub IsPart : Option ℕ → Part → Type 0
IsPart seed (part.Number n) = (n < 2 ^ 64) × (seed ≡ None)
IsPart seed (part.Count n) = (n < 2 ^ 32) × (seed ≡ None)
IsPart seed (part.Fetch len) = (len < 2 ^ 64) × (seed ≡ None)
IsPart seed (part.Word word) = IsTrue (is_word word) × (seed ≡ None)
IsPart seed (part.Handle handle) = IsHandle handle × (seed ≡ None)
IsPart seed (part.Regions regions) = IsRegions regions × (seed ≡ None)
IsPart seed (part.Name name) = IsAttrName name × (seed ≡ None)
IsPart seed (part.Kinds taken) = seed ≡ None
IsPart seed (part.Response response) = IsResponse response × (seed ≡ None)
IsPart seed (part.Right right) = IsAskedRight right × (seed ≡ None)
IsPart seed (part.Digest digest) = IsDigest digest × (seed ≡ None)
IsPart seed (part.Data bytes) = IsData seed bytes
IsPart seed (part.Verified bytes) = IsVerified seed bytes

-- lawful parts. Only the last one may have the seed
abbrev pub AreParts : Option ℕ → List Part → Type 0
AreParts seed [] = seed ≡ None
AreParts seed (p ∷ []) = IsPart seed p
AreParts seed (p ∷ q ∷ parts) = IsPart None p × AreParts seed (q ∷ parts)

-- whose calls these are: what needs no session is asked by session 0, and the other calls by any
abbrev pub IsAskedBy : Sid → Scope → Type 0
IsAskedBy sid Anyone = sid.0 ≡ 0
IsAskedBy sid InSession = Unit {0}
IsAskedBy sid (OnToken token) = Unit {0}
IsAskedBy sid (OnFile token handle right) = Unit {0}
IsAskedBy sid (OnRight token handle right) = Unit {0}

-- callers issue calls and resume, sessions ask, and the store commits
abbrev pub IsEvent : Actor → Action → Option ℕ → Type 0
IsEvent (Caller c) (Issue call) seed = IsCallerNumber c × AreParts seed (call_form call).1
IsEvent (Caller c) Resume seed = IsCallerNumber c × (seed ≡ None)
IsEvent (Caller c) (Dm call) seed = ⊥
IsEvent (Caller c) Commit seed = ⊥
IsEvent (Session sid) (Issue call) seed = ⊥
IsEvent (Session sid) Resume seed = ⊥
IsEvent (Session sid) (Dm call) seed = (sid.0 < 2 ^ 64) × IsAskedBy sid (scope_of call) × AreParts seed (dm_form call).1
IsEvent (Session sid) Commit seed = ⊥
IsEvent Store (Issue call) seed = ⊥
IsEvent Store Resume seed = ⊥
IsEvent Store (Dm call) seed = ⊥
IsEvent Store Commit seed = seed ≡ None

-- an event is judged; of the other lines each one is lawful
abbrev pub IsLine : Line → Type 0
IsLine (Event actor action seed) = IsEvent actor action seed
IsLine (Start daemon) = Unit {0}
IsLine (Kill daemon) = Unit {0}
IsLine (Step daemon) = Unit {0}
IsLine Settle = Unit {0}

-- a call that a caller issues
abbrev pub IsCall : Line → Type 0
IsCall (Event (Caller c) (Issue call) seed) = Unit {0}
IsCall other = ⊥

-- a line that a command takes
abbrev pub IsAllowed : Allowed → Line → Type 0
IsAllowed All line = Unit {0}
IsAllowed Calls line = IsCall line

-- ---- what a line weighs

-- the bytes that an action brings or may fetch
abbrev pub action_access : Action → ℕ
action_access (Issue call) = access_of (call_form call).1
action_access Resume = 0
action_access (Dm call) = access_of (dm_form call).1
action_access Commit = 0

abbrev pub access_length : Line → ℕ
access_length (Event actor action seed) = action_access action
access_length (Start daemon) = 0
access_length (Kill daemon) = 0
access_length (Step daemon) = 0
access_length Settle = 0
