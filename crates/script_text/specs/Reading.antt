-- What the parts of a line are read as.
use Rattle.std.specs.Prelude.{ℕ, ◌≡◌, ◌≢◌, ◌^◌, ◌<◌, ◌≤◌, List, [], ◌∷◌, ◌++◌, length, map, Option, Some, None, Bool, true, false, nat_le, ◌==◌, ◌&&◌, ◌||◌}
use Rattle.std.specs.Prelude.{if◌then◌else◌}
use Rattle.std.specs.List.{AllByRecursion, slice_split}
use Rattle.std.specs.Fmt.{decimal}
use Rattle.std.specs.Str.{bytes_eq}
use Rattle.hex.specs.Hex.{encode_lower}
use Rattle.hsm_types.specs.declared.daemons.Daemon.{Daemon}
use Rattle.hsm_types.specs.declared.dm.Kinds.{Kinds}
use Rattle.hsm_types.specs.declared.keys.FileKey.{FileKey}
use Rattle.hsm_types.specs.declared.keys.Sid.{Sid}
use Rattle.call_forms.specs.declared.parts.Part.{Part}
use Rattle.call_forms.specs.declared.parts.PartKind.{PartKind}
use Rattle.call_forms.specs.declared.parts.PartKind.TheVariants as kinds
use Rattle.hsm_types.specs.declared.regions.Region.{Region}
use Rattle.hsm_types.specs.declared.stubs.Digest.{Digest}
use Rattle.call_forms.specs.Forms.{verb_text, call_form, dm_verb_text, dm_form}
use Rattle.call_forms.specs.Parts.{kind_of}
use Rattle.plain_model.specs.declared.entries.Actor.{Actor}
use Rattle.plain_model.specs.declared.entries.Actor.TheVariants.{Caller, Session}
use Rattle.event_text.specs.Render.{spaced, actor_word, part_word, form_words}
use Rattle.script_text.specs.Limits.{pattern_bytes, greatest_seed}
use Rattle.script_text.specs.declared.bodies.Body.{Body}
use Rattle.script_text.specs.declared.bodies.Pattern.{Pattern}
use Rattle.script_text.specs.declared.lines.Allowed.{Allowed}
use Rattle.script_text.specs.declared.lines.Line.{Line}
use Rattle.script_text.specs.declared.lines.Line.TheVariants.{Event, Start, Kill, Step, Settle}
use Rattle.script_text.specs.declared.parts.ReadPart.{ReadPart}
use Rattle.script_text.specs.declared.parts.ReadParts.{ReadParts}
use Rattle.script_text.specs.declared.requests.DmRequest.{DmRequest}
use Rattle.script_text.specs.declared.requests.Request.{Request}
use Rattle.script_text.specs.Lines.{coloned, data_word, IsData, IsRegions, IsPart, AreParts}
use Rattle.script_text.specs.Scripts.{IsNextLine}

-- the lawful value that the text spells, or none where it spells none
abbrev pub Reads : {A : Type 0} → (A → List ℕ) → (A → Type 0) → List ℕ → Option A → Type 0
Reads spelling IsLawful text None = (x : _) → IsLawful x → text ≢ spelling x
Reads spelling IsLawful text (Some x) = IsLawful x × (text ≡ spelling x)

abbrev pub Lacks : ℕ → List ℕ → Type 0
Lacks b bytes = AllByRecursion (λ x. x ≢ b) bytes

-- what stands before the first such byte, and what behind it
abbrev pub Cuts : ℕ → List ℕ → Option (List ℕ × List ℕ) → Type 0
Cuts b bytes None = Lacks b bytes
Cuts b bytes (Some p) = (bytes ≡ p.0 ++ b ∷ p.1) × Lacks b p.0

abbrev pub IsNumber : ℕ → Type 0
IsNumber n = n < 2 ^ 64

abbrev pub IsCount : ℕ → Type 0
IsCount n = n < 2 ^ 32

abbrev pub caller_word : ℕ → List ℕ
caller_word c = actor_word (Caller c)

abbrev pub sid_word : Sid → List ℕ
sid_word sid = actor_word (Session sid)

abbrev pub IsSid : Sid → Type 0
IsSid sid = IsNumber sid.0

abbrev pub IsKey : FileKey → Type 0
IsKey k = IsNumber k.ino × IsNumber k.igen

-- a hex digit in lower case
abbrev pub is_lower_hex : ℕ → Bool
is_lower_hex b = (nat_le 48 b && nat_le b 57) || (nat_le 97 b && nat_le b 102)

abbrev pub digest_word : Digest → List ℕ
digest_word digest = encode_lower digest.0

abbrev pub pattern_text : Pattern → List ℕ
pattern_text p = coloned (decimal p.len ∷ decimal p.seed ∷ [])

abbrev pub IsPattern : Pattern → Type 0
IsPattern p = (p.len ≤ pattern_bytes) × (p.seed ≤ greatest_seed)

abbrev pub body_text : Body → List ℕ
body_text b = data_word b.seed b.bytes

abbrev pub IsBody : Body → Type 0
IsBody b = IsData b.seed b.bytes

-- what stands between the commas
abbrev pub parts : List ℕ → List (List ℕ)
parts word = slice_split (λ b. b == 44) word

abbrev pub parts_behind : Option (List ℕ) → List (List ℕ)
parts_behind None = []
parts_behind (Some word) = parts word

-- whether that word is the first, and the words behind it
abbrev pub taken : List ℕ → List (List ℕ) → Bool × List (List ℕ)
taken word [] = (false, [])
taken word (first ∷ more) = if bytes_eq first word then (true, more) else (false, first ∷ more)

-- any kinds
abbrev pub AreKinds : Kinds → Type 0
AreKinds taken = Unit {0}

-- any daemon
abbrev pub IsDaemon : Daemon → Type 0
IsDaemon daemon = Unit {0}

-- regions that are not none
abbrev pub AreSomeRegions : List Region → Type 0
AreSomeRegions regions = IsRegions regions × (0 < length regions)

-- ---- parts of calls

-- a part of that kind
abbrev pub read_text : ReadPart → List ℕ
read_text r = part_word (data_word r.seed) r.part

abbrev pub IsOfKind : PartKind → ReadPart → Type 0
IsOfKind kind r = (kind_of r.part ≡ kind) × IsPart r.seed r.part

-- the words of parts that stand behind a verb
abbrev pub parts_text : ReadParts → List ℕ
parts_text r = spaced (map (part_word (data_word r.seed)) r.parts)

-- the same, or none for no parts
abbrev pub behind_verb : Option ℕ → List Part → Option (List ℕ)
behind_verb seed [] = None
behind_verb seed (p ∷ ps) = Some (spaced (map (part_word (data_word seed)) (p ∷ ps)))

-- parts of those kinds
abbrev pub AreOfKinds : List PartKind → ReadParts → Type 0
AreOfKinds ks r = (map kind_of r.parts ≡ ks) × AreParts r.seed r.parts

-- the parts that the text behind a verb spells
abbrev pub ReadsParts : List PartKind → Option (List ℕ) → Option ReadParts → Type 0
ReadsParts ks text None = (r : ReadParts) → AreOfKinds ks r → text ≢ behind_verb r.seed r.parts
ReadsParts ks text (Some r) = AreOfKinds ks r × (text ≡ behind_verb r.seed r.parts)

-- only the last part may have a seed, or a space
abbrev pub is_plain : PartKind → Bool
is_plain kinds.Data = false
is_plain kinds.Verified = false
is_plain kinds.Response = false
is_plain other = true

abbrev pub is_signature : List PartKind → Bool
is_signature [] = true
is_signature (k ∷ []) = true
is_signature (k ∷ l ∷ ks) = is_plain k && is_signature (l ∷ ks)

-- the first word of a text, and what stands behind it, if anything
abbrev pub with_rest : List ℕ → Option (List ℕ) → List ℕ
with_rest word None = word
with_rest word (Some rest) = word ++ 32 ∷ rest

-- ---- calls

-- a verb and the parts behind it
abbrev pub form_text : Option ℕ → List ℕ → List Part → List ℕ
form_text seed verb parts = spaced (form_words (data_word seed) verb parts)

abbrev pub request_text : Request → List ℕ
request_text r = form_text r.seed (verb_text (call_form r.call).0) (call_form r.call).1

abbrev pub IsRequest : Request → Type 0
IsRequest r = AreParts r.seed (call_form r.call).1

abbrev pub dm_request_text : DmRequest → List ℕ
dm_request_text r = form_text r.seed (dm_verb_text (dm_form r.call).0) (dm_form r.call).1

abbrev pub IsDmRequest : DmRequest → Type 0
IsDmRequest r = AreParts r.seed (dm_form r.call).1

-- ---- lines

-- what an actor and a text behind it are together
abbrev pub text_by : Actor → List ℕ → List ℕ
text_by actor text = spaced (actor_word actor ∷ text ∷ [])

-- a line that starts, kills or steps a daemon, or settles
abbrev pub IsNoEvent : Line → Type 0
IsNoEvent (Event actor action seed) = ⊥
IsNoEvent (Start daemon) = Unit {0}
IsNoEvent (Kill daemon) = Unit {0}
IsNoEvent (Step daemon) = Unit {0}
IsNoEvent Settle = Unit {0}

-- the allowed line of the text that goes on after the lines before it, or none where none does
abbrev pub GoesOnAs : Allowed → List Line → List ℕ → Option Line → Type 0
GoesOnAs allowed before text None = (line : Line) → ¬ (IsNextLine allowed before text line)
GoesOnAs allowed before text (Some line) = IsNextLine allowed before text line
