-- Bytes decide of no verdict: an event leaves the same tables over what is held and over what is seen of it.
use Rattle.std.proofs.Common.{◌≡◌, ◌+◌, ◌-◌, ℕ, List, [], ◌∷◌, length, map, take, drop, replicate, length-append, Bool, true, false, Option, Some, None, refl, sym, ◌∙◌, ap}
use Rattle.std.proofs.lemmas.List.{length-replicate, take-append-drop}
use Rattle.std.specs.Prelude.{if◌then◌else◌, is_some}
use Rattle.std.specs.List.{fold}
use Rattle.hsm_types.specs.Keyed.{same_key, find_key}
use Rattle.hsm_types.specs.Limits.{block_bytes}
use Rattle.hsm_types.specs.Refusals.{first_refusal}
use Rattle.hsm_types.specs.Regions.{touches}
use Rattle.hsm_types.specs.Sessions.{posted}
use Rattle.hsm_types.specs.declared.calls.Call.{Call}
use Rattle.hsm_types.specs.declared.calls.Call.TheVariants.{Create, Read, Stat}
use Rattle.hsm_types.specs.declared.calls.CallRefusal.{CallRefusal}
use Rattle.hsm_types.specs.declared.dm.DmCall.{DmCall}
use Rattle.hsm_types.specs.declared.dm.DmReply.{DmReply}
use Rattle.hsm_types.specs.declared.dm.DmReply.TheVariants as told
use Rattle.hsm_types.specs.declared.dm.Kind.{Kind}
use Rattle.hsm_types.specs.declared.keys.FileKey.{FileKey}
use Rattle.hsm_types.specs.declared.keys.Sid.{Sid}
use Rattle.hsm_types.specs.declared.stores.Superblock.{Superblock}
use Rattle.plain_model.specs.declared.entries.Actor.{Actor}
use Rattle.plain_model.specs.declared.entries.Actor.TheVariants.{Caller, Session}
use Rattle.plain_model.specs.declared.entries.Action.{Action}
use Rattle.plain_model.specs.declared.entries.Action.TheVariants.{Issue, Resume, Dm}
use Rattle.plain_model.specs.declared.entries.Answer.{Answer}
use Rattle.plain_model.specs.declared.entries.Answer.TheVariants.{Call as Replied, Dm as Told}
use Rattle.plain_model.specs.declared.facts.Facts.{Facts}
use Rattle.plain_model.specs.declared.facts.NoRoom.{NoRoom}
use Rattle.plain_model.specs.Accesses.{kind_of, reach, needs, told_span, event_message}
use Rattle.plain_model.specs.Blocks.{touched}
use Rattle.plain_model.specs.Effects.{Change, Nothing, OfFile, OfSessions, OfRights, Closes, change_of, effect_of}
use Rattle.plain_model.specs.Exact.{IsOwn, left_told, left_answered, left_by}
use Rattle.plain_model.specs.Faults.{is_fault}
use Rattle.plain_model.specs.Ledger.{Ledger, Meant, Fixed, Means, next_token, meant, objection, ledger_told}
use Rattle.plain_model.specs.Plain.{Listed}
use Rattle.plain_model.specs.Seen.{unmapped_bytes, blank, blanked}
use Rattle.plain_model.specs.State.{FileState, Held, Flags, no_flags, State, names_of, file_or_new, file_at, bytes_of, used_by, used, noted, changed}
use Rattle.plain_model.specs.Verdict.{touches_as, short_of, facts_of, Blocks, Posts, Lacks, Verdict, rulings, verdict, done_held, held_by_verdict}
use Rattle.plain_model.specs.Verdict.{left_by_verdict, objection_in, meant_in, state_where}

-- ---- what is known of a file without its bytes

blank-size : (mapped : List Bool) (body : List ℕ) → length (unmapped_bytes mapped body) ≡ length body
blank-size [] body = refl
blank-size (true ∷ mapped) body =
    let first : length (replicate (length (take block_bytes body)) 0) ≡ length (take block_bytes body) = length-replicate (length (take block_bytes body)) 0 in
    length-append (replicate (length (take block_bytes body)) 0) (unmapped_bytes mapped (drop block_bytes body))
    ∙ (λ i. first i + blank-size mapped (drop block_bytes body) i)
    ∙ sym (length-append (take block_bytes body) (drop block_bytes body)) ∙ ap length (take-append-drop block_bytes body)
blank-size (false ∷ mapped) body =
    length-append (take block_bytes body) (unmapped_bytes mapped (drop block_bytes body))
    ∙ (λ i. length (take block_bytes body) + blank-size mapped (drop block_bytes body) i)
    ∙ sym (length-append (take block_bytes body) (drop block_bytes body)) ∙ ap length (take-append-drop block_bytes body)

pub blank_size : (f : FileState) → length (blank f).body ≡ length f.body
blank_size f = blank-size f.mapped f.body

names_blank : (fs : List FileState) → names_of (map blank fs) ≡ names_of fs
names_blank [] = refl
names_blank (f ∷ fs) = ap (λ (xs : List Listed). record { key = f.key; name = f.name } ∷ xs) (names_blank fs)

used_from : (n : ℕ) (fs : List FileState) → fold (λ m f. m + used_by f) n (map blank fs) ≡ fold (λ m f. m + used_by f) n fs
used_from n [] = refl
used_from n (f ∷ fs) = used_from (n + used_by f) fs

used_blank : (fs : List FileState) → used (map blank fs) ≡ used fs
used_blank fs = used_from 0 fs

file_if : (b : Bool) (k : FileKey) (f : FileState) (x y : Option FileState) → file_or_new k y ≡ blank (file_or_new k x) → file_or_new k (if b then Some (blank f) else y) ≡ blank (file_or_new k (if b then Some f else x))
file_if true k f x y same = refl
file_if false k f x y same = same

file_blank : (k : FileKey) (fs : List FileState) → file_at k (map blank fs) ≡ blank (file_at k fs)
file_blank k [] = refl
file_blank k (f ∷ fs) = file_if (same_key f.key k) k f (find_key (λ x. x.key) k fs) (find_key (λ x. x.key) k (map blank fs)) (file_blank k fs)

live_if : (b : Bool) (f g : FileState) (x y : Option FileState) → is_some y ≡ is_some x → is_some (if b then Some f else y) ≡ is_some (if b then Some g else x)
live_if true f g x y same = refl
live_if false f g x y same = same

live_blank : (k : FileKey) (fs : List FileState) → is_some (find_key (λ x. x.key) k (map blank fs)) ≡ is_some (find_key (λ x. x.key) k fs)
live_blank k [] = refl
live_blank k (f ∷ fs) = live_if (same_key f.key k) (blank f) f (find_key (λ x. x.key) k fs) (find_key (λ x. x.key) k (map blank fs)) (live_blank k fs)

size_blank : (k : FileKey) (fs : List FileState) → length (bytes_of k (map blank fs)) ≡ length (bytes_of k fs)
size_blank k fs = ap (λ (f : FileState). length f.body) (file_blank k fs) ∙ blank_size (file_at k fs)

touches_blank : (kind : Option Kind) (f : FileState) (call : Call) → touches_as kind (blank f) call ≡ touches_as kind f call
touches_blank None f call = refl
touches_blank (Some kind) f call = ap (λ n. touches f.kept.regions (reach n call) kind) (blank_size f)

facts_blank : (s : Superblock) (h : Held) (k : FileKey) (call : Call) → facts_of s (blanked h) k call ≡ facts_of s h k call
facts_blank s h k call i = record {
  live = live_blank k h.files i;
  touches = (ap (λ (f : FileState). touches_as (kind_of call) f call) (file_blank k h.files) ∙ touches_blank (kind_of call) (file_at k h.files) call) i;
  needs = (ap (λ (f : FileState). needs f.kept.stubs (length f.body) call) (file_blank k h.files)
      ∙ ap (λ n. needs (file_at k h.files).kept.stubs n call) (blank_size (file_at k h.files))) i;
  short = short_of (length (touched (effect_of call) (size_blank k h.files i))) (s.geometry.blocks - used_blank h.files i);
}

kept_blank : (k : FileKey) (fs : List FileState) → (file_at k (map blank fs)).kept ≡ (file_at k fs).kept
kept_blank k fs = ap (λ (f : FileState). f.kept) (file_blank k fs)

-- ---- what is the same of all that is seen alike

same_seen : {V : Type 0} (of : Held → V) → ((h : Held) → of (blanked h) ≡ of h) → (held seen : Held) → blanked seen ≡ blanked held → of seen ≡ of held
same_seen of each held seen alike = sym (each seen) ∙ ap of alike ∙ each held

module _ (held seen : Held) (alike : blanked seen ≡ blanked held) where
  pub names_alike : names_of seen.files ≡ names_of held.files
  names_alike = same_seen (λ h. names_of h.files) (λ h. names_blank h.files) held seen alike

  pub live_alike : (k : FileKey) → is_some (find_key (λ f. f.key) k seen.files) ≡ is_some (find_key (λ f. f.key) k held.files)
  live_alike k = same_seen (λ h. is_some (find_key (λ f. f.key) k h.files)) (λ h. live_blank k h.files) held seen alike

  pub used_alike : used seen.files ≡ used held.files
  used_alike = same_seen (λ h. used h.files) (λ h. used_blank h.files) held seen alike

  pub size_alike : (k : FileKey) → length (bytes_of k seen.files) ≡ length (bytes_of k held.files)
  size_alike k = same_seen (λ h. length (bytes_of k h.files)) (λ h. size_blank k h.files) held seen alike

  pub kept_alike : (k : FileKey) → (file_at k seen.files).kept ≡ (file_at k held.files).kept
  kept_alike k = same_seen (λ h. (file_at k h.files).kept) (λ h. kept_blank k h.files) held seen alike

  pub facts_alike : (s : Superblock) (k : FileKey) (call : Call) → facts_of s seen k call ≡ facts_of s held k call
  facts_alike s k call = same_seen (λ h. facts_of s h k call) (λ h. facts_blank s h k call) held seen alike

-- ---- what an event leaves

module _ (s : Superblock) (st : State) (seen : Held) (alike : blanked seen ≡ blanked st.held) where
  abbrev over : State
  over = record st { held = seen }

  done_alike : (c : ℕ) (fl : Flags) (k : FileKey) (call : Call) → left_by_verdict s st c fl k call None ≡ record (left_by_verdict s over c fl k call None) { held = done_held st.held k call }
  done_alike c fl k (Create name) = refl
  done_alike c fl k (Read name offset len) = refl
  done_alike c fl k (Stat name) = refl
  done_alike c fl k call = refl

  verdict_alike : (c : ℕ) (fl : Flags) (k : FileKey) (call : Call) (v : Verdict)
      → left_by_verdict s st c fl k call v ≡ record (left_by_verdict s over c fl k call v) { held = held_by_verdict st.held k call v }
  verdict_alike c fl k call None = done_alike c fl k call
  verdict_alike c fl k call (Some (Blocks t)) = refl
  verdict_alike c fl k call (Some (Lacks need free)) = refl
  verdict_alike c fl k call (Some (Posts kind)) =
      ap (λ (room : Option NoRoom). record (left_by_verdict s st c fl k call (Some (Posts kind))) {
        sessions = posted (event_message kind (next_token st.ledger) (record { fsid = s.fsid; key = k }) (told_span call room kind)) st.sessions;
      }) (sym (ap (λ (facts : Facts). facts.short) (facts_alike st.held seen alike s k call)))

  where_alike : (c : ℕ) (fl : Flags) (why : Option CallRefusal) (m : Meant) → state_where s st c fl why m ≡ record (state_where s over c fl why m) { held = (state_where s st c fl why m).held }
  where_alike c fl why (Fixed reply) = refl
  where_alike c fl (Some why) (Means k call) = refl
  where_alike c fl None (Means k call) =
      let now : Verdict = verdict s st fl k call in
      verdict_alike c fl k call now
      ∙ ap (λ (facts : Facts). record (left_by_verdict s over c fl k call (first_refusal (rulings fl facts st.rights st.sessions k call))) { held = held_by_verdict st.held k call now }) (sym (facts_alike st.held seen alike s k call))

  caller_alike : (c : ℕ) (fl : Flags) (what : Action) → state_where s st c fl (objection_in s st c what) (meant_in st c what)
      ≡ record (state_where s over c fl (objection_in s over c what) (meant_in over c what)) { held = (state_where s st c fl (objection_in s st c what) (meant_in st c what)).held }
  caller_alike c fl what =
      where_alike c fl (objection_in s st c what) (meant_in st c what)
      ∙ ap (λ (names : List Listed). record (state_where s over c fl (objection s names (st.ledger.pending c) what) (meant names (st.ledger.pending c) what)) {
        held = (state_where s st c fl (objection_in s st c what) (meant_in st c what)).held;
      }) (sym (names_alike st.held seen alike))

  changed_alike : (change : Change) (L : Ledger) → record (noted (changed change st)) { ledger = L } ≡ record (noted (changed change over)) { ledger = L; held = (changed change st).held }
  changed_alike Nothing L = refl
  changed_alike (OfFile k effect) L = refl
  changed_alike (OfSessions to) L = refl
  changed_alike (OfRights to) L = refl
  changed_alike (Closes sid token) L = refl

  told_alike : (sid : Sid) (call : DmCall) (reply : DmReply) → left_told st sid call reply ≡ record (left_told over sid call reply) { held = (left_told st sid call reply).held }
  told_alike sid call (told.Refused why) = refl
  told_alike sid call reply = changed_alike (change_of sid call) (ledger_told st.ledger call reply)

  answered_alike : (who : Actor) (what : Action) (answer : Answer) → IsOwn s over who what answer
      → left_answered s st who what answer ≡ record (left_answered s over who what answer) { held = (left_answered s st who what answer).held }
  answered_alike (Caller c) (Issue call) answer is = caller_alike c no_flags (Issue call)
  answered_alike (Caller c) Resume answer is = caller_alike c (st.flags c) Resume
  answered_alike (Session sid) (Dm call) (Told reply) is = told_alike sid call reply
  answered_alike (Session sid) (Dm call) (Replied reply) is = let wrong = is.1 in cc
  answered_alike who what answer is = refl

  if_alike : (fault : Bool) (own other : State) → own ≡ record other { held = own.held } → (if fault then noted st else own) ≡ record (if fault then noted over else other) { held = (if fault then noted st else own).held }
  if_alike true own other same = refl
  if_alike false own other same = same

  -- after an answer that is the store's own over what is seen
  pub left_alike : (who : Actor) (what : Action) (answer : Answer) → IsOwn s over who what answer → left_by s st who what answer ≡ record (left_by s over who what answer) { held = (left_by s st who what answer).held }
  left_alike who what answer is = if_alike (is_fault answer) (left_answered s st who what answer) (left_answered s over who what answer) (answered_alike who what answer is)
