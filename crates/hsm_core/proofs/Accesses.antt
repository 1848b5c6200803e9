-- What is said of an access is what the model says of it.
use Rattle.std.proofs.Common.{◌≡◌, ◌+◌, ℕ, [], ◌∷◌, Bool, true, false, Option, Some, None, refl, sym, ◌∙◌, ap}
use Rattle.std.proofs.lemmas.Bool.{eqb-true}
use Rattle.std.specs.Prelude.{◌==◌, ◌||◌, if◌then◌else◌}
use Rattle.std.specs.Option.{option_map}
use Rattle.hsm_types.specs.Refusals.{first_refusal}
use Rattle.hsm_types.specs.Sessions.{SessionTable, posted}
use Rattle.hsm_types.specs.declared.keys.FileKey.{FileKey}
use Rattle.hsm_types.specs.declared.keys.Token.{Token}
use Rattle.hsm_types.specs.declared.stores.Superblock.{Superblock}
use Rattle.hsm_types.specs.declared.calls.Call.{Call}
use Rattle.hsm_types.specs.declared.calls.Call.TheVariants.{Create, Read, Stat}
use Rattle.hsm_types.specs.declared.calls.CallRefusal.{CallRefusal}
use Rattle.hsm_types.specs.declared.calls.Reply.{Reply}
use Rattle.hsm_types.specs.declared.calls.Reply.TheVariants.{Parked, Blocked, Refused}
use Rattle.hsm_types.specs.declared.dm.Kind.{Kind}
use Rattle.hsm_types.specs.declared.dm.Response.{Response}
use Rattle.hsm_types.specs.declared.dm.Response.TheVariants.{Continue, Abort, Media}
use Rattle.plain_model.specs.declared.facts.Facts.{Facts}
use Rattle.plain_model.specs.declared.facts.NoRoom.{NoRoom}
use Rattle.hsm_types.specs.Keyed.{set_at}
use Rattle.plain_model.specs.Accesses.{told_span, event_message}
use Rattle.plain_model.specs.Ledger.{Ledger, Means, next_token, aborted, gone, ledger_replied}
use Rattle.plain_model.specs.State.{Held, Flags, no_flags, State, noted}
use Rattle.plain_model.specs.Verdict.{Verdict as Ruled, Ruling, Blocks, Posts, done_held, stamps_by, Lacks, Ends, Rules, is_no_space, conflicting}
use Rattle.plain_model.specs.Verdict.{touching, needing, lacking, rulings, facts_of, shortage, verdict, judgement, message_of, reply_by, reply_where}
use Rattle.plain_model.specs.Verdict.{left_by_verdict, state_where}
use Rattle.access_park.specs.declared.access.Access.{Access}
use Rattle.dm_service.specs.declared.verdict.Verdict.{Verdict}
use Rattle.dm_service.specs.declared.verdict.Verdict.TheVariants.{Answered, Missing, Block, Post, NoSpace, Complete}
use Rattle.dm_service.specs.Judging.{verdict_of}
use Rattle.dm_service.specs.Parking.{blocked, parked_on, with_access}
use Rattle.dm_service.specs.Tables.{Tables, waiting, seen, pending_as, flags_in, flags_or_none, flags_of, ledger_of, state_in}
use Rattle.hsm_core.specs.Outcomes.{ends, ended_reply, held_said, stamps_said}

-- ---- by what is said

abbrev pub reply_said : State → FileKey → Call → Verdict → Reply
reply_said st k call (Post kind) = Parked (next_token st.ledger)
reply_said st k call (Block t) = Blocked t
reply_said st k call said = ended_reply st.held k call said

abbrev sessions_said : Superblock → State → FileKey → Call → Verdict → SessionTable
sessions_said s st k call (Post kind) = posted (message_of s st k call kind) st.sessions
sessions_said s st k call said = st.sessions

abbrev flags_said : Flags → Verdict → Flags
flags_said fl (Block t) = fl
flags_said fl (Post kind) = record { cleared = true; spaced = fl.spaced || is_no_space kind }
flags_said fl said = no_flags

-- the state after it
abbrev pub left_said : Superblock → State → ℕ → Flags → FileKey → Call → Verdict → State
left_said s st c fl k call said = record {
  held = held_said st.held k call said;
  stamps = stamps_said (st.number + 1) k call said st.stamps;
  number = st.number + 1;
  sessions = sessions_said s st k call said;
  rights = st.rights;
  flags = set_at c (flags_said fl said) st.flags;
  ledger = ledger_replied st.ledger c (Means k call) (reply_said st k call said);
}

-- ---- the rules

-- what the rules say one after the other, of an access with that response to a file that lives or not
abbrev said_by : Option Response → Bool → Ruled → Ruled → Ruled → Ruled → Verdict
said_by answer live w x y z = verdict_of (first_refusal (option_map Ends (aborted answer) ∷ option_map Ends (gone live) ∷ option_map Rules w ∷ option_map Rules x ∷ option_map Rules y ∷ option_map Rules z ∷ []))

abbrev opposed : Option Response → Bool → Option CallRefusal
opposed answer live = first_refusal (aborted answer ∷ gone live ∷ [])

module _ (s : Superblock) (st : State) (c : ℕ) (fl : Flags) (k : FileKey) (call : Call) where
  -- the reply and the state where that objects, and else where the rules say so
  abbrev reply_if : Option CallRefusal → Ruled → Reply
  reply_if (Some why) v = Refused why
  reply_if None v = reply_by st k call v

  abbrev left_if : Option CallRefusal → Ruled → State
  left_if (Some why) v = record (noted st) { flags = set_at c no_flags st.flags; ledger = ledger_replied st.ledger c (Means k call) (Refused why) }
  left_if None v = left_by_verdict s st c fl k call v

  record Says (said : Verdict) (why : Option CallRefusal) (v : Ruled) : Type 0 where
    reply : reply_said st k call said ≡ reply_if why v
    left : left_said s st c fl k call said ≡ left_if why v

  ruling_said : (ruling : Ruling) → Says (verdict_of (Some (Rules ruling))) None (Some ruling)
  ruling_said (Blocks t) = record { reply = refl; left = refl }
  ruling_said (Posts kind) = record { reply = refl; left = refl }
  ruling_said (Lacks need free) = record { reply = refl; left = refl }

  ruled : (w x y z : Ruled) → Says (said_by None true w x y z) None (first_refusal (w ∷ x ∷ y ∷ z ∷ []))
  ruled None None None None = record { reply = refl; left = refl }
  ruled None None None (Some ruling) = record { reply = (ruling_said ruling).reply; left = (ruling_said ruling).left }
  ruled None None (Some ruling) z = record { reply = (ruling_said ruling).reply; left = (ruling_said ruling).left }
  ruled None (Some ruling) y z = record { reply = (ruling_said ruling).reply; left = (ruling_said ruling).left }
  ruled (Some ruling) x y z = record { reply = (ruling_said ruling).reply; left = (ruling_said ruling).left }

  by_rules : (answer : Option Response) (live : Bool) (w x y z : Ruled) → Says (said_by answer live w x y z) (opposed answer live) (first_refusal (w ∷ x ∷ y ∷ z ∷ []))
  by_rules (Some (Abort error)) live w x y z = record { reply = refl; left = refl }
  by_rules (Some (Media fault)) live w x y z = record { reply = refl; left = refl }
  by_rules (Some Continue) true w x y z = record { reply = (ruled w x y z).reply; left = (ruled w x y z).left }
  by_rules (Some Continue) false w x y z = record { reply = refl; left = refl }
  by_rules None true w x y z = record { reply = (ruled w x y z).reply; left = (ruled w x y z).left }
  by_rules None false w x y z = record { reply = refl; left = refl }

  reply_same : (why : Option CallRefusal) (v : Ruled) → (why ≡ None → v ≡ verdict s st fl k call) → reply_if why v ≡ reply_where s st fl why (Means k call)
  reply_same None v same = ap (reply_by st k call) (same refl)
  reply_same (Some why) v same = refl

  left_same : (why : Option CallRefusal) (v : Ruled) → (why ≡ None → v ≡ verdict s st fl k call) → left_if why v ≡ state_where s st c fl why (Means k call)
  left_same None v same = ap (left_by_verdict s st c fl k call) (same refl)
  left_same (Some why) v same = refl

  unopposed : (answer : Option Response) (live : Bool) → opposed answer live ≡ None → live ≡ true
  unopposed answer true none = refl
  unopposed None false none = cc
  unopposed (Some Continue) false none = cc
  unopposed (Some (Abort error)) false none = cc
  unopposed (Some (Media fault)) false none = cc

  -- what the service says of an access, of which these are the facts where its file lives
  module _ (answer : Option Response) (facts : Facts) (known : facts.live ≡ true → facts ≡ facts_of s st.held k call) where
    abbrev said : Verdict
    said = verdict_of (judgement fl answer facts st.rights st.sessions k call)

    abbrev rules : Facts → Ruled
    rules x = first_refusal (rulings fl x st.rights st.sessions k call)

    same_rules : opposed answer facts.live ≡ None → rules facts ≡ verdict s st fl k call
    same_rules none = ap rules (known (unopposed answer facts.live none))

    pub said_reply : reply_said st k call said ≡ reply_where s st fl (opposed answer facts.live) (Means k call)
    said_reply = (by_rules answer facts.live (conflicting st.rights k call) (touching fl facts call) (needing fl facts call) (lacking fl facts st.sessions)).reply ∙ reply_same (opposed answer facts.live) (rules facts) same_rules

    pub said_left : left_said s st c fl k call said ≡ state_where s st c fl (opposed answer facts.live) (Means k call)
    said_left = (by_rules answer facts.live (conflicting st.rights k call) (touching fl facts call) (needing fl facts call) (lacking fl facts st.sessions)).left ∙ left_same (opposed answer facts.live) (rules facts) same_rules

-- ---- what is left of the tables

pub same_at : {A : Type 0} (c : ℕ) (value : A) (all : ℕ → A) → all c ≡ value → (d : ℕ) → set_at c value all d ≡ all d
same_at c value all is d = elim (d == c) as (λ b. (d == c) ≡ b → (if b then value else all d) ≡ all d) [
  | true ↦ λ here. sym is ∙ ap all (sym (eqb-true d c here))
  | false ↦ λ apart. refl
] refl

ended_ledger : (L : Ledger) (h : Held) (c : ℕ) (k : FileKey) (call : Call) (said : Verdict) → ends said ≡ true → ledger_replied L c (Means k call) (ended_reply h k call said) ≡ record L { pending = set_at c None L.pending }
ended_ledger L h c k (Create name) Complete is = refl
ended_ledger L h c k (Read name offset len) Complete is = refl
ended_ledger L h c k (Stat name) Complete is = refl
ended_ledger L h c k call Complete is = refl
ended_ledger L h c k call (Post kind) is = cc
ended_ledger L h c k call (Block t) is = cc
ended_ledger L h c k call (NoSpace need free) is = refl
ended_ledger L h c k call Missing is = refl
ended_ledger L h c k call (Answered response) is = refl

-- nobody's access is gone from none
pub none_gone : (c : ℕ) (st : State) (pending : st.ledger.pending c ≡ None) (flags : st.flags c ≡ no_flags) → with_access c None st ≡ st
none_gone c st pending flags i = record st { flags = λ d. same_at c no_flags st.flags flags d i; ledger = record st.ledger { pending = λ d. same_at c None st.ledger.pending pending d i } }

-- a store with these tables is what is seen of them, with files
as_seen : (t u : Tables) (change : State → State) → seen u ≡ change (seen t) → (h : Held) (stamps : FileKey → ℕ) (n : ℕ)
    → state_in h stamps n u ≡ record { held = h; stamps = stamps; number = n; sessions = (change (seen t)).sessions; rights = (change (seen t)).rights; flags = (change (seen t)).flags; ledger = (change (seen t)).ledger }
as_seen t u change is h stamps n i = record { held = h; stamps = stamps; number = n; sessions = (is i).sessions; rights = (is i).rights; flags = (is i).flags; ledger = (is i).ledger }

-- an access that has ended
pub ended_left : (s : Superblock) (h : Held) (stamps : FileKey → ℕ) (n : ℕ) (t u : Tables) (c : ℕ) (fl : Flags) (k : FileKey) (call : Call) (said : Verdict) → ends said ≡ true → seen u ≡ with_access c None (seen t)
    → state_in (held_said h k call said) (stamps_said (n + 1) k call said stamps) (n + 1) u ≡ left_said s (state_in h stamps n t) c fl k call said
ended_left s h stamps n t u c fl k call said is gone = as_seen t u (with_access c None) gone _ _ (n + 1) ∙ parts said is
  where
    parts : (said : Verdict) → ends said ≡ true
        → record { held = held_said h k call said; stamps = stamps_said (n + 1) k call said stamps; number = n + 1; sessions = t.sessions; rights = t.rights; flags = set_at c no_flags (flags_of t); ledger = record (ledger_of t) { pending = set_at c None (ledger_of t).pending } }
        ≡ left_said s (state_in h stamps n t) c fl k call said
    parts (Post kind) is = cc
    parts (Block t) is = cc
    parts Complete is = λ i. record { held = done_held h k call; stamps = stamps_by (n + 1) k call None stamps; number = n + 1; sessions = t.sessions; rights = t.rights; flags = set_at c no_flags (flags_of t); ledger = sym (ended_ledger (ledger_of t) h c k call Complete refl) i }
    parts (NoSpace need free) is = refl
    parts Missing is = refl
    parts (Answered response) is = refl

-- where nothing waited
pub fresh_ended : (s : Superblock) (h : Held) (stamps : FileKey → ℕ) (n : ℕ) (t : Tables) (c : ℕ) (fl : Flags) (k : FileKey) (call : Call) (said : Verdict) → ends said ≡ true → waiting t c ≡ None
    → state_in (held_said h k call said) (stamps_said (n + 1) k call said stamps) (n + 1) t ≡ left_said s (state_in h stamps n t) c fl k call said
fresh_ended s h stamps n t c fl k call said is none = ended_left s h stamps n t t c fl k call said is (sym (none_gone c (seen t) (ap (λ x. option_map pending_as x) none) (ap flags_or_none none)))

-- an access that waits for the response to an event
pub parked_left : (s : Superblock) (h : Held) (stamps : FileKey → ℕ) (n : ℕ) (t u : Tables) (c : ℕ) (a : Access) (kind : Kind) (short : Option NoRoom) → short ≡ shortage s h a.key a.call
    → seen u ≡ parked_on c a kind (record { fsid = s.fsid; key = a.key }) (told_span a.call short kind) (seen t)
    → state_in h stamps (n + 1) u ≡ left_said s (state_in h stamps n t) c (flags_in a) a.key a.call (Post kind)
parked_left s h stamps n t u c a kind short lacks is =
    as_seen t u (parked_on c a kind (record { fsid = s.fsid; key = a.key }) (told_span a.call short kind)) is h stamps (n + 1)
    ∙ (λ i. record (left_said s (state_in h stamps n t) c (flags_in a) a.key a.call (Post kind)) {
      sessions = posted (event_message kind (next_token (ledger_of t)) (record { fsid = s.fsid; key = a.key }) (told_span a.call (lacks i) kind)) t.sessions;
    })

-- and one that a token blocks
pub blocked_left : (s : Superblock) (h : Held) (stamps : FileKey → ℕ) (n : ℕ) (t u : Tables) (c : ℕ) (a : Access) (other : Token) → seen u ≡ with_access c (Some (blocked a)) (seen t)
    → state_in h stamps (n + 1) u ≡ left_said s (state_in h stamps n t) c (flags_in a) a.key a.call (Block other)
blocked_left s h stamps n t u c a other is = as_seen t u (with_access c (Some (blocked a))) is h stamps (n + 1)
