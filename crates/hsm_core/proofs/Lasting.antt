-- A call that waits is on a file and was judged to be within bounds: after each event.
use Rattle.std.proofs.Common.{◌≡◌, ℕ, [], ◌∷◌, Bool, true, false, Option, Some, None, inl, inr, refl, sym, ◌∙◌, ⊎_elim, subst, arith}
use Rattle.std.proofs.lemmas.Bool.Decides.{nat_tests}
use Rattle.std.specs.Prelude.{◌⊎◌, ◌==◌, ◌&&◌, not, nat_lt, if◌then◌else◌, IfSome}
use Rattle.std.specs.Option.{option_map}
use Rattle.hsm_types.specs.Messages.{no_token}
use Rattle.hsm_types.specs.Refusals.{first_refusal}
use Rattle.hsm_types.specs.Rights.{conflict}
use Rattle.hsm_types.specs.declared.dm.Right.TheVariants.{Null}
use Rattle.hsm_types.specs.declared.keys.FileKey.{FileKey}
use Rattle.hsm_types.specs.declared.keys.Sid.{Sid}
use Rattle.hsm_types.specs.declared.keys.Token.{Token}
use Rattle.hsm_types.specs.declared.stores.Limits.{Limits}
use Rattle.hsm_types.specs.declared.stores.Superblock.{Superblock}
use Rattle.hsm_types.specs.declared.calls.Call.{Call}
use Rattle.hsm_types.specs.declared.calls.Call.TheVariants.{Create, Read, Stat, Sync}
use Rattle.hsm_types.specs.declared.calls.CallRefusal.{CallRefusal}
use Rattle.hsm_types.specs.declared.calls.CallRefusal.TheVariants.{Waiting, Idle}
use Rattle.hsm_types.specs.declared.calls.Reply.{Reply}
use Rattle.hsm_types.specs.declared.calls.Reply.TheVariants.{Still, Refused}
use Rattle.hsm_types.specs.declared.dm.DmCall.{DmCall}
use Rattle.hsm_types.specs.declared.dm.DmCall.TheVariants.{Respond, CreateUserEvent, GetSpace}
use Rattle.hsm_types.specs.declared.dm.DmRefusal.{DmRefusal}
use Rattle.hsm_types.specs.declared.dm.DmReply.{DmReply}
use Rattle.hsm_types.specs.declared.dm.DmReply.TheVariants as told
use Rattle.hsm_types.specs.declared.dm.Kind.TheVariants as kinds
use Rattle.hsm_types.specs.declared.dm.Response.{Response}
use Rattle.plain_model.specs.declared.entries.Actor.{Actor}
use Rattle.plain_model.specs.declared.entries.Actor.TheVariants.{Caller, Session}
use Rattle.plain_model.specs.declared.entries.Action.{Action}
use Rattle.plain_model.specs.declared.entries.Action.TheVariants.{Issue, Resume, Dm}
use Rattle.plain_model.specs.declared.entries.Answer.{Answer}
use Rattle.plain_model.specs.declared.entries.Answer.TheVariants.{Dm as Told}
use Rattle.plain_model.specs.declared.facts.NoRoom.{NoRoom}
use Rattle.hsm_types.specs.Keyed.{set_at}
use Rattle.plain_model.specs.Ledger.{Access, Ledger, Meant, Fixed, Means, issued, goes_on, resumed, objection_again, kept, waits_for, answered, ledger_told}
use Rattle.plain_model.specs.Plain.{refusal_of}
use Rattle.plain_model.specs.State.{Flags, State, names_of}
use Rattle.plain_model.specs.Verdict.{Ruling, Blocks, Posts, Lacks, Verdict, posts, without_room, short_of, is_taken, facts_of, shortage, verdict}
use Rattle.plain_model.specs.Verdict.{flags_now, left_by_verdict, state_where}
use Rattle.plain_model.specs.Services.{service, dm_judged, dm_state_where}
use Rattle.plain_model.specs.Exact.{left_told, left_answered}
use Rattle.hsm_core.specs.Targets.{IsOnFile, MayLast, EachLasts}
use Rattle.plain_model.proofs.Ruling.{unhindered}
use Rattle.hsm_core.proofs.Targets.{bounded}

abbrev Lasts : Limits → Option Access → Type 0
Lasts limits waits = IfSome waits (λ a. MayLast limits a.call)

-- of whoever waits then
at_caller : (limits : Limits) (c d : ℕ) (left : Option Access) (pending : ℕ → Option Access) → Lasts limits left → Lasts limits (pending d) → Lasts limits (set_at c left pending d)
at_caller limits c d left pending here there = elim (d == c) as (λ b. Lasts limits (if b then left else pending d)) [ true ↦ here | false ↦ there ]

kept_lasts : (limits : Limits) (reply : Reply) (waits : Option Access) → Lasts limits waits → Lasts limits (kept reply waits)
kept_lasts limits (Still t) waits is = is
kept_lasts limits (Refused Waiting) waits is = is
kept_lasts limits (Refused Idle) waits is = is
kept_lasts limits reply waits is = tt

-- ---- a caller's event

verdict_lasts : (s : Superblock) (st : State) (c : ℕ) (fl : Flags) (k : FileKey) (call : Call) (v : Verdict) → EachLasts s.geometry.limits st.ledger → ((ruling : Ruling) → v ≡ Some ruling → MayLast s.geometry.limits call) → EachLasts s.geometry.limits (left_by_verdict s st c fl k call v).ledger
verdict_lasts s st c fl k call (Some (Blocks t)) is may d = at_caller s.geometry.limits c d _ st.ledger.pending (may (Blocks t) refl) (is d)
verdict_lasts s st c fl k call (Some (Posts kind)) is may d = at_caller s.geometry.limits c d _ st.ledger.pending (may (Posts kind) refl) (is d)
verdict_lasts s st c fl k call (Some (Lacks need free)) is may d = at_caller s.geometry.limits c d _ st.ledger.pending tt (is d)
verdict_lasts s st c fl k (Create name) None is may d = at_caller s.geometry.limits c d _ st.ledger.pending tt (is d)
verdict_lasts s st c fl k (Read name offset len) None is may d = at_caller s.geometry.limits c d _ st.ledger.pending tt (is d)
verdict_lasts s st c fl k (Stat name) None is may d = at_caller s.geometry.limits c d _ st.ledger.pending tt (is d)
verdict_lasts s st c fl k call None is may d = at_caller s.geometry.limits c d _ st.ledger.pending tt (is d)

where_lasts : (s : Superblock) (st : State) (c : ℕ) (fl : Flags) (why : Option CallRefusal) (m : Meant) → EachLasts s.geometry.limits st.ledger
    → ((k : FileKey) (call : Call) (ruling : Ruling) → m ≡ Means k call → why ≡ None → verdict s st fl k call ≡ Some ruling → MayLast s.geometry.limits call) → EachLasts s.geometry.limits (state_where s st c fl why m).ledger
where_lasts s st c fl why (Fixed reply) is may d = at_caller s.geometry.limits c d _ st.ledger.pending (kept_lasts s.geometry.limits reply (st.ledger.pending c) (is c)) (is d)
where_lasts s st c fl (Some why) (Means k call) is may d = at_caller s.geometry.limits c d _ st.ledger.pending tt (is d)
where_lasts s st c fl None (Means k call) is may d = verdict_lasts s st c fl k call (verdict s st fl k call) is (λ ruling rules. may k call ruling refl refl rules) d

-- no rule applies to creates and syncs
no_shortage : (free : ℕ) → short_of 0 free ≡ None
no_shortage free = let none : nat_lt free 0 ≡ false = grind (arith, nat_tests) in rw none refl

none_ruled : (other : Option Token) (asks asks' asks'' : Bool) (short : Option NoRoom) → other ≡ None → short ≡ None → first_refusal (option_map Blocks other ∷ posts asks None ∷ posts asks' None ∷ without_room asks'' short ∷ []) ≡ None
none_ruled None true true asks'' None free room = refl
none_ruled None true false asks'' None free room = refl
none_ruled None false true asks'' None free room = refl
none_ruled None false false asks'' None free room = refl
none_ruled (Some t) asks asks' asks'' short free room = absurd cc
none_ruled None asks asks' asks'' (Some short) free room = absurd cc

pub never_ruled : (s : Superblock) (st : State) (fl : Flags) (k : FileKey) (call : Call) → IsOnFile call ⊎ (verdict s st fl k call ≡ None)
never_ruled s st fl k (Create name) =
    inr (none_ruled (conflict k Null no_token st.rights) (not fl.cleared && (facts_of s st.held k (Create name)).touches) (fl.cleared && (facts_of s st.held k (Create name)).needs) (not fl.spaced && is_taken kinds.NoSpace st.sessions) (shortage s st.held k (Create name)) (unhindered k no_token st.rights) (no_shortage _))
never_ruled s st fl k Sync =
    inr (none_ruled (conflict k Null no_token st.rights) (not fl.cleared && (facts_of s st.held k Sync).touches) (fl.cleared && (facts_of s st.held k Sync).needs) (not fl.spaced && is_taken kinds.NoSpace st.sessions) (shortage s st.held k Sync) (unhindered k no_token st.rights) (no_shortage _))
never_ruled s st fl k call = inl tt

ruled_lasts : (s : Superblock) (st : State) (fl : Flags) (k : FileKey) (call : Call) (ruling : Ruling) → refusal_of s (names_of st.held.files) call ≡ None → verdict s st fl k call ≡ Some ruling → MayLast s.geometry.limits call
ruled_lasts s st fl k call ruling none is =
    ⊎_elim (λ (on : IsOnFile call). (on, bounded s (names_of st.held.files) call none)) (λ (never : verdict s st fl k call ≡ None). absurd (let wrong : None ≡ Some ruling = sym never ∙ is in cc)) (never_ruled s st fl k call)

same_call : (k j : FileKey) (call other : Call) → Means k call ≡ Means j other → call ≡ other
same_call k j call other is = cc

issue_lasts : (s : Superblock) (st : State) (c : ℕ) (call : Call) (waits : Option Access) → EachLasts s.geometry.limits st.ledger → EachLasts s.geometry.limits (state_where s st c (flags_now st c (Issue call)) (refusal_of s (names_of st.held.files) call) (issued (names_of st.held.files) waits call)).ledger
issue_lasts s st c call None is =
    where_lasts s st c (flags_now st c (Issue call)) (refusal_of s (names_of st.held.files) call) (issued (names_of st.held.files) None call) is
    (λ k other ruling means none rules.
    let same = same_call _ k call other means in
    subst (MayLast s.geometry.limits) same (ruled_lasts s st (flags_now st c (Issue call)) k call ruling none (subst (λ (x : Call). verdict s st (flags_now st c (Issue call)) k x ≡ Some ruling) (sym same) rules)))
issue_lasts s st c call (Some a) is =
    where_lasts s st c (flags_now st c (Issue call)) (refusal_of s (names_of st.held.files) call) (issued (names_of st.held.files) (Some a) call) is (λ k other ruling means none rules. absurd cc)

goes_on_lasts : (limits : Limits) (a : Access) (token : Option Token) (answer : Option Response) (k : FileKey) (call : Call) → goes_on a token answer ≡ Means k call → MayLast limits a.call → MayLast limits call
goes_on_lasts limits a (Some t) None k call is last = absurd cc
goes_on_lasts limits a None answer k call is last = subst (MayLast limits) (same_call a.key k a.call call is) last
goes_on_lasts limits a (Some t) (Some response) k call is last = subst (MayLast limits) (same_call a.key k a.call call is) last

resumed_lasts : (limits : Limits) (waits : Option Access) (k : FileKey) (call : Call) → resumed waits ≡ Means k call → Lasts limits waits → MayLast limits call
resumed_lasts limits None k call is last = absurd cc
resumed_lasts limits (Some a) k call is last = goes_on_lasts limits a a.token a.answer k call is last

-- ---- a session's call

answered_lasts : (limits : Limits) (t : Token) (response : Response) (waits : Option Access) → Lasts limits waits → Lasts limits (answered t response waits)
answered_lasts limits t response None is = tt
answered_lasts limits t response (Some a) is = elim (waits_for t a.token) as (λ b. Lasts limits (if b then Some (record a { answer = Some response }) else Some a)) [ true ↦ is | false ↦ is ]

told_lasts : (limits : Limits) (L : Ledger) (call : DmCall) (reply : DmReply) → EachLasts limits L → EachLasts limits (ledger_told L call reply)
told_lasts limits L (Respond t response) told.Done is c = answered_lasts limits t response (L.pending c) (is c)
told_lasts limits L (CreateUserEvent body) (told.Token t) is c = is c
told_lasts limits L GetSpace reply is c = is c
told_lasts limits L call reply is c = is c

dm_lasts : (limits : Limits) (st : State) (sid : Sid) (call : DmCall) (reply : DmReply) → EachLasts limits st.ledger → EachLasts limits (left_told st sid call reply).ledger
dm_lasts limits st sid call (told.Refused why) is = is
dm_lasts limits st sid call reply is = told_lasts limits st.ledger call reply is

own_lasts : (s : Superblock) (st : State) (sid : Sid) (call : DmCall) (why : Option DmRefusal) → EachLasts s.geometry.limits st.ledger → EachLasts s.geometry.limits (dm_state_where why s st sid call).ledger
own_lasts s st sid call None is = told_lasts s.geometry.limits st.ledger call (service s st sid call).reply is
own_lasts s st sid call (Some why) is = is

-- ---- any event

pub event_lasts : (s : Superblock) (st : State) (actor : Actor) (action : Action) (answer : Answer) → EachLasts s.geometry.limits st.ledger → EachLasts s.geometry.limits (left_answered s st actor action answer).ledger
event_lasts s st (Caller c) (Issue call) answer is = issue_lasts s st c call (st.ledger.pending c) is
event_lasts s st (Caller c) Resume answer is =
    where_lasts s st c (flags_now st c Resume) (objection_again (names_of st.held.files) (st.ledger.pending c)) (resumed (st.ledger.pending c)) is (λ k call kind means none posts. resumed_lasts s.geometry.limits (st.ledger.pending c) k call means (is c))
event_lasts s st (Session sid) (Dm call) (Told reply) is = dm_lasts s.geometry.limits st sid call reply is
event_lasts s st (Session sid) (Dm call) answer is = own_lasts s st sid call (dm_judged s st sid call) is
event_lasts s st actor action answer is = is
