-- In a served history the message of a token is the one that told of the event that a daemon keeps, and of the file that recall was given.
use Rattle.std.proofs.Common.{◌≡◌, ℕ, ◌+◌, ◌<◌, ◌≤◌, Bool, true, false, List, [], ◌∷◌, ◌++◌, Option, None, Some, inl, inr, refl, sym, ap, subst, ◌∙◌, arith}
use Rattle.std.proofs.lemmas.Bool.{eq-eqb, ne_eqb}
use Rattle.std.proofs.lemmas.List.Elements.{All-nil, All-weaker, All-contains}
use Rattle.std.specs.Prelude.{if◌then◌else◌, Contains}
use Rattle.std.specs.List.{All}
use Rattle.hsm_types.specs.Daemons.{kinds_of}
use Rattle.hsm_types.specs.Messages.{no_token, takes, user_message}
use Rattle.hsm_types.specs.Sessions.{SessionTable}
use Rattle.hsm_types.specs.declared.calls.Reply.{Reply}
use Rattle.hsm_types.specs.declared.daemons.Daemon.{Daemon}
use Rattle.hsm_types.specs.declared.daemons.Daemon.TheVariants.{Recall, Migrate}
use Rattle.hsm_types.specs.declared.dm.DmCall.{DmCall}
use Rattle.hsm_types.specs.declared.dm.DmCall.TheVariants as call
use Rattle.hsm_types.specs.declared.dm.DmRefusal.{DmRefusal}
use Rattle.hsm_types.specs.declared.dm.DmReply.{DmReply}
use Rattle.hsm_types.specs.declared.dm.DmReply.TheVariants as reply
use Rattle.hsm_types.specs.declared.dm.Right.TheVariants.{Excl}
use Rattle.hsm_types.specs.declared.keys.FileKey.{FileKey}
use Rattle.hsm_types.specs.declared.keys.Handle.{Handle}
use Rattle.hsm_types.specs.declared.keys.Sid.{Sid}
use Rattle.hsm_types.specs.declared.keys.Token.{Token}
use Rattle.hsm_types.specs.declared.messages.Message.{Message}
use Rattle.hsm_types.specs.declared.stores.Superblock.{Superblock}
use Rattle.plain_model.specs.declared.entries.Action.{Action}
use Rattle.plain_model.specs.declared.entries.Action.TheVariants.{Issue, Resume, Dm}
use Rattle.plain_model.specs.declared.entries.Actor.{Actor}
use Rattle.plain_model.specs.declared.entries.Actor.TheVariants.{Caller, Session}
use Rattle.plain_model.specs.declared.entries.Answer.{Answer}
use Rattle.plain_model.specs.declared.entries.Answer.TheVariants.{Call as Replied, Dm as Told}
use Rattle.plain_model.specs.declared.entries.Entry.{Entry}
use Rattle.hsm_types.specs.Keyed.{set_at}
use Rattle.plain_model.specs.Once.{gives}
use Rattle.plain_model.specs.State.{Held, State, just_opened, noted}
use Rattle.plain_model.specs.Verdict.{flags_now, objection_in, meant_in, reply_to}
use Rattle.plain_model.specs.Services.{dm_judged, dm_state_where}
use Rattle.plain_model.specs.Stands.{InOrder}
use Rattle.plain_model.specs.Faults.{is_fault}
use Rattle.plain_model.specs.Exact.{IsOwn, IsAnswer, IsAnswerSeen, left_own, left_by, state_by}
use Rattle.plain_model.proofs.Faultless.{fault_is}
use Rattle.plain_model.proofs.Ledgers.{Moves, event_moves}
use Rattle.plain_model.proofs.Seeing.{exact_left}
use Rattle.event_msgs.specs.Reading.{told}
use Rattle.dm_service.specs.Handing.{HandsOut}
use Rattle.hsm_policy.specs.Settings.{Numbers}
use Rattle.daemon_session.specs.declared.events.Event.{Event}
use Rattle.daemon_session.specs.declared.events.Kept.{Kept}
use Rattle.daemon_session.specs.Tellings.{event_on}
use Rattle.hsm_core.specs.Answers.{entry_of}
use Rattle.hsm_core.specs.Packed.{HandsBy}
use Rattle.marked_history.specs.Marks.{Mark, entries_of, answered_call_by, made}
use Rattle.marked_history.specs.Served.{Shown, nothing_shown, with_entry, learned, shown, IsTold, IsServedBy}
use Rattle.marked_history.specs.Tokens.{seat_of, IsGranted, IsPresent, Tells, TellsOn, ServedTellsOne}
use Rattle.marked_history.proofs.Carrying.{Each, each_weaker, none_each, queue_of_each, outstanding_of_each, posted_each}
use Rattle.marked_history.proofs.Handing.{Makes, made_told, PostsParked, posts_where}
use Rattle.marked_history.proofs.Lists.{none_there, place}
use Rattle.marked_history.proofs.Walking.{KeptBy, kept_behind}
use Rattle.marked_history.proofs.Seen.{over, is_over, ordered_over}
use Rattle.marked_history.proofs.Remembering.{TellsOnly, recall_kept, migrate_kept, tells_each}

-- ---- of each token its message

abbrev pub Register : Type 0
Register = ℕ → Message

-- of a token that was never given, and of a session's own message
abbrev pub unknown : Message
unknown = user_message no_token []

-- what a message tells, but for its token, and for the body of a session's own
abbrev pub told_in : Message → Message
told_in m = record m { token = no_token; body = [] }

-- as the register has it
pub record IsListed (f : Register) (top : ℕ) (m : Message) : Type 0 where
  pub within : m.token.0 ≤ top
  pub told : told_in m ≡ told_in (f m.token.0)

-- It has each message of the table, and none of a token that wasn't given.
pub record IsRegister (f : Register) (top : ℕ) (t : SessionTable) : Type 0 where
  pub none : f 0 ≡ unknown
  pub fresh : (n : ℕ) → top < n → f n ≡ unknown
  pub each : Each (IsListed f top) t

-- that of the state after an event, which has the same messages of tokens that were given before
pub record Next (f : Register) (top : ℕ) (after : State) : Type 0 where
  pub next : Register
  pub rises : top ≤ after.ledger.top
  pub same : (n : ℕ) → n ≤ top → next n ≡ f n
  pub is : IsRegister next after.ledger.top after.sessions

listed_next : (f g : Register) (top above : ℕ) → top ≤ above → ((n : ℕ) → n ≤ top → g n ≡ f n) → (m : Message) → IsListed f top m → IsListed g above m
listed_next f g top above rises same m is =
    let old = same m.token.0 is.within in
    let low = is.within in
    record { within = omega arith; told = is.told ∙ sym (ap told_in old) }

set_else : (f : Register) (n place : ℕ) (m : Message) → (n ≡ place → ⊥) → set_at place m f n ≡ f n
set_else f n place m apart = rw (ne_eqb n place apart) refl

set_here : (f : Register) (place : ℕ) (m : Message) → set_at place m f place ≡ m
set_here f place m = rw (eq-eqb place place refl) refl

module _ (s : Superblock) (st : State) (f : Register) (is : IsRegister f st.ledger.top st.sessions) where
  abbrev NextOf : State → Type 0
  NextOf after = Next f st.ledger.top after

  -- the register stays
  stays : (after : State) → st.ledger.top ≤ after.ledger.top → Each (IsListed f after.ledger.top) after.sessions → NextOf after
  stays after rises each = record {
    next = f;
    rises = rises;
    same = λ n old. refl;
    is = record { none = is.none; fresh = λ n past. is.fresh n (omega arith); each = each };
  }

  later : (top : ℕ) → st.ledger.top ≤ top → Each (IsListed f top) st.sessions
  later top rises = each_weaker (IsListed f st.ledger.top) (IsListed f top) (listed_next f f st.ledger.top top rises (λ n old. refl)) st.sessions is.each

  -- a message more, of a new token
  module _ (after : State) (m : Message) (new : st.ledger.top < m.token.0) (within : m.token.0 ≤ after.ledger.top) where
    abbrev more : Register
    more = set_at m.token.0 m f

    same_more : (n : ℕ) → n ≤ st.ledger.top → more n ≡ f n
    same_more n old = set_else f n m.token.0 m (λ same. omega arith)

    listed_more : IsListed more after.ledger.top m
    listed_more = record { within = within; told = ap told_in (sym (set_here f m.token.0 m)) }

    grows : Each (IsListed more after.ledger.top) after.sessions → NextOf after
    grows each = record {
      next = more;
      rises = omega arith;
      same = same_more;
      is = record {
        none = set_else f 0 m.token.0 m (λ same. omega arith) ∙ is.none;
        fresh = λ n past. set_else f n m.token.0 m (λ same. omega arith) ∙ is.fresh n (omega arith);
        each = each;
      };
    }

  posts : (after : State) (c : ℕ) (what : Action) (told : Reply) → PostsParked s st after c told → Moves st.ledger after.ledger (Caller c) what (Replied told) → NextOf after
  posts after c what told (inl same) moves = stays after moves.rises (subst (λ (t : SessionTable). Each (IsListed f after.ledger.top) t) (sym same) (later after.ledger.top moves.rises))
  posts after c what told (inr p) moves =
      let new = moves.given p.message.token.0 (ap (λ (r : Reply). gives (Replied r)) p.parks) in
      grows after p.message new.0 new.1
      (subst (λ (t : SessionTable). Each (IsListed (set_at p.message.token.0 p.message f) after.ledger.top) t) (sym p.posts)
      (posted_each (IsListed (set_at p.message.token.0 p.message f) after.ledger.top) p.message st.sessions
      (each_weaker (IsListed f st.ledger.top) (IsListed (set_at p.message.token.0 p.message f) after.ledger.top) (listed_next f (set_at p.message.token.0 p.message f) st.ledger.top after.ledger.top moves.rises (same_more after p.message new.0 new.1)) st.sessions is.each)
      (listed_more after p.message new.0 new.1)))

  -- a message of a session's own is so
  own_listed : (top : ℕ) (t : Token) (body : List ℕ) → t.0 ≤ top → f t.0 ≡ unknown → IsListed f top (user_message t body)
  own_listed top t body within none = record { within = within; told = ap told_in (sym none) }

  makes : (x : Sid) (c : DmCall) → Makes (IsListed f (dm_state_where None s st x c).ledger.top) st c
  makes x (call.CreateUserEvent body) = own_listed (st.ledger.top + 1) _ body (omega arith) (is.fresh (st.ledger.top + 1) (omega arith))
  makes x (call.SendMsg target body) = own_listed st.ledger.top no_token body (omega arith) is.none
  makes x c = tt

  told_next : (why : Option DmRefusal) (x : Sid) (c : DmCall) → st.ledger.top ≤ (dm_state_where why s st x c).ledger.top → NextOf (dm_state_where why s st x c)
  told_next why x c rises =
      stays (dm_state_where why s st x c) rises
      (made_told (IsListed f (dm_state_where why s st x c).ledger.top) st (later (dm_state_where why s st x c).ledger.top rises) why s x c
      (λ none. subst (λ (o : Option DmRefusal). Makes (IsListed f (dm_state_where o s st x c).ledger.top) st c) (sym none) (makes x c)))

  own_next : (who : Actor) (what : Action) (answer : Answer) → IsOwn s st who what answer → Moves st.ledger (left_own s st who what).ledger who what answer → NextOf (left_own s st who what)
  own_next (Caller c) (Issue call) answer own moves =
      posts (left_own s st (Caller c) (Issue call)) c (Issue call) (reply_to s st c (Issue call)) (posts_where s st c (flags_now st c (Issue call)) (objection_in s st c (Issue call)) (meant_in st c (Issue call)))
      (subst (λ (a : Answer). Moves st.ledger (left_own s st (Caller c) (Issue call)).ledger (Caller c) (Issue call) a) own.1 moves)
  own_next (Caller c) Resume answer own moves =
      posts (left_own s st (Caller c) Resume) c Resume (reply_to s st c Resume) (posts_where s st c (flags_now st c Resume) (objection_in s st c Resume) (meant_in st c Resume))
      (subst (λ (a : Answer). Moves st.ledger (left_own s st (Caller c) Resume).ledger (Caller c) Resume a) own.1 moves)
  own_next (Session x) (Dm c) answer own moves = told_next (dm_judged s st x c) x c moves.rises
  own_next who what answer own moves = stays (noted st) (omega arith) is.each

  if_next : (fault : Bool) (who : Actor) (what : Action) (answer : Answer) → IsOwn s st who what answer → Moves st.ledger (if fault then noted st else left_own s st who what).ledger who what answer → NextOf (if fault then noted st else left_own s st who what)
  if_next true who what answer own moves = stays (noted st) (omega arith) is.each
  if_next false who what answer own moves = own_next who what answer own moves

  left_next : (who : Actor) (what : Action) (answer : Answer) → InOrder st → IsAnswer s st who what answer → NextOf (left_by s st who what answer)
  left_next who what answer ordered (inl faulty) = let fault : is_fault answer ≡ true = ap is_fault faulty.1 ∙ fault_is what in rw fault (stays (noted st) (omega arith) is.each)
  left_next who what answer ordered (inr own) =
      let left = exact_left s st who what answer (inr own) in
      subst NextOf (sym left) (if_next (is_fault answer) who what answer own (subst (λ (after : State). Moves st.ledger after.ledger who what answer) left (event_moves s st who what answer ordered (inr own))))

-- on any disk
pub seen_next : (s : Superblock) (st : State) (f : Register) → IsRegister f st.ledger.top st.sessions → (who : Actor) (what : Action) (answer : Answer) → InOrder st → IsAnswerSeen ⊥ s st who what answer → Next f st.ledger.top (left_by s st who what answer)
seen_next s st f is who what answer ordered given =
    let there = is_over s st who what answer given in
    let next = left_next s (over st there.seen) f is who what answer (ordered_over st there.seen ordered) there.exact in
    subst (Next f st.ledger.top) (sym there.left) (record { next = next.next; rises = next.rises; same = next.same; is = next.is })

-- ---- events and files of tokens

-- what tells of the event
abbrev pub telling : Event → Message
telling e = record { kind = e.kind; token = no_token; handle = Some e.handle; offset = e.offset; length = e.length; body = [] }

-- the event is that of the token's message
pub record IsEventOf (d : Daemon) (f : Register) (top : ℕ) (e : Event) : Type 0 where
  pub within : e.token.0 ≤ top
  pub told : told_in (f e.token.0) ≡ telling e
  pub own : takes (kinds_of d) e.kind ≡ true

-- the same of a message alone
pub told_handle : (m : Message) (e : Event) → told_in m ≡ telling e → m.handle ≡ Some e.handle
told_handle m e is = ap (λ (x : Message). x.handle) is

pub told_kind : (m : Message) (e : Event) → told_in m ≡ telling e → m.kind ≡ e.kind
told_kind m e is = ap (λ (x : Message). x.kind) is

told_event_on : (m : Message) (e : Event) → told_in m ≡ telling e → m.token ≡ e.token → event_on m e.handle ≡ e
told_event_on m e is same = λ i. record { token = same i; kind = (is i).kind; handle = e.handle; offset = (is i).offset; length = (is i).length }

-- that message told recall of the file
pub record IsFileOf (f : Register) (top : ℕ) (t : Token) (k : FileKey) : Type 0 where
  pub within : t.0 ≤ top
  pub tells : TellsOn k (f t.0)

-- of recall it told the file
pub file_told : (f : Register) (top : ℕ) (e : Event) (h : Handle) → IsEventOf Recall f top e → e.handle ≡ h → TellsOn h.key (f e.token.0)
file_told f top e h own same =
    record { told = e.handle; handle = told_handle (f e.token.0) e own.told; file = ap (λ (y : Handle). y.key) same; own = ap (takes (kinds_of Recall)) (told_kind (f e.token.0) e own.told) ∙ own.own }

module _ (f g : Register) (top above : ℕ) (rises : top ≤ above) (same : (n : ℕ) → n ≤ top → g n ≡ f n) where
  pub event_next : (d : Daemon) (e : Event) → IsEventOf d f top e → IsEventOf d g above e
  event_next d e is =
      let old = same e.token.0 is.within in
      let low = is.within in
      record { within = omega arith; told = ap told_in old ∙ is.told; own = is.own }

  pub file_next : (t : Token) (k : FileKey) → IsFileOf f top t k → IsFileOf g above t k
  file_next t k is = let low = is.within in record { within = omega arith; tells = subst (TellsOn k) (sym (same t.0 is.within)) is.tells }

module _ (d : Daemon) (f : Register) (top : ℕ) where
  abbrev pub IsKeptOf : Kept → Type 0
  IsKeptOf k = IsEventOf d f top k.event

  told_event : (m : Message) (h : Handle) → IsListed f top m → takes (kinds_of d) m.kind ≡ true → m.handle ≡ Some h → IsEventOf d f top (event_on m h)
  told_event m h is own has = record { within = is.within; told = sym is.told ∙ ap (λ (o : Option Handle). record (told_in m) { handle = o }) has; own = own }

  pub tells_only : (t : SessionTable) (x : Sid) (c : DmCall) (a : DmReply) → Each (IsListed f top) t → HandsOut t x c a → TellsOnly (IsEventOf d f top) d c a
  tells_only t x c a each hands = tells_each (IsEventOf d f top) d (IsListed f top) told_event t x c a each hands

-- ---- any entry

-- what is known of both daemons, and of each file that recall was given
record Follows (f : Register) (top : ℕ) (marks : List Mark) (k : Shown) : Type 0 where
  pub recall : All (IsKeptOf Recall f top) k.recall.seat.kept
  pub migrate : All (IsKeptOf Migrate f top) k.migrate.seat.kept
  pub granted : (t : Token) (key : FileKey) → IsGranted marks t key → IsFileOf f top t key

follows_next : (f g : Register) (top above : ℕ) → top ≤ above → ((n : ℕ) → n ≤ top → g n ≡ f n) → (marks : List Mark) (k : Shown) → Follows f top marks k → Follows g above marks k
follows_next f g top above rises same marks k is = record {
  recall = All-weaker (IsKeptOf Recall f top) (IsKeptOf Recall g above) (λ x. event_next f g top above rises same Recall x.event) k.recall.seat.kept is.recall;
  migrate = All-weaker (IsKeptOf Migrate f top) (IsKeptOf Migrate g above) (λ x. event_next f g top above rises same Migrate x.event) k.migrate.seat.kept is.migrate;
  granted = λ t key given. file_next f g top above rises same t key (is.granted t key given);
}

module _ (limits : Numbers) (st : State) (done : List Mark) (f : Register) (is : IsRegister f st.ledger.top st.sessions) (k : Shown) (follows : Follows f st.ledger.top done k) where
  -- recall asks for the file of an event that it keeps
  asked_file : (t : Token) (h : Handle) → IsTold k.recall.seat.kept t h → IsFileOf f st.ledger.top t h.key
  asked_file t h asked =
      let own : IsEventOf Recall f st.ledger.top asked.0 = All-contains (IsKeptOf Recall f st.ledger.top) k.recall.seat.kept (record { event = asked.0; marked = asked.1.0 }) follows.recall asked.1.1 in
      subst (λ (u : Token). IsFileOf f st.ledger.top u h.key) asked.2 (record {
        within = own.within;
        tells = file_told f st.ledger.top asked.0 h own asked.3;
      })

  granted_last : (m : Mark) → IsServedBy m.by k m → (sid : Sid) (t : Token) (h : Handle) → m ≡ made Recall sid (call.RequestRight t h Excl) reply.Done → IsFileOf f st.ledger.top t h.key
  granted_last m served sid t h same = let may = subst (λ (x : Mark). IsServedBy x.by k x) same served in asked_file t h may.2

  granted_more : (m : Mark) → IsServedBy m.by k m → (t : Token) (key : FileKey) → IsGranted (done ++ m ∷ []) t key → IsFileOf f st.ledger.top t key
  granted_more m served t key given = elim (place done m given.before (made Recall given.sid (call.RequestRight t given.handle Excl) reply.Done) given.rest given.parted) [
    | inl last ↦ subst (IsFileOf f st.ledger.top t) given.file (granted_last m served given.sid t given.handle (sym last.1))
    | inr own ↦ follows.granted t key (record { before = given.before; sid = given.sid; handle = given.handle; rest = own.0; parted = own.2; file = given.file })
  ]

  step : (by : Option Daemon) (who : Actor) (what : Action) (answer : Answer) → HandsBy st who what answer → IsServedBy by k (record { entry = entry_of who what answer; by = by })
      → Follows f st.ledger.top (done ++ (record { entry = entry_of who what answer; by = by }) ∷ []) (with_entry limits by (answered_call_by who what answer) k)
  step None who what answer hands served = record { recall = follows.recall; migrate = follows.migrate; granted = granted_more (record { entry = entry_of who what answer; by = None }) served }
  step (Some Recall) (Session x) (Dm c) (Told a) hands served = record {
    recall = recall_kept (IsEventOf Recall f st.ledger.top) k.recall c a follows.recall (tells_only Recall f st.ledger.top st.sessions x c a is.each hands);
    migrate = follows.migrate;
    granted = granted_more (made Recall x c a) served;
  }
  step (Some Migrate) (Session x) (Dm c) (Told a) hands served = record {
    recall = follows.recall;
    migrate = migrate_kept (IsEventOf Migrate f st.ledger.top) limits k.migrate c a follows.migrate (tells_only Migrate f st.ledger.top st.sessions x c a is.each hands);
    granted = granted_more (made Migrate x c a) served;
  }
  step (Some d) who what answer hands served = absurd served

-- ---- whole histories

-- of the state and what is shown then
record Registered (st : State) (marks : List Mark) (k : Shown) : Type 0 where
  pub register : Register
  pub is : IsRegister register st.ledger.top st.sessions
  pub follows : Follows register st.ledger.top marks k

registered_next : (limits : Numbers) (s : Superblock) → KeptBy limits s (λ done now k. Registered now done k)
registered_next limits s done now k m ordered answer hands served r =
    let next = seen_next s now r.register r.is m.entry.actor m.entry.action m.entry.answer ordered answer in
    record {
      register = next.next;
      is = next.is;
      follows = follows_next r.register next.next now.ledger.top _ next.rises next.same (done ++ m ∷ []) (learned limits k m)
          (step limits now done r.register r.is k r.follows m.by m.entry.actor m.entry.action m.entry.answer hands served);
    }

-- nothing is listed of a store that was just opened
first_registered : (base : ℕ) (h : Held) → Registered (just_opened base h) [] nothing_shown
first_registered base h = record {
  register = λ n. unknown;
  is = record { none = refl; fresh = λ n past. refl; each = none_each (IsListed (λ n. unknown) 0) };
  follows = record {
    recall = All-nil (IsKeptOf Recall (λ n. unknown) 0);
    migrate = All-nil (IsKeptOf Migrate (λ n. unknown) 0);
    granted = λ t key given. absurd (none_there given.before _ given.rest given.parted);
  };
}

-- ---- the law

module _ (st : State) (f : Register) (is : IsRegister f st.ledger.top st.sessions) where
  present_listed : (m : Message) → IsPresent st.sessions m → IsListed f st.ledger.top m
  present_listed m (inl there) = All-contains (IsListed f st.ledger.top) st.sessions.unrouted m is.each.unrouted there
  present_listed m (inr (sid, inl there)) = All-contains (IsListed f st.ledger.top) _ m (queue_of_each (IsListed f st.ledger.top) sid st.sessions is.each) there
  present_listed m (inr (sid, inr there)) = All-contains (IsListed f st.ledger.top) _ m (outstanding_of_each (IsListed f st.ledger.top) sid st.sessions is.each) there

  pub event_tells : (d : Daemon) (e : Event) (m : Message) → IsEventOf d f st.ledger.top e → IsPresent st.sessions m → m.token ≡ e.token → Tells d e m
  event_tells d e m own there same =
      let listed = present_listed m there in
      let one : f m.token.0 ≡ f e.token.0 = ap (λ (u : Token). f u.0) same in
      let told : told_in m ≡ telling e = listed.told ∙ (ap told_in one ∙ own.told) in
      record { handle = told_handle m e told; event = told_event_on m e told same; own = ap (takes (kinds_of d)) (told_kind m e told) ∙ own.own }

  pub file_tells : (u : Token) (k : FileKey) (m : Message) → IsFileOf f st.ledger.top u k → IsPresent st.sessions m → m.token ≡ u → TellsOn k m
  file_tells u k m given there same =
      let listed = present_listed m there in
      let own = given.tells in
      let one : f m.token.0 ≡ f u.0 = ap (λ (v : Token). f v.0) same in
      let told : told_in m ≡ told_in (f u.0) = listed.told ∙ ap told_in one in
      record { told = own.told; handle = ap (λ (x : Message). x.handle) told ∙ own.handle; file = own.file; own = ap (λ (x : Message). takes (kinds_of Recall) x.kind) told ∙ own.own }

module _ (limits : Numbers) (marks : List Mark) (st : State) (r : Registered st marks (shown limits nothing_shown marks)) where
  kept_tells : (d : Daemon) (k : Kept) (m : Message) → Contains (seat_of d (shown limits nothing_shown marks)).kept k → IsPresent st.sessions m → m.token ≡ k.event.token → Tells d k.event m
  kept_tells Recall k m has there same = event_tells st r.register r.is Recall k.event m (All-contains (IsKeptOf Recall r.register st.ledger.top) _ k r.follows.recall has) there same
  kept_tells Migrate k m has there same = event_tells st r.register r.is Migrate k.event m (All-contains (IsKeptOf Migrate r.register st.ledger.top) _ k r.follows.migrate has) there same

  granted_tells : (u : Token) (k : FileKey) (m : Message) → IsGranted marks u k → IsPresent st.sessions m → m.token ≡ u → TellsOn k m
  granted_tells u k m given there same = file_tells st r.register r.is u k m (r.follows.granted u k given) there same

pub served_tells_one : (limits : Numbers) (s : Superblock) (base : ℕ) (h : Held) (marks : List Mark) (es : List Entry) → ServedTellsOne limits s base h marks es
served_tells_one limits s base h marks es same served run packed =
    let r = kept_behind limits s (λ done now k. Registered now done k) (registered_next limits s) base h marks es same served run packed (first_registered base h) in
    record { kept = kept_tells limits marks (state_by s (just_opened base h) (entries_of marks)) r; granted = granted_tells limits marks (state_by s (just_opened base h) (entries_of marks)) r }
