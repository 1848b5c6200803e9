-- Lines: an actor, and what it says.
use Rattle.std.proofs.Common.{◌≡◌, ◌≢◌, ℕ, ◌-◌, ◌^◌, ◌<◌, List, [], ◌∷◌, ◌++◌, length, take, drop, refl, sym, ap, ◌∙◌, subst, Option, Some, None, arith}
use Rattle.std.specs.Prelude.{codes}
use Rattle.std.specs.List.{AllByRecursion}
use Rattle.std.specs.Fmt.{decimal}
use Rattle.std.proofs.lemmas.List.{take_all}
use Rattle.std.proofs.lemmas.Fmt.{decimal_injective}
use Rattle.hsm_types.specs.Callers.{IsCallerNumber}
use Rattle.hsm_types.specs.Calls.{scope_of}
use Rattle.hsm_types.specs.declared.keys.Sid.{Sid}
use Rattle.plain_model.specs.declared.entries.Actor.{Actor}
use Rattle.plain_model.specs.declared.entries.Actor.TheVariants.{Caller, Session, Store}
use Rattle.plain_model.specs.declared.entries.Action.{Action}
use Rattle.plain_model.specs.declared.entries.Action.TheVariants.{Issue, Resume, Dm, Commit}
use Rattle.event_text.specs.Render.{spaced, actor_word, action_words}
use Rattle.script_text.specs.declared.lines.Allowed.{Allowed}
use Rattle.script_text.specs.declared.lines.Line.{Line}
use Rattle.script_text.specs.declared.lines.Line.TheVariants.{Event, Start, Kill, Step, Settle}
use Rattle.script_text.specs.declared.requests.DmRequest.{DmRequest}
use Rattle.script_text.specs.declared.requests.Request.{Request}
use Rattle.script_text.specs.Lines.{data_word, line_words, line_text, IsAskedBy, IsEvent, IsLine}
use Rattle.script_text.specs.Scripts.{IsNextLine}
use Rattle.script_text.specs.Reading.{Reads, Lacks, IsNoEvent, caller_word, sid_word, IsSid, request_text, IsRequest, dm_request_text, IsDmRequest, text_by}
use Rattle.script_text.proofs.Cutting.{Lacks-not, Lacks-join, cut_same}
use Rattle.script_text.proofs.DaemonParts.{IsVerb, no_other_verb, one_no_event, no_event_lawful, Lacks-no_event, no_event_uncut, no_event_cut}
use Rattle.script_text.proofs.Numerals.{Lacks-decimal}
use Rattle.script_text.proofs.Spelling.{IsVisible, Lacks-visible, visible_decimal}
use Rattle.script_text.proofs.Calling.{one_request, no_resume, Lacks-request, one_dm_request, Lacks-dm_request}

-- ---- actors

abbrev pub IsActor : Actor → Type 0
IsActor (Caller c) = IsCallerNumber c
IsActor (Session sid) = IsSid sid
IsActor Store = Unit {0}

visible_actor : (actor : Actor) → IsActor actor → IsVisible (actor_word actor)
visible_actor (Caller c) h = visible_decimal c (omega (arith, h.1))
visible_actor (Session sid) h = visible_decimal sid.0 h
visible_actor Store h = refl

Lacks-actor : (actor : Actor) → IsActor actor → Lacks 32 (actor_word actor)
Lacks-actor actor h = Lacks-visible 32 (actor_word actor) refl (visible_actor actor h)

-- no session is spelled as a word that begins with st
session_no_word : (sid : Sid) (rest : List ℕ) → IsSid sid → actor_word (Session sid) ≢ codes "st" ++ rest
session_no_word sid rest h same =
    let digits : decimal sid.0 ≡ codes "t" ++ rest = cc same in
    absurd ((rw digits at (Lacks-decimal 116 sid.0 (omega arith) h)).0 refl)

session_no_store : (sid : Sid) → IsSid sid → actor_word (Session sid) ≢ actor_word Store
session_no_store sid h same = session_no_word sid (codes "ore") h same

one_actor : (a b : Actor) → IsActor a → IsActor b → actor_word a ≡ actor_word b → a ≡ b
one_actor (Caller c) (Caller d) h k e = ap Caller (decimal_injective c d (omega (arith, h.1)) (omega (arith, k.1)) (cc e))
one_actor (Caller c) (Session sid) h k e = let wrong : ◌≡◌ {A = ℕ} 99 115 = cc e in absurd (omega (arith, wrong))
one_actor (Caller c) Store h k e = let wrong : ◌≡◌ {A = ℕ} 99 115 = cc e in absurd (omega (arith, wrong))
one_actor (Session sid) (Caller c) h k e = let wrong : ◌≡◌ {A = ℕ} 115 99 = cc e in absurd (omega (arith, wrong))
one_actor (Session sid) (Session other) h k e = ap (λ n. Session (record { 0 = n })) (decimal_injective sid.0 other.0 h k (cc e))
one_actor (Session sid) Store h k e = absurd (session_no_store sid h e)
one_actor Store (Caller c) h k e = let wrong : ◌≡◌ {A = ℕ} 115 99 = cc e in absurd (omega (arith, wrong))
one_actor Store (Session sid) h k e = absurd (session_no_store sid k (sym e))
one_actor Store Store h k e = refl

-- no actor is spelled as a verb of a line of a daemon
no_start : (actor : Actor) → IsActor actor → actor_word actor ≢ codes "start"
no_start (Caller c) h same = let wrong : ◌≡◌ {A = ℕ} 99 115 = cc same in absurd (omega (arith, wrong))
no_start (Session sid) h same = session_no_word sid (codes "art") h same
no_start Store h same = let wrong : ◌≡◌ {A = ℕ} 111 97 = cc same in absurd (omega (arith, wrong))

no_kill : (actor : Actor) → IsActor actor → actor_word actor ≢ codes "kill"
no_kill (Caller c) h same = let wrong : ◌≡◌ {A = ℕ} 99 107 = cc same in absurd (omega (arith, wrong))
no_kill (Session sid) h same = let wrong : ◌≡◌ {A = ℕ} 115 107 = cc same in absurd (omega (arith, wrong))
no_kill Store h same = let wrong : ◌≡◌ {A = ℕ} 115 107 = cc same in absurd (omega (arith, wrong))

no_step : (actor : Actor) → IsActor actor → actor_word actor ≢ codes "step"
no_step (Caller c) h same = let wrong : ◌≡◌ {A = ℕ} 99 115 = cc same in absurd (omega (arith, wrong))
no_step (Session sid) h same = session_no_word sid (codes "ep") h same
no_step Store h same = let wrong : ◌≡◌ {A = ℕ} 111 101 = cc same in absurd (omega (arith, wrong))

no_verb : (actor : Actor) → IsActor actor → ¬ (IsVerb (actor_word actor))
no_verb actor h = no_other_verb (actor_word actor) (no_start actor h) (no_kill actor h) (no_step actor h)

-- what an actor says is spelled as no line without an event
no_event_said : (actor : Actor) (text : List ℕ) (line : Line) → IsActor actor → IsNoEvent line → actor_word actor ++ 32 ∷ text ≢ line_text line
no_event_said actor text line k h same = no_verb actor k (no_event_cut (actor_word actor) text line h (Lacks-actor actor k) same).is_verb

-- the number that a caller's word has
pub caller_number : (word : List ℕ) (n x : ℕ) → take (length word - 1) (drop 1 word) ≡ decimal n → n < 2 ^ 64 → IsCallerNumber x → word ≡ caller_word x → IsCallerNumber n
caller_number word n x is small h same =
    let digits : take (length word - 1) (drop 1 word) ≡ decimal x = rw same (take_all _ (decimal x) (omega arith)) in
    let number : x ≡ n = decimal_injective x n (omega (arith, h.1)) small (sym digits ∙ is) in
    (omega (arith, number, h.0), omega (arith, number, h.1))

-- ---- what an actor says

said_text : (actor : Actor) (action : Action) (seed : Option ℕ) → line_text (Event actor action seed) ≡ text_by actor (spaced (action_words (data_word seed) action))
said_text actor (Issue call) seed = refl
said_text actor Resume seed = refl
said_text actor (Dm call) seed = refl
said_text actor Commit seed = refl

event_actor : (actor : Actor) (action : Action) (seed : Option ℕ) → IsEvent actor action seed → IsActor actor
event_actor (Caller c) (Issue call) seed h = h.0
event_actor (Caller c) Resume seed h = h.0
event_actor (Caller c) other seed h = absurd h
event_actor (Session sid) (Dm call) seed h = h.0
event_actor (Session sid) other seed h = absurd h
event_actor Store action seed h = tt

-- what stands behind an actor's word
pub record IsSaid (actor : Actor) (text : List ℕ) : Type 0 where
  pub action : Action
  pub seed : Option ℕ
  pub lawful : IsEvent actor action seed
  pub spelled : text ≡ spaced (action_words (data_word seed) action)

said_by : (who text : List ℕ) (actor : Actor) (action : Action) (seed : Option ℕ) → Lacks 32 who → IsEvent actor action seed → who ++ 32 ∷ text ≡ line_text (Event actor action seed) → (who ≡ actor_word actor) × (text ≡ spaced (action_words (data_word seed) action))
said_by who text actor action seed lacks h same =
    cut_same 32 who text (actor_word actor) (spaced (action_words (data_word seed) action)) lacks (Lacks-actor actor (event_actor actor action seed h)) (same ∙ said_text actor action seed)

said : (actor : Actor) (text : List ℕ) (line : Line) → IsActor actor → IsLine line → text_by actor text ≡ line_text line → IsSaid actor text
said actor text (Event other action seed) k h same =
    let cut = said_by (actor_word actor) text other action seed (Lacks-actor actor k) h same in
    let who : actor ≡ other = one_actor actor other k (event_actor other action seed h) cut.0 in
    record { action = action; seed = seed; lawful = subst (λ (a : Actor). IsEvent a action seed) (sym who) h; spelled = cut.1 }
said actor text (Start daemon) k h same = absurd (no_event_said actor text (Start daemon) k tt same)
said actor text (Kill daemon) k h same = absurd (no_event_said actor text (Kill daemon) k tt same)
said actor text (Step daemon) k h same = absurd (no_event_said actor text (Step daemon) k tt same)
said actor text Settle k h same = absurd (no_event_said actor text Settle k tt same)

-- a caller's call
pub record IsCalled (text : List ℕ) : Type 0 where
  pub request : Request
  pub lawful : IsRequest request
  pub spelled : text ≡ request_text request

called : (c : ℕ) (text : List ℕ) (action : Action) (seed : Option ℕ) → IsEvent (Caller c) action seed → text ≢ codes "resume" → text ≡ spaced (action_words (data_word seed) action) → IsCalled text
called c text (Issue call) seed h other same = record { request = record { call = call; seed = seed }; lawful = h.1; spelled = same }
called c text Resume seed h other same = absurd (other same)
called c text action seed h other same = absurd h

pub caller_says : (c : ℕ) (text : List ℕ) (line : Line) → IsCallerNumber c → IsLine line → text ≢ codes "resume" → text_by (Caller c) text ≡ line_text line → IsCalled text
caller_says c text line k h other same = let s = said (Caller c) text line k h same in called c text s.action s.seed s.lawful other s.spelled

-- a session's call
pub record IsAsked (sid : Sid) (text : List ℕ) : Type 0 where
  pub request : DmRequest
  pub lawful : IsDmRequest request
  pub may : IsAskedBy sid (scope_of request.call)
  pub spelled : text ≡ dm_request_text request

asked : (sid : Sid) (text : List ℕ) (action : Action) (seed : Option ℕ) → IsEvent (Session sid) action seed → text ≡ spaced (action_words (data_word seed) action) → IsAsked sid text
asked sid text (Dm call) seed h same = record { request = record { call = call; seed = seed }; lawful = h.2; may = h.1; spelled = same }
asked sid text other seed h same = absurd h

pub session_says : (sid : Sid) (text : List ℕ) (line : Line) → IsSid sid → IsLine line → text_by (Session sid) text ≡ line_text line → IsAsked sid text
session_says sid text line k h same = let s = said (Session sid) text line k h same in asked sid text s.action s.seed s.lawful s.spelled

-- a session may ask a call that is spelled as one of its calls
pub may_ask : (sid : Sid) (text : List ℕ) (r : DmRequest) → IsAsked sid text → IsDmRequest r → text ≡ dm_request_text r → IsAskedBy sid (scope_of r.call)
may_ask sid text r a h same = subst (λ call. IsAskedBy sid (scope_of call)) (one_dm_request a.request r a.lawful h (sym a.spelled ∙ same)).0 a.may

-- ---- lines

pub line_uncut : (text : List ℕ) (line : Line) → Lacks 32 text → text ≢ codes "settle" → text ≡ line_text line → ⊥
line_uncut text (Event actor action seed) h other same = Lacks-not 32 (actor_word actor) (spaced (action_words (data_word seed) action)) (rw (same ∙ said_text actor action seed) at h)
line_uncut text line h other same = no_event_uncut text line tt h other same

-- what is said neither by a caller nor by a session, and is of no daemon, is said by the store
unnamed : (who text : List ℕ) (actor : Actor) (action : Action) (seed : Option ℕ) → IsEvent actor action seed → who ≡ actor_word actor → text ≡ spaced (action_words (data_word seed) action)
    → ((x : ℕ) → IsCallerNumber x → who ≢ caller_word x) → ((x : Sid) → IsSid x → who ≢ sid_word x) → who ++ 32 ∷ text ≡ codes "store commit"
unnamed who text (Caller c) action seed h same behind no_caller no_session = absurd (no_caller c (event_actor (Caller c) action seed h) same)
unnamed who text (Session sid) action seed h same behind no_caller no_session = absurd (no_session sid (event_actor (Session sid) action seed h) same)
unnamed who text Store Commit seed h same behind no_caller no_session = rw (same, behind) refl
unnamed who text Store other seed h same behind no_caller no_session = absurd h

line_unnamed : (text who rest : List ℕ) (line : Line) → IsLine line → text ≡ line_text line → text ≡ who ++ 32 ∷ rest → Lacks 32 who
    → ((x : ℕ) → IsCallerNumber x → who ≢ caller_word x) → ((x : Sid) → IsSid x → who ≢ sid_word x)
    → ((x : Line) → IsNoEvent x → spaced (who ∷ rest ∷ []) ≢ line_text x) → text ≡ codes "store commit"
line_unnamed text who rest (Event actor action seed) h same cut lacks no_caller no_session no_daemon =
    let is = said_by who rest actor action seed lacks h (sym cut ∙ same) in
    cut ∙ unnamed who rest actor action seed h is.0 is.1 no_caller no_session
line_unnamed text who rest line h same cut lacks no_caller no_session no_daemon = absurd (no_daemon line tt (sym cut ∙ same))

pub read_unnamed : (text who rest : List ℕ) (read : Option Line) → text ≢ codes "store commit" → text ≡ who ++ 32 ∷ rest → Lacks 32 who
    → ((x : ℕ) → IsCallerNumber x → who ≢ caller_word x) → ((x : Sid) → IsSid x → who ≢ sid_word x)
    → Reads line_text IsNoEvent (spaced (who ∷ rest ∷ [])) read → Reads line_text IsLine text read
read_unnamed text who rest None other cut lacks no_caller no_session no_daemon = λ line h same. other (line_unnamed text who rest line h same cut lacks no_caller no_session no_daemon)
read_unnamed text who rest (Some line) other cut lacks no_caller no_session of_daemon = (no_event_lawful line of_daemon.0, cut ∙ of_daemon.1)

-- an actor says one action with one text
one_action : (actor : Actor) (x y : Action) (s t : Option ℕ) → IsEvent actor x s → IsEvent actor y t → spaced (action_words (data_word s) x) ≡ spaced (action_words (data_word t) y) → (x ≡ y) × (s ≡ t)
one_action (Caller c) (Issue call) (Issue other) s t h k e =
    let one = one_request (record { call = call; seed = s }) (record { call = other; seed = t }) h.1 k.1 e in (ap Issue one.0, one.1)
one_action (Caller c) (Issue call) Resume s t h k e = absurd (no_resume (record { call = call; seed = s }) (sym e))
one_action (Caller c) (Issue call) other s t h k e = absurd k
one_action (Caller c) Resume (Issue call) s t h k e = absurd (no_resume (record { call = call; seed = t }) e)
one_action (Caller c) Resume Resume s t h k e = (refl, h.1 ∙ sym k.1)
one_action (Caller c) Resume other s t h k e = absurd k
one_action (Caller c) x y s t h k e = absurd h
one_action (Session sid) (Dm call) (Dm other) s t h k e =
    let one = one_dm_request (record { call = call; seed = s }) (record { call = other; seed = t }) h.2 k.2 e in (ap Dm one.0, one.1)
one_action (Session sid) (Dm call) other s t h k e = absurd k
one_action (Session sid) x y s t h k e = absurd h
one_action Store Commit Commit s t h k e = (refl, h ∙ sym k)
one_action Store Commit other s t h k e = absurd k
one_action Store x y s t h k e = absurd h

-- no event is spelled as another line
event_no_other : (actor : Actor) (action : Action) (seed : Option ℕ) (line : Line) → IsEvent actor action seed → IsNoEvent line → line_text (Event actor action seed) ≢ line_text line
event_no_other actor action seed line h k same =
    no_event_said actor (spaced (action_words (data_word seed) action)) line (event_actor actor action seed h) k (sym (said_text actor action seed) ∙ same)

pub line_text-injective : (x y : Line) → IsLine x → IsLine y → line_text x ≡ line_text y → x ≡ y
line_text-injective (Event a action s) (Event b other t) h k e =
    let cut = said_by (actor_word a) (spaced (action_words (data_word s) action)) b other t (Lacks-actor a (event_actor a action s h)) k (sym (said_text a action s) ∙ e) in
    let who : a ≡ b = one_actor a b (event_actor a action s h) (event_actor b other t k) cut.0 in
    let one = one_action b action other s t (subst (λ (x : Actor). IsEvent x action s) who h) k cut.1 in
    let what : action ≡ other = one.0 in
    let seeds : s ≡ t = one.1 in
    cc (who, what, seeds)
line_text-injective (Event a action s) y h k e = absurd (event_no_other a action s y h tt e)
line_text-injective x (Event b action t) h k e = absurd (event_no_other b action t x k tt (sym e))
line_text-injective x y h k e = one_no_event x y tt tt e

-- a line that goes on is the one that was read
pub same_line : (allowed : Allowed) (before : List Line) (text : List ℕ) (read line : Line) → IsLine read → text ≡ line_text read → IsNextLine allowed before text line → line ≡ read
same_line allowed before text read line h same g = line_text-injective line read g.lawful h (sym g.spelled ∙ same)

-- ---- a line's text has no newline

Lacks-action : (actor : Actor) (action : Action) (seed : Option ℕ) → IsEvent actor action seed → AllByRecursion (Lacks 10) (action_words (data_word seed) action)
Lacks-action (Caller c) (Issue call) seed h = Lacks-request seed call h.1
Lacks-action (Caller c) Resume seed h = (Lacks-visible 10 (codes "resume") refl refl, tt)
Lacks-action (Caller c) other seed h = absurd h
Lacks-action (Session sid) (Dm call) seed h = Lacks-dm_request seed call h.2
Lacks-action (Session sid) other seed h = absurd h
Lacks-action Store Commit seed h = (Lacks-visible 10 (codes "commit") refl refl, tt)
Lacks-action Store other seed h = absurd h

Lacks-line : (line : Line) → IsLine line → AllByRecursion (Lacks 10) (line_words line)
Lacks-line (Event actor action seed) h = (Lacks-visible 10 (actor_word actor) refl (visible_actor actor (event_actor actor action seed h)), Lacks-action actor action seed h)
Lacks-line line h = Lacks-no_event line tt

pub Lacks-newline : (line : Line) → IsLine line → Lacks 10 (line_text line)
Lacks-newline line h = Lacks-join 10 32 (line_words line) (λ same. absurd (omega arith)) (Lacks-line line h)
