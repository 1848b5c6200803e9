-- What an event leaves of the information of a session: all of it, or the session is gone.
use Rattle.std.proofs.Common.{◌≡◌, ℕ, ◌<◌, ◌≤◌, Bool, true, false, cond, List, [], ◌∷◌, length, map, filter, Option, None, Some, is_some, inl, inr}
use Rattle.std.proofs.Common.{refl, sym, ap, subst, ◌∙◌, arith}
use Rattle.std.proofs.lemmas.Bool.{false≢true, eqb-true}
use Rattle.std.proofs.lemmas.Map.Views.{Contains-keys_from_lookup}
use Rattle.std.specs.Prelude.{◌⊎◌, Contains}
use Rattle.std.specs.Map.{lookup, remove_entry, keys_of}
use Rattle.std.specs.Option.{option_map}
use Rattle.hsm_types.specs.Messages.{no_token, takes, user_message, handed_out}
use Rattle.hsm_types.specs.Sessions.{LiveSession, SessionTable, Ascend, same_sid, session_of, info_of, taker, queue_of, heir, next_sid, with_session}
use Rattle.hsm_types.specs.Sessions.{without_session, change_live, change_session, loses, queued, with_kinds, posted_to, put_message, hands_out}
use Rattle.hsm_types.specs.Sessions.{without_token}
use Rattle.hsm_types.specs.declared.calls.Reply.{Reply}
use Rattle.hsm_types.specs.declared.dm.DmCall.{DmCall}
use Rattle.hsm_types.specs.declared.dm.DmCall.TheVariants.{CreateSession, DestroySession, SetDisp, GetEvents, Respond, CreateUserEvent, SendMsg}
use Rattle.hsm_types.specs.declared.dm.Kinds.{Kinds}
use Rattle.hsm_types.specs.declared.keys.Sid.{Sid}
use Rattle.hsm_types.specs.declared.messages.Message.{Message}
use Rattle.hsm_types.specs.declared.stores.Superblock.{Superblock}
use Rattle.hsm_types.proofs.Queues.{lookup-above, lookup-mapped}
use Rattle.plain_model.specs.declared.entries.Action.{Action}
use Rattle.plain_model.specs.declared.entries.Actor.{Actor}
use Rattle.plain_model.specs.declared.entries.Answer.{Answer}
use Rattle.plain_model.specs.Effects.{change_of}
use Rattle.plain_model.specs.Ledger.{next_token}
use Rattle.plain_model.specs.State.{State, changed}
use Rattle.plain_model.specs.Stands.{InOrder}
use Rattle.plain_model.specs.Exact.{left_by}
use Rattle.marked_history.proofs.Handing.{PostsParked}
use Rattle.marked_history.proofs.AnyAnswer.{left_so}
use Rattle.marked_history.proofs.Outstanding.{below, pushed_other}

abbrev Live : Type 0
Live = List (Sid × LiveSession)

abbrev info_in : Option LiveSession → Option (List ℕ)
info_in found = option_map (λ (s : LiveSession). s.info) found

-- it stays what it was, or there is none
abbrev pub Stays : Option (List ℕ) → Option (List ℕ) → Type 0
Stays before after = (after ≡ None) ⊎ (after ≡ before)

-- ---- live sessions

same_id : (x y : Sid) → same_sid x y ≡ true → x ≡ y
same_id x y is i = record { 0 = eqb-true x.0 y.0 is i }

there : (found : Option LiveSession) (info : List ℕ) → info_in found ≡ Some info → is_some found ≡ true
there None info is = absurd cc
there (Some s) info is = refl

-- whoever has information lives
pub informed_lives : (sid : Sid) (t : SessionTable) (info : List ℕ) → info_of sid t ≡ Some info → is_some (session_of sid t) ≡ true
informed_lives sid t info is = there (session_of sid t) info is

some_has : (found : Option LiveSession) → is_some found ≡ true → is_some (info_in found) ≡ true
some_has None wrong = absurd (false≢true wrong)
some_has (Some s) some = refl

pub has_info : (sid : Sid) (t : SessionTable) → is_some (session_of sid t) ≡ true → is_some (info_of sid t) ≡ true
has_info sid t lives = some_has (session_of sid t) lives

pub listed : (sid : Sid) (t : SessionTable) → is_some (session_of sid t) ≡ true → Contains (keys_of t.live) sid
listed sid t lives = Contains-keys_from_lookup {eq = same_sid} same_id sid t.live lives

within : (sid : Sid) (low high : ℕ) (live : Live) → Ascend low high live → is_some (lookup (same_sid sid) live) ≡ true → sid.0 ≤ high
within sid low high [] h lives = absurd (false≢true lives)
within sid low high (e ∷ rest) h lives = by (same_sid sid e.0) refl lives (within sid e.0.0 high rest h.2)
  where
    by : (b : Bool) → same_sid sid e.0 ≡ b → is_some (cond b (Some e.1) (lookup (same_sid sid) rest)) ≡ true → (is_some (lookup (same_sid sid) rest) ≡ true → sid.0 ≤ high) → sid.0 ≤ high
    by true mine here later = let same = eqb-true sid.0 e.0.0 mine in let top = h.1 in omega arith
    by false mine here later = later here

-- its id was given, and isn't 0
pub lives_within : (sid : Sid) (t : SessionTable) → Ascend 0 t.given t.live → is_some (session_of sid t) ≡ true → (0 < sid.0) × (sid.0 ≤ t.given)
lives_within sid t ascend lives = (lookup-above sid 0 t.given t.live ascend lives, within sid 0 t.given t.live ascend lives)

-- ---- one session more, less or changed

changed_info : (change : LiveSession → LiveSession) → ((s : LiveSession) → (change s).info ≡ s.info) → (sid x : Sid) (live : Live) → info_in (lookup (same_sid sid) (change_live x change live)) ≡ info_in (lookup (same_sid sid) live)
changed_info change same sid x [] = refl
changed_info change same sid x (e ∷ rest) = elim (same_sid x e.0) as (λ (b : Bool). info_in (lookup (same_sid sid) (cond b ((e.0, change e.1) ∷ rest) (e ∷ change_live x change rest))) ≡ info_in (lookup (same_sid sid) (e ∷ rest))) [
  | true ↦ elim (same_sid sid e.0) as (λ (c : Bool). info_in (cond c (Some (change e.1)) (lookup (same_sid sid) rest)) ≡ info_in (cond c (Some e.1) (lookup (same_sid sid) rest))) [ true ↦ ap (λ (l : List ℕ). Some l) (same e.1) | false ↦ refl ]
  | false ↦ elim (same_sid sid e.0) as (λ (c : Bool). info_in (cond c (Some e.1) (lookup (same_sid sid) (change_live x change rest))) ≡ info_in (cond c (Some e.1) (lookup (same_sid sid) rest))) [ true ↦ refl | false ↦ changed_info change same sid x rest ]
]

removed_info : (sid old : Sid) (low high : ℕ) (live : Live) → Ascend low high live → Stays (info_in (lookup (same_sid sid) live)) (info_in (lookup (same_sid sid) (remove_entry (same_sid old) live)))
removed_info sid old low high [] h = inr refl
removed_info sid old low high (e ∷ rest) h = by (same_sid old e.0) (same_sid sid e.0) refl refl (removed_info sid old e.0.0 high rest h.2)
  where
    by : (b c : Bool) → same_sid old e.0 ≡ b → same_sid sid e.0 ≡ c → Stays (info_in (lookup (same_sid sid) rest)) (info_in (lookup (same_sid sid) (remove_entry (same_sid old) rest)))
        → Stays (info_in (cond c (Some e.1) (lookup (same_sid sid) rest))) (info_in (lookup (same_sid sid) (cond b rest (e ∷ remove_entry (same_sid old) rest))))
    by true true own mine later =
        let same = eqb-true sid.0 e.0.0 mine in
        let none : lookup (same_sid sid) rest ≡ None = below sid e.0.0 high rest h.2 (omega arith) in
        inl (ap (λ (o : Option LiveSession). info_in o) none)
    by true false own mine later = inr refl
    by false true own mine later = rw mine (inr refl)
    by false false own mine later = rw mine later

module _ (sid : Sid) (t : SessionTable) where
  -- from there to here
  abbrev StaysIn : SessionTable → Type 0
  StaysIn after = Stays (info_of sid t) (info_of sid after)

  created_stays : (old : Sid) (info : List ℕ) → Ascend 0 t.given t.live → sid.0 ≤ t.given → StaysIn (with_session old info t)
  created_stays old info ascend given =
      subst (λ (o : Option LiveSession). Stays (info_of sid t) (info_in o)) (sym (pushed_other sid (next_sid t) (heir info (session_of old t)) (remove_entry (same_sid old) t.live) (λ same. omega arith)))
      (removed_info sid old 0 t.given t.live ascend)

  ended_stays : (x : Sid) → Ascend 0 t.given t.live → StaysIn (without_session x t)
  ended_stays x ascend = removed_info sid x 0 t.given t.live ascend

  less_info : (kinds : Kinds) (found : Option LiveSession) → info_in (option_map (loses kinds) found) ≡ info_in found
  less_info kinds None = refl
  less_info kinds (Some s) = refl

  disposed_stays : (x : Sid) (kinds : Kinds) → StaysIn (with_kinds x kinds t)
  disposed_stays x kinds =
      let joined : List Message = filter (λ (m : Message). takes kinds m.kind) t.unrouted in
      let others : Live = map (λ (s : Sid × LiveSession). (s.0, loses kinds s.1)) t.live in
      let same = changed_info (λ s. queued joined (record s { kinds = kinds })) (λ s. refl) sid x others in
      let lost : info_in (lookup (same_sid sid) others) ≡ info_of sid t = ap (λ (o : Option LiveSession). info_in o) (lookup-mapped sid (loses kinds) t.live) ∙ less_info kinds (session_of sid t) in
      inr (same ∙ lost)

  changed_stays : (change : LiveSession → LiveSession) → ((s : LiveSession) → (change s).info ≡ s.info) → (x : Sid) → StaysIn (change_session x change t)
  changed_stays change same x = inr (changed_info change same sid x t.live)

  posted_stays : (found : Option Sid) (m : Message) → StaysIn (posted_to found m t)
  posted_stays None m = inr refl
  posted_stays (Some x) m = changed_stays (queued (m ∷ [])) (λ s. refl) x

-- ---- any event

module _ (s : Superblock) (st : State) (ordered : InOrder st) (sid : Sid) (given : sid.0 ≤ st.sessions.given) where
  abbrev StaysTo : State → Type 0
  StaysTo after = StaysIn sid st.sessions after.sessions

  call_stays : (x : Sid) (c : DmCall) → StaysTo (changed (change_of x c) st)
  call_stays x (CreateSession old info) = created_stays sid st.sessions old info ordered.ascend given
  call_stays x DestroySession = ended_stays sid st.sessions x ordered.ascend
  call_stays x (SetDisp kinds) = disposed_stays sid st.sessions x kinds
  call_stays x (GetEvents most room) = changed_stays sid st.sessions (hands_out (length (handed_out most room (queue_of x st.sessions)))) (λ s. refl) x
  call_stays x (Respond token response) = changed_stays sid st.sessions (λ s. record s { outstanding = without_token token s.outstanding }) (λ s. refl) x
  call_stays x (CreateUserEvent body) = changed_stays sid st.sessions (λ s. record s { outstanding = put_message s.outstanding (user_message (next_token st.ledger) body) }) (λ s. refl) x
  call_stays x (SendMsg target body) = changed_stays sid st.sessions (queued (user_message no_token body ∷ [])) (λ s. refl) target
  call_stays x c = inr refl

  parked_stays : (after : State) (c : ℕ) (answer : Reply) → PostsParked s st after c answer → StaysTo after
  parked_stays after c answer (inl same) = inr (ap (info_of sid) same)
  parked_stays after c answer (inr p) = subst (StaysIn sid st.sessions) (sym p.posts) (posted_stays sid st.sessions (taker p.message.kind st.sessions) p.message)

  pub left_stays : (who : Actor) (what : Action) (answer : Answer) → StaysTo (left_by s st who what answer)
  left_stays who what answer = left_so s st (StaysIn sid st.sessions) (inr refl) call_stays parked_stays who what answer
