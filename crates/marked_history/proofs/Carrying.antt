-- What is true of each message in a table of sessions is true after each call.
use Rattle.std.proofs.Common.{ℕ, ◌-◌, Bool, true, false, cond, not, List, [], ◌∷◌, map, take, filter, Option, None, Some}
use Rattle.std.proofs.lemmas.List.Elements.{All-nil, All-cons, All-head, All-tail, All-weaker, All-append, All-push, All-filter, All-take, All-drop, All-map}
use Rattle.std.specs.Prelude.{IfSome, nat_lt, nat_le}
use Rattle.std.specs.List.{All, find}
use Rattle.std.specs.Map.{lookup, remove_entry}
use Rattle.std.specs.Option.{option_map}
use Rattle.hsm_types.specs.Messages.{message_bytes, has_token, no_token, takes, user_message, fitting, first_or_all, handed_out}
use Rattle.hsm_types.specs.Sessions.{LiveSession, SessionTable, no_sessions, same_sid, session_of, queue_or_none, outstanding_or_none, queue_of}
use Rattle.hsm_types.specs.Sessions.{outstanding_of, holds, outstanding_message, taker, heir, next_sid, with_session, without_session, change_live}
use Rattle.hsm_types.specs.Sessions.{change_session, loses, queued, with_kinds, posted_to, posted, put_message, put_messages, with_tokens, hands_out}
use Rattle.hsm_types.specs.Sessions.{delivered, without_token, responded, user_event, sent}
use Rattle.hsm_types.specs.declared.dm.Kinds.{Kinds}
use Rattle.hsm_types.specs.declared.keys.Sid.{Sid}
use Rattle.hsm_types.specs.declared.keys.Token.{Token}
use Rattle.hsm_types.specs.declared.messages.Message.{Message}
use Rattle.plain_model.specs.Services.{message_or_none}

module _ (P : Message → Type 0) where
  -- of each message of a session
  pub record EachOf (s : LiveSession) : Type 0 where
    pub queue : All P s.queue
    pub outstanding : All P s.outstanding

  -- of each in a table
  pub record Each (t : SessionTable) : Type 0 where
    pub live : All (λ (s : Sid × LiveSession). EachOf s.1) t.live
    pub unrouted : All P t.unrouted

abbrev Live : Type 0
Live = List (Sid × LiveSession)

pub each_weaker : (P Q : Message → Type 0) → ((m : Message) → P m → Q m) → (t : SessionTable) → Each P t → Each Q t
each_weaker P Q weaker t each = record {
  live = All-weaker (λ (s : Sid × LiveSession). EachOf P s.1) (λ (s : Sid × LiveSession). EachOf Q s.1) (λ s is. record { queue = All-weaker P Q weaker s.1.queue is.queue; outstanding = All-weaker P Q weaker s.1.outstanding is.outstanding }) t.live each.live;
  unrouted = All-weaker P Q weaker t.unrouted each.unrouted;
}

module _ (P : Message → Type 0) where
  abbrev EachIn : Sid × LiveSession → Type 0
  EachIn s = EachOf P s.1

  pub none_each : Each P no_sessions
  none_each = record { live = All-nil EachIn; unrouted = All-nil P }

  -- ---- lists of messages

  pub put_each : (l : List Message) (m : Message) → All P l → P m → All P (put_message l m)
  put_each [] m each is = All-cons P m [] is each
  put_each (n ∷ more) m each is = elim (nat_lt m.token.0 n.token.0) as (λ (b : Bool). All P (cond b (m ∷ n ∷ more) (n ∷ put_message more m))) [
    | true ↦ All-cons P m (n ∷ more) is each
    | false ↦ All-cons P n (put_message more m) (All-head P n more each) (put_each more m (All-tail P n more each) is)
  ]

  pub puts_each : (l messages : List Message) → All P l → All P messages → All P (put_messages l messages)
  puts_each l [] each are = each
  puts_each l (m ∷ more) each are = puts_each (put_message l m) more (put_each l m each (All-head P m more are)) (All-tail P m more are)

  fitting_each : (room : ℕ) (l : List Message) → All P l → All P (fitting room l)
  fitting_each room [] each = each
  fitting_each room (m ∷ more) each = elim (nat_le (message_bytes m) room) as (λ (b : Bool). All P (cond b (m ∷ fitting (room - message_bytes m) more) [])) [
    | true ↦ All-cons P m (fitting (room - message_bytes m) more) (All-head P m more each) (fitting_each (room - message_bytes m) more (All-tail P m more each))
    | false ↦ All-nil P
  ]

  first_each : (all : Bool) (most : ℕ) (l : List Message) → All P l → All P (cond all l (take most l))
  first_each true most l each = each
  first_each false most l each = All-take P most l each

  pub handed_each : (most room : ℕ) (l : List Message) → All P l → All P (handed_out most room l)
  handed_each most room l each = fitting_each room (first_or_all most l) (first_each _ most l each)

  found_each : (p : Message → Bool) (l : List Message) → All P l → IfSome (find p l) P
  found_each p [] each = tt
  found_each p (m ∷ more) each = elim (p m) as (λ (b : Bool). IfSome (cond b (Some m) (find p more)) P) [
    | true ↦ All-head P m more each
    | false ↦ found_each p more (All-tail P m more each)
  ]

  pub one_each : (found : Option Message) → IfSome found P → All P (message_or_none found)
  one_each None is = All-nil P
  one_each (Some m) is = All-cons P m [] is (All-nil P)

  -- ---- live sessions

  looked_each : (sid : Sid) (live : Live) → All EachIn live → IfSome (lookup (same_sid sid) live) (EachOf P)
  looked_each sid [] each = tt
  looked_each sid (s ∷ rest) each = elim (same_sid sid s.0) as (λ (b : Bool). IfSome (cond b (Some s.1) (lookup (same_sid sid) rest)) (EachOf P)) [
    | true ↦ All-head EachIn s rest each
    | false ↦ looked_each sid rest (All-tail EachIn s rest each)
  ]

  removed_each : (sid : Sid) (live : Live) → All EachIn live → All EachIn (remove_entry (same_sid sid) live)
  removed_each sid [] each = each
  removed_each sid (s ∷ rest) each = elim (same_sid sid s.0) as (λ (b : Bool). All EachIn (cond b rest (s ∷ remove_entry (same_sid sid) rest))) [
    | true ↦ All-tail EachIn s rest each
    | false ↦ All-cons EachIn s (remove_entry (same_sid sid) rest) (All-head EachIn s rest each) (removed_each sid rest (All-tail EachIn s rest each))
  ]

  changed_each : (sid : Sid) (change : LiveSession → LiveSession) → ((s : LiveSession) → EachOf P s → EachOf P (change s)) → (live : Live) → All EachIn live → All EachIn (change_live sid change live)
  changed_each sid change keeps [] each = each
  changed_each sid change keeps (s ∷ rest) each = elim (same_sid sid s.0) as (λ (b : Bool). All EachIn (cond b ((s.0, change s.1) ∷ rest) (s ∷ change_live sid change rest))) [
    | true ↦ All-cons EachIn (s.0, change s.1) rest (keeps s.1 (All-head EachIn s rest each)) (All-tail EachIn s rest each)
    | false ↦ All-cons EachIn s (change_live sid change rest) (All-head EachIn s rest each) (changed_each sid change keeps rest (All-tail EachIn s rest each))
  ]

  one_changed : (sid : Sid) (change : LiveSession → LiveSession) → ((s : LiveSession) → EachOf P s → EachOf P (change s)) → (t : SessionTable) → Each P t → Each P (change_session sid change t)
  one_changed sid change keeps t each = record { live = changed_each sid change keeps t.live each.live; unrouted = each.unrouted }

  queued_each : (messages : List Message) → All P messages → (s : LiveSession) → EachOf P s → EachOf P (queued messages s)
  queued_each messages are s each = record { queue = All-append P s.queue messages each.queue are; outstanding = each.outstanding }

  queue_each : (found : Option LiveSession) → IfSome found (EachOf P) → All P (queue_or_none found)
  queue_each None is = All-nil P
  queue_each (Some s) is = is.queue

  outstanding_each : (found : Option LiveSession) → IfSome found (EachOf P) → All P (outstanding_or_none found)
  outstanding_each None is = All-nil P
  outstanding_each (Some s) is = is.outstanding

  heir_each : (info : List ℕ) (found : Option LiveSession) → IfSome found (EachOf P) → EachOf P (heir info found)
  heir_each info None is = record { queue = All-nil P; outstanding = All-nil P }
  heir_each info (Some s) is = record { queue = is.queue; outstanding = is.outstanding }

  holder_each : (token : Token) (live : Live) → All EachIn live → IfSome (option_map (λ (s : Sid × LiveSession). s.1) (find (λ (s : Sid × LiveSession). holds token s.1) live)) (EachOf P)
  holder_each token [] each = tt
  holder_each token (s ∷ rest) each = elim (holds token s.1) as (λ (b : Bool). IfSome (option_map (λ (x : Sid × LiveSession). x.1) (cond b (Some s) (find (λ (x : Sid × LiveSession). holds token x.1) rest))) (EachOf P)) [
    | true ↦ All-head EachIn s rest each
    | false ↦ holder_each token rest (All-tail EachIn s rest each)
  ]

  -- ---- what is handed out

  pub queue_of_each : (sid : Sid) (t : SessionTable) → Each P t → All P (queue_of sid t)
  queue_of_each sid t each = queue_each (session_of sid t) (looked_each sid t.live each.live)

  pub outstanding_of_each : (sid : Sid) (t : SessionTable) → Each P t → All P (outstanding_of sid t)
  outstanding_of_each sid t each = outstanding_each (session_of sid t) (looked_each sid t.live each.live)

  pub outstanding_message_each : (token : Token) (t : SessionTable) → Each P t → IfSome (outstanding_message token t) P
  outstanding_message_each token t each = found_each (has_token token) _ (outstanding_each _ (holder_each token t.live each.live))

  -- ---- what calls leave

  posted_by : (found : Option Sid) (m : Message) (t : SessionTable) → Each P t → P m → Each P (posted_to found m t)
  posted_by None m t each is = record { live = each.live; unrouted = All-push P t.unrouted m each.unrouted is }
  posted_by (Some sid) m t each is = one_changed sid (queued (m ∷ [])) (queued_each (m ∷ []) (All-cons P m [] is (All-nil P))) t each

  pub posted_each : (m : Message) (t : SessionTable) → Each P t → P m → Each P (posted m t)
  posted_each m t each is = posted_by (taker m.kind t) m t each is

  pub created_each : (old : Sid) (info : List ℕ) (t : SessionTable) → Each P t → Each P (with_session old info t)
  created_each old info t each = record {
    live = All-push EachIn (remove_entry (same_sid old) t.live) (next_sid t, heir info (session_of old t)) (removed_each old t.live each.live) (heir_each info (session_of old t) (looked_each old t.live each.live));
    unrouted = each.unrouted;
  }

  pub ended_each : (sid : Sid) (t : SessionTable) → Each P t → Each P (without_session sid t)
  ended_each sid t each = record { live = removed_each sid t.live each.live; unrouted = each.unrouted }

  pub disposed_each : (sid : Sid) (kinds : Kinds) (t : SessionTable) → Each P t → Each P (with_kinds sid kinds t)
  disposed_each sid kinds t each =
      let joined : List Message = filter (λ (m : Message). takes kinds m.kind) t.unrouted in
      let others : Live = map (λ (s : Sid × LiveSession). (s.0, loses kinds s.1)) t.live in
      let are : All P joined = All-filter (λ (m : Message). takes kinds m.kind) P t.unrouted each.unrouted in
      let each_other : All EachIn others = All-map EachIn (λ (s : Sid × LiveSession). (s.0, loses kinds s.1)) t.live
      (All-weaker EachIn (λ (s : Sid × LiveSession). EachOf P (loses kinds s.1)) (λ s is. record { queue = is.queue; outstanding = is.outstanding }) t.live each.live) in
      record {
        live = changed_each sid (λ s. queued joined (record s { kinds = kinds })) (λ s is. queued_each joined are (record s { kinds = kinds }) (record { queue = is.queue; outstanding = is.outstanding })) others each_other;
        unrouted = All-filter (λ (m : Message). not (takes kinds m.kind)) P t.unrouted each.unrouted;
      }

  pub delivered_each : (sid : Sid) (count : ℕ) (t : SessionTable) → Each P t → Each P (delivered sid count t)
  delivered_each sid count t each = one_changed sid (hands_out count) (λ s is. record {
    queue = All-drop P count s.queue is.queue;
    outstanding = puts_each s.outstanding (with_tokens (take count s.queue)) is.outstanding (All-filter (λ (m : Message). not (has_token no_token m)) P (take count s.queue) (All-take P count s.queue is.queue));
  }) t each

  pub responded_each : (sid : Sid) (token : Token) (t : SessionTable) → Each P t → Each P (responded sid token t)
  responded_each sid token t each = one_changed sid (λ s. record s { outstanding = without_token token s.outstanding })
      (λ s is. record { queue = is.queue; outstanding = All-filter (λ (m : Message). not (has_token token m)) P s.outstanding is.outstanding }) t each

  pub made_each : (sid : Sid) (token : Token) (body : List ℕ) (t : SessionTable) → Each P t → P (user_message token body) → Each P (user_event sid token body t)
  made_each sid token body t each is = one_changed sid (λ s. record s { outstanding = put_message s.outstanding (user_message token body) })
      (λ s are. record { queue = are.queue; outstanding = put_each s.outstanding (user_message token body) are.outstanding is }) t each

  pub sent_each : (target : Sid) (body : List ℕ) (t : SessionTable) → Each P t → P (user_message no_token body) → Each P (sent target body t)
  sent_each target body t each is = one_changed target (queued (user_message no_token body ∷ [])) (queued_each (user_message no_token body ∷ []) (All-cons P (user_message no_token body) [] is (All-nil P))) t each
