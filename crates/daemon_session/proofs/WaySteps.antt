-- The steps on the way to a session are those that a daemon may take.
use Rattle.std.proofs.Common.{◌≡◌, ℕ, false, List, [], ◌∷◌, ◌++◌, Some, None, refl, sym, ap, subst, ◌∙◌, inl, inr, ◌⊎◌}
use Rattle.std.specs.Str.{bytes_eq}
use Rattle.std.specs.Prelude.{drop}
use Rattle.hsm_types.specs.declared.daemons.Act.TheVariants.{Dm}
use Rattle.hsm_types.specs.declared.daemons.Heard.{Heard}
use Rattle.hsm_types.specs.declared.daemons.Heard.TheVariants as heard
use Rattle.hsm_types.specs.declared.dm.DmCall.TheVariants.{QuerySession}
use Rattle.hsm_types.specs.declared.dm.DmRefusal.{DmRefusal}
use Rattle.hsm_types.specs.declared.dm.DmRefusal.TheVariants.{NoToken, NotYours, TooMany}
use Rattle.hsm_types.specs.declared.dm.DmReply.TheVariants as reply
use Rattle.hsm_types.specs.declared.keys.Sid.{Sid}
use Rattle.hsm_types.specs.declared.keys.Token.{Token}
use Rattle.hsm_types.specs.declared.daemons.Daemon.{Daemon}
use Rattle.daemon_session.specs.declared.entering.Entering.{Entering}
use Rattle.daemon_session.specs.declared.entering.Entering.TheVariants.{Outside, Listing, Querying, Making, Recollecting, Finding}
use Rattle.daemon_session.specs.declared.events.Kept.{Kept}
use Rattle.daemon_session.specs.declared.members.Step.{Step}
use Rattle.daemon_session.specs.declared.members.Step.TheVariants as step
use Rattle.hsm_types.specs.Daemons.{information}
use Rattle.daemon_session.specs.Tellings.{events_in}
use Rattle.daemon_session.specs.SessionSteps.{member_in, IsQuerying, IsFinding, QueriesNext, FindsNext, Makes, Queries}
use Rattle.daemon_session.specs.Members.{Membership, Enters, with_kept, asked_in}
use Rattle.daemon_session.specs.Seats.{first_id}

-- the refusals after which a message is not asked for again
abbrev pub IsLost : DmRefusal → Type 0
IsLost NoToken = Unit {0}
IsLost (NotYours owner) = Unit {0}
IsLost why = ⊥

pub is_lost : (why : DmRefusal) → (why ≡ NoToken) ⊎ ((owner : Sid) × (why ≡ NotYours owner)) → IsLost why
is_lost why (inl none) = subst IsLost (sym none) tt
is_lost why (inr (owner, other)) = subst IsLost (sym other) tt

-- the step and what it leaves are these
enters_by : (old : Membership) (told : Heard) (next as_next : Step) (new as_new : Membership) → Enters old told as_next as_new → next ≡ as_next → new ≡ as_new → Enters old told next new
enters_by old told next as_next new as_new enters is_next is_new = subst (λ (s : Step). Enters old told s new) (sym is_next) (subst (Enters old told as_next) (sym is_new) enters)

told_as : (old : Membership) (told as_told : Heard) (next : Step) (new : Membership) → told ≡ as_told → Enters old as_told next new → Enters old told next new
told_as old told as_told next new is = subst (λ (h : Heard). Enters old h next new) (sym is)

-- ---- from the list of sessions on

listed_in : (d : Daemon) (kept : List Kept) (ids : List Sid) (next : Step) (new : Membership) → Queries ids (member_in d Listing kept) next new → Enters (member_in d Listing kept) (heard.Dm (reply.Sids ids)) next new
listed_in d kept [] next new is = enters_by _ _ next _ new _ (record { daemon = refl; seat = refl; asked = refl; may = (λ e. cc, (refl, refl, inl (refl, refl, refl))) }) is.0 is.1
listed_in d kept (id ∷ more) next new is = enters_by _ _ next _ new _ (record { daemon = refl; seat = refl; asked = refl; may = (λ e. cc, (refl, refl, (more, refl))) }) is.0 is.1

pub listed : (old : Membership) (told : Heard) (ids : List Sid) (next : Step) (new : Membership) → old ≡ member_in old.daemon Listing old.seat.kept → told ≡ heard.Dm (reply.Sids ids) → Queries ids old next new
    → Enters old told next new
listed old told ids next new was is to =
    told_as old told _ next new is (subst (λ (m : Membership). Queries ids m next new → Enters m (heard.Dm (reply.Sids ids)) next new) (sym was) (listed_in old.daemon old.seat.kept ids next new) to)

-- ---- messages that are found again

recollected_in : (d : Daemon) (sid : Sid) (kept : List Kept) (tokens : List Token) (next : Step) (new : Membership) → FindsNext sid tokens (member_in d (Recollecting sid) kept) next new
    → Enters (member_in d (Recollecting sid) kept) (heard.Dm (reply.Tokens tokens)) next new
recollected_in d sid kept [] next new is = enters_by _ _ next _ new _ (record { daemon = refl; seat = refl; asked = refl; may = record { session = refl; set = refl; found = refl } }) is.0 is.1
recollected_in d sid kept (t ∷ more) next new is = enters_by _ _ next _ new _ (record { daemon = refl; seat = refl; asked = refl; may = (λ e. cc, (refl, refl, refl, (more, refl))) }) is.0 is.1

pub recollected : (old : Membership) (told : Heard) (sid : Sid) (tokens : List Token) (next : Step) (new : Membership) → old ≡ member_in old.daemon (Recollecting sid) old.seat.kept → told ≡ heard.Dm (reply.Tokens tokens)
    → FindsNext sid tokens old next new → Enters old told next new
recollected old told sid tokens next new was is to =
    told_as old told _ next new is (subst (λ (m : Membership). FindsNext sid tokens m next new → Enters m (heard.Dm (reply.Tokens tokens)) next new) (sym was) (recollected_in old.daemon sid old.seat.kept tokens next new) to)

found_in : (d : Daemon) (sid : Sid) (token : Token) (kept : List Kept) (bytes : List ℕ) (tokens rest : List Token) (next : Step) (new : Membership)
    → FindsNext sid rest (member_in d (Finding sid token rest 0) (kept ++ events_in d bytes)) next new → Enters (member_in d (Finding sid token rest 0) kept) (heard.Dm (reply.Packed bytes tokens)) next new
found_in d sid token kept bytes tokens [] next new is = enters_by _ _ next _ new _ (record { daemon = refl; seat = refl; asked = refl; may = record { session = refl; set = refl; found = refl } }) is.0 is.1
found_in d sid token kept bytes tokens (t ∷ more) next new is = enters_by _ _ next _ new _ (record { daemon = refl; seat = refl; asked = refl; may = (λ e. cc, (refl, refl, refl, (more, refl))) }) is.0 is.1

pub found : (old kept : Membership) (told : Heard) (sid : Sid) (token : Token) (bytes : List ℕ) (tokens rest : List Token) (next : Step) (new : Membership) → IsFinding sid token rest old
    → told ≡ heard.Dm (reply.Packed bytes tokens) → kept ≡ with_kept (old.seat.kept ++ events_in old.daemon bytes) old → ((t : Token) (l : List Token) → IsFinding sid t l kept → FindsNext sid l kept next new)
    → Enters old told next new
found old kept told sid token bytes tokens rest next new was told_is keeps finds =
    let as_kept : Membership = member_in old.daemon (Finding sid token rest 0) (old.seat.kept ++ events_in old.daemon bytes) in
    let is : kept ≡ as_kept = subst (λ (m : Membership). kept ≡ with_kept (old.seat.kept ++ events_in old.daemon bytes) m) was keeps in
    let at : FindsNext sid rest as_kept next new = subst (λ (m : Membership). ((t : Token) (l : List Token) → IsFinding sid t l m → FindsNext sid l m next new)) is finds token rest refl in
    told_as old told _ next new told_is (subst (λ (m : Membership). Enters m (heard.Dm (reply.Packed bytes tokens)) next new) (sym was) (found_in old.daemon sid token old.seat.kept bytes tokens rest next new at))

-- the message isn't there any more
lost_in : (d : Daemon) (sid : Sid) (token : Token) (kept : List Kept) (why : DmRefusal) (rest : List Token) (next : Step) (new : Membership) → IsLost why
    → FindsNext sid rest (member_in d (Finding sid token rest 0) kept) next new → Enters (member_in d (Finding sid token rest 0) kept) (heard.Dm (reply.Refused why)) next new
lost_in d sid token kept NoToken [] next new lost is = enters_by _ _ next _ new _ (record { daemon = refl; seat = refl; asked = refl; may = record { session = refl; set = refl; found = refl } }) is.0 is.1
lost_in d sid token kept NoToken (t ∷ more) next new lost is = enters_by _ _ next _ new _ (record { daemon = refl; seat = refl; asked = refl; may = (λ e. cc, (refl, refl, refl, (more, refl))) }) is.0 is.1
lost_in d sid token kept (NotYours owner) [] next new lost is = enters_by _ _ next _ new _ (record { daemon = refl; seat = refl; asked = refl; may = record { session = refl; set = refl; found = refl } }) is.0 is.1
lost_in d sid token kept (NotYours owner) (t ∷ more) next new lost is = enters_by _ _ next _ new _ (record { daemon = refl; seat = refl; asked = refl; may = (λ e. cc, (refl, refl, refl, (more, refl))) }) is.0 is.1
lost_in d sid token kept why rest next new lost is = absurd lost

pub lost : (old : Membership) (sid : Sid) (token : Token) (why : DmRefusal) (rest : List Token) (next : Step) (new : Membership) → IsFinding sid token rest old → IsLost why
    → ((t : Token) (l : List Token) → IsFinding sid t l old → FindsNext sid l old next new) → Enters old (heard.Dm (reply.Refused why)) next new
lost old sid token why rest next new was is finds =
    subst (λ (m : Membership). FindsNext sid rest m next new → Enters m (heard.Dm (reply.Refused why)) next new) (sym was) (lost_in old.daemon sid token old.seat.kept why rest next new is) (finds token rest was)

-- ---- sessions that are asked after

next_in : (d : Daemon) (target : Sid) (kept : List Kept) (info : List ℕ) (id : Sid) (more : List Sid) → bytes_eq info (information d) ≡ false
    → Enters (member_in d (Querying target (id ∷ more) 0) kept) (heard.Dm (reply.Info info)) (step.Asks (asked_in d (Querying id more 0))) (member_in d (Querying id more 0) kept)
next_in d target kept info id more other = record { daemon = refl; seat = rw other refl; asked = refl; may = (λ e. cc, (refl, rw other refl, (more, rw other refl))) }

pub queried_next : (old : Membership) (told : Heard) (target : Sid) (info : List ℕ) (rest : List Sid) (id : Sid) (next : Step) (new : Membership) → IsQuerying target rest old → told ≡ heard.Dm (reply.Info info)
    → bytes_eq info (information old.daemon) ≡ false → next ≡ step.Asks (Dm first_id (QuerySession id)) → ((t : Sid) (l : List Sid) → IsQuerying t l old → QueriesNext l old (Some id) new) → Enters old told next new
queried_next old told target info rest id next new was told_is other next_is goes =
    let q = goes target rest was in
    let is_new : new ≡ member_in old.daemon (Querying id q.0 0) old.seat.kept = q.2 ∙ (λ i. member_in (q.3 i) (Querying id q.0 0) (q.4 i)) in
    let is_old : old ≡ member_in old.daemon (Querying target (id ∷ q.0) 0) old.seat.kept = was ∙ ap (λ (l : List Sid). member_in old.daemon (Querying target l 0) old.seat.kept) q.1 in
    told_as old told _ next new told_is (subst (λ (m : Membership). Enters m (heard.Dm (reply.Info info)) next new) (sym is_old)
    (enters_by _ _ next _ new _ (next_in old.daemon target old.seat.kept info id q.0 other) next_is is_new))

made_in : (d : Daemon) (target : Sid) (kept : List Kept) (info : List ℕ) → bytes_eq info (information d) ≡ false
    → Enters (member_in d (Querying target [] 0) kept) (heard.Dm (reply.Info info)) (step.Asks (asked_in d (Making first_id))) (member_in d (Making first_id) [])
made_in d target kept info other = record { daemon = refl; seat = refl; asked = refl; may = (λ e. cc, (refl, refl, inl (refl, rw other refl, rw other refl))) }

pub queried_all : (old now : Membership) (told : Heard) (target : Sid) (info : List ℕ) (rest : List Sid) (next : Step) (new : Membership) → IsQuerying target rest old → told ≡ heard.Dm (reply.Info info)
    → bytes_eq info (information old.daemon) ≡ false → ((t : Sid) (l : List Sid) → IsQuerying t l old → QueriesNext l old None now) → Makes first_id now next new → Enters old told next new
queried_all old now told target info rest next new was told_is other goes makes =
    let q = goes target rest was in
    let made : Makes first_id old next new = subst (λ (m : Membership). Makes first_id m next new) q.1 makes in
    let is_old : old ≡ member_in old.daemon (Querying target [] 0) old.seat.kept = was ∙ ap (λ (l : List Sid). member_in old.daemon (Querying target l 0) old.seat.kept) q.0 in
    told_as old told _ next new told_is (subst (λ (m : Membership). Enters m (heard.Dm (reply.Info info)) next new) (sym is_old)
    (enters_by _ _ next _ new _ (made_in old.daemon target old.seat.kept info other) made.0 made.1))

-- ---- a session that is refused

refused_in : (d : Daemon) (old : Sid) (kept : List Kept) (count : ℕ) → Enters (member_in d (Making old) kept) (heard.Dm (reply.Refused (TooMany count))) step.Refused (member_in d Outside kept)
refused_in d old kept count = record { daemon = refl; seat = refl; asked = refl; may = (old, information d, count, refl, refl) }

pub refused : (was : Membership) (why : DmRefusal) (old : Sid) (count : ℕ) (new : Membership) → was ≡ member_in was.daemon (Making old) was.seat.kept → why ≡ TooMany count
    → new ≡ member_in was.daemon Outside was.seat.kept → Enters was (heard.Dm (reply.Refused why)) step.Refused new
refused was why old count new is why_is new_is =
    told_as was (heard.Dm (reply.Refused why)) _ step.Refused new (ap (λ (r : DmRefusal). heard.Dm (reply.Refused r)) why_is)
    (subst (λ (m : Membership). Enters m (heard.Dm (reply.Refused (TooMany count))) step.Refused new) (sym is)
    (enters_by _ _ step.Refused _ new _ (refused_in was.daemon old was.seat.kept count) refl new_is))

-- ---- what a state shows

pub is_querying : (d : Daemon) (entering : Entering) (kept : List Kept) (m : Membership) (target : Sid) (ids : List Sid) (at : ℕ) → entering ≡ Querying target ids at → member_in d entering kept ≡ m
    → (rest : List Sid) × IsQuerying target rest m
is_querying d entering kept m target ids at is shows =
    (drop at ids, subst (IsQuerying target (drop at ids)) (ap (λ (e : Entering). member_in d e kept) (sym is) ∙ shows) refl)

pub is_finding : (d : Daemon) (entering : Entering) (kept : List Kept) (m : Membership) (sid : Sid) (token : Token) (tokens : List Token) (at : ℕ) → entering ≡ Finding sid token tokens at → member_in d entering kept ≡ m
    → (rest : List Token) × IsFinding sid token rest m
is_finding d entering kept m sid token tokens at is shows =
    (drop at tokens, subst (IsFinding sid token (drop at tokens)) (ap (λ (e : Entering). member_in d e kept) (sym is) ∙ shows) refl)
