-- Why a store refuses the calls of recall that put events off.
use Rattle.std.proofs.Common.{◌≡◌, ◌∙◌, ◌+◌, ◌++◌, Bool, true, false, List, [], ◌∷◌, length, Option, Some, None, IfSome, inl, inr, refl, sym, ap}
use Rattle.std.proofs.Common.{subst, length-append, arith}
use Rattle.std.specs.Prelude.{◌==◌, if◌then◌else◌}
use Rattle.std.specs.List.{AllByRecursion}
use Rattle.std.proofs.lemmas.Bool.{false≢true}
use Rattle.disk_model.specs.declared.device.Disk as disk
use Rattle.hsm_types.specs.Messages.{is_lawful}
use Rattle.hsm_types.specs.Refusals.{first_refusal}
use Rattle.hsm_types.specs.Rights.{conflict, busy, right_of, too_low}
use Rattle.hsm_types.specs.Sessions.{same_sid, owner, lives, not_yours, dead_session, bad_response}
use Rattle.hsm_types.specs.declared.dm.DmCall.{DmCall}
use Rattle.hsm_types.specs.declared.dm.DmCall.TheVariants.{Respond, RequestRight}
use Rattle.hsm_types.specs.declared.dm.DmRefusal.{DmRefusal}
use Rattle.hsm_types.specs.declared.dm.DmRefusal.TheVariants.{NoSession, NoToken, NotYours, NoObject, Busy}
use Rattle.hsm_types.specs.declared.dm.DmReply.{DmReply}
use Rattle.hsm_types.specs.declared.dm.DmReply.TheVariants.{Done, Refused}
use Rattle.hsm_types.specs.declared.dm.Response.{Response}
use Rattle.hsm_types.specs.declared.dm.Right.{Right}
use Rattle.hsm_types.specs.declared.dm.Right.TheVariants.{Null}
use Rattle.hsm_types.specs.declared.keys.Handle.{Handle}
use Rattle.hsm_types.specs.declared.keys.Sid.{Sid}
use Rattle.hsm_types.specs.declared.keys.Token.{Token}
use Rattle.hsm_types.specs.declared.stores.Superblock.{Superblock}
use Rattle.plain_model.specs.declared.entries.Answer.TheVariants.{Dm as Told}
use Rattle.plain_model.specs.declared.entries.Entry.{Entry}
use Rattle.plain_model.specs.Services.{bad_own_token, is_live, bad_handle, dm_judged, dm_reply_where, dm_reply_to}
use Rattle.plain_model.specs.State.{Held, State}
use Rattle.file_store.specs.Stores.{superblock_of}
use Rattle.hsm_core.specs.Answers.{IsTold}
use Rattle.hsm_core.specs.Store.{Store, state_of}
use Rattle.hsm_system.specs.Acts.{AddsCall}

-- ---- the store's own answer

longer : (xs : List Entry) (e : Entry) → xs ≡ xs ++ e ∷ [] → ⊥
longer xs e is = let more : length xs ≡ length xs + 1 = ap (λ (ys : List Entry). length ys) is ∙ length-append xs (e ∷ []) in omega (arith, more)

-- A call that the history has, and after which the store works, was answered over what was seen of the files.
pub own_reply : {D : Type 0} (g : disk.Ghosts D) (old new : Store D) (sid : Sid) (call : DmCall) (reply : DmReply) → IsTold g old sid call reply new → AddsCall sid call reply old new → new.files.failed ≡ false
    → (seen : Held) × (reply ≡ dm_reply_to (superblock_of old.opened) (record (state_of old) { held = seen }) sid call)
own_reply g old new sid call reply (inl closed) added still = absurd (false≢true (sym still ∙ ap (λ (s : Store _). s.files.failed) closed.same ∙ closed.failed))
own_reply g old new sid call reply (inr (inl lacks)) added still = absurd (longer old.history _ (sym lacks.history ∙ added))
own_reply g old new sid call reply (inr (inr (inl failed))) added still = absurd (false≢true (sym still ∙ failed.failed))
own_reply g old new sid call reply (inr (inr (inr done))) added still =
    let seen : State = record (state_of old) { held = done.answer.0 } in
    let given : Told reply ≡ Told (dm_reply_to (superblock_of old.opened) seen sid call) = done.answer.2.1 in
    (done.answer.0, (let is : reply ≡ dm_reply_to (superblock_of old.opened) seen sid call = cc given in is))

-- ---- the first that refuses

first_is : {R : Type 0} (P : R → Type 0) (xs : List (Option R)) → AllByRecursion (λ (o : Option R). IfSome o P) xs → IfSome (first_refusal xs) P
first_is P [] all = tt
first_is P (None ∷ rest) all = first_is P rest all.1
first_is P (Some why ∷ rest) all = all.0

refuses_so : {R : Type 0} (P : R → Type 0) (b : Bool) (why : R) → P why → IfSome (if b then None else Some why) P
refuses_so P true why is = tt
refuses_so P false why is = is

or_so : {R : Type 0} (P : R → Type 0) (b : Bool) (why : R) (other : Option R) → P why → IfSome other P → IfSome (if b then Some why else other) P
or_so P true why other is rest = is
or_so P false why other is rest = rest

not_yours_is : (P : DmRefusal → Type 0) (sid : Sid) (o : Option Sid) → P NoToken → ((by : Sid) → P (NotYours by)) → IfSome (not_yours sid o) P
not_yours_is P sid None none others = none
not_yours_is P sid (Some by) none others = refuses_so P (same_sid by sid) (NotYours by) (others by)

busy_is : (P : DmRefusal → Type 0) (o : Option Token) → ((t : Token) → o ≡ Some t → P (Busy t)) → IfSome (busy o) P
busy_is P None all = tt
busy_is P (Some t) all = all t refl

-- ---- a request for a right

-- by the token whose right excludes it
abbrev pub RefusesRight : Option Token → DmRefusal → Type 0
RefusesRight first NoSession = Unit {0}
RefusesRight first NoToken = Unit {0}
RefusesRight first (NotYours by) = Unit {0}
RefusesRight first NoObject = Unit {0}
RefusesRight first (Busy holder) = first ≡ Some holder
RefusesRight first why = ⊥

-- ---- a response

abbrev pub RefusesResponse : DmRefusal → Type 0
RefusesResponse NoSession = Unit {0}
RefusesResponse NoToken = Unit {0}
RefusesResponse (NotYours by) = Unit {0}
RefusesResponse why = ⊥

lawful_is : (P : DmRefusal → Type 0) (response : Response) → is_lawful response ≡ true → IfSome (bad_response response) P
lawful_is P response lawful = subst (λ (o : Option DmRefusal). IfSome o P) (sym (none response lawful)) tt
  where
    none : (response : Response) → is_lawful response ≡ true → bad_response response ≡ None
    none response lawful = rw lawful refl

module _ (s : Superblock) (st : State) (sid : Sid) (w : DmRefusal) where
  token_is : (P : DmRefusal → Type 0) (t : Token) → P NoToken → ((by : Sid) → P (NotYours by)) → IfSome (bad_own_token sid t st.sessions) P
  token_is P t none others = or_so P (t.0 == 0) NoToken (not_yours sid (owner t st.sessions)) none (not_yours_is P sid (owner t st.sessions) none others)

  right_judged : (t : Token) (h : Handle) (right : Right) → IfSome (dm_judged s st sid (RequestRight t h right)) (RefusesRight (conflict h.key right t st.rights))
  right_judged t h right =
      let first : Option Token = conflict h.key right t st.rights in
      first_is (RefusesRight first)
      (dead_session sid st.sessions ∷ bad_own_token sid t st.sessions ∷ bad_handle s st.held.files h ∷ too_low Null (right_of t h.key st.rights) ∷ busy first ∷ [])
      (refuses_so (RefusesRight first) (lives sid st.sessions) NoSession tt, (token_is (RefusesRight first) t tt (λ by. tt), (refuses_so (RefusesRight first) (is_live s st.held.files h) NoObject tt, (tt, (busy_is (RefusesRight first) first (λ holder is. is), tt)))))

  response_judged : (t : Token) (response : Response) → is_lawful response ≡ true → IfSome (dm_judged s st sid (Respond t response)) RefusesResponse
  response_judged t response lawful = first_is RefusesResponse
      (dead_session sid st.sessions ∷ bad_own_token sid t st.sessions ∷ bad_response response ∷ [])
      (refuses_so RefusesResponse (lives sid st.sessions) NoSession tt, (token_is RefusesResponse t tt (λ by. tt), (lawful_is RefusesResponse response lawful, tt)))

  refused_right : (judged : Option DmRefusal) (t : Token) (h : Handle) (right : Right) → IfSome judged (RefusesRight (conflict h.key right t st.rights)) → Refused w ≡ dm_reply_where judged s st sid (RequestRight t h right) → RefusesRight (conflict h.key right t st.rights) w
  refused_right (Some why) t h right is told = let same : why ≡ w = cc in subst (RefusesRight (conflict h.key right t st.rights)) same is
  refused_right None t h right is told = let wrong : Refused w ≡ Done = told in absurd (cc wrong)

  refused_response : (judged : Option DmRefusal) (t : Token) (response : Response) → IfSome judged RefusesResponse → Refused w ≡ dm_reply_where judged s st sid (Respond t response) → RefusesResponse w
  refused_response (Some why) t response is told = let same : why ≡ w = cc in subst RefusesResponse same is
  refused_response None t response is told = let wrong : Refused w ≡ Done = told in absurd (cc wrong)

  pub right_refused : (t : Token) (h : Handle) (right : Right) → Refused w ≡ dm_reply_to s st sid (RequestRight t h right) → RefusesRight (conflict h.key right t st.rights) w
  right_refused t h right told = refused_right (dm_judged s st sid (RequestRight t h right)) t h right (right_judged t h right) told

  pub response_refused : (t : Token) (response : Response) → is_lawful response ≡ true → Refused w ≡ dm_reply_to s st sid (Respond t response) → RefusesResponse w
  response_refused t response lawful told = refused_response (dm_judged s st sid (Respond t response)) t response (response_judged t response lawful) told
