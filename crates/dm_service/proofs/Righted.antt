-- Tables whose tokens hold something else are kept.
use Rattle.std.proofs.Common.{◌≡◌, ◌≢◌, ℕ, [], ◌∷◌, true, Option, None, refl, sym, ◌∙◌, ap}
use Rattle.std.specs.Prelude.{Result, Ok, Err, OnOk, OnErr, MatchResult}
use Rattle.std.specs.List.{All}
use Rattle.std.specs.Map.{keys_of}
use Rattle.hsm_types.specs.Refusals.{first_refusal}
use Rattle.hsm_types.specs.Rights.{Rights, AreRights, holding, reaches, right_of, conflict, busy, too_low, requested, with_right, without_right}
use Rattle.hsm_types.specs.Sessions.{dead_session}
use Rattle.hsm_types.specs.declared.dm.DmRefusal.{DmRefusal}
use Rattle.hsm_types.specs.declared.dm.Scope.{Scope}
use Rattle.hsm_types.specs.declared.dm.Scope.TheVariants.{Anyone, InSession, OnToken, OnFile, OnRight}
use Rattle.hsm_types.specs.declared.keys.Sid.{Sid}
use Rattle.hsm_types.specs.declared.dm.DmRefusal.TheVariants.{NeedRight}
use Rattle.hsm_types.specs.declared.dm.Right.{Right}
use Rattle.hsm_types.specs.declared.dm.Right.TheVariants.{Null, Shared, Excl}
use Rattle.hsm_types.specs.declared.keys.FileKey.{FileKey}
use Rattle.hsm_types.specs.declared.keys.Holding.{Holding}
use Rattle.hsm_types.specs.declared.keys.Token.{Token}
use Rattle.hsm_types.proofs.Righted.{requested-rights, upgraded-rights, downgraded-rights, without-rights, keys-requested, keys-with_right}
use Rattle.hsm_types.proofs.Righted.{keys-without_right, right-held}
use Rattle.plain_model.proofs.Judged.{none_first, passes}
use Rattle.plain_model.specs.Services.{bad_own_token}
use Rattle.plain_model.specs.Stands.{InOrder}
use Rattle.plain_model.proofs.Orders.{owned_open, not_busy}
use Rattle.dm_service.specs.Tables.{Tables, is_open, seen, AreKept}
use Rattle.dm_service.specs.Services.{HasOpenToken, Judges, session_refusals}

module _ (t : Tables) (n : ℕ) (kept : AreKept t n) (token : Token) (key : FileKey) where
  abbrev IsOpen : Holding → Type 0
  IsOpen h = is_open t.sessions h.token.0 ≡ true

  -- as long as these are rights, of open tokens
  with_rights : (rights : Rights) → AreRights rights → All IsOpen (keys_of rights) → AreKept (record t { rights = rights }) n
  with_rights rights are held = record {
    ordered = record {
      ascend = kept.ordered.ascend;
      once = kept.ordered.once;
      given = kept.ordered.given;
      none = kept.ordered.none;
      waits = kept.ordered.waits;
      rights = are;
      held = held;
    };
    counted = kept.counted;
    few = kept.few;
  }

  -- what a call leaves that was done or refused
  pub ended_kept : {E : Type 0} (result : Result Unit E) (P : E → Type 0) (why : Option DmRefusal) (left now : Rights) → (why ≡ None → AreKept (record t { rights = left }) n) → MatchResult result (λ _. why ≡ None) P
      → OnOk result (now ≡ left) → OnErr result (now ≡ t.rights) → AreKept (record t { rights = now }) n
  ended_kept (Ok x) P why left now done judged after err = rw after (done judged)
  ended_kept (Err e) P why left now done judged after err = rw err kept

  pub released_kept : AreKept (record t { rights = without_right token key t.rights }) n
  released_kept = with_rights (without_right token key t.rights) (without-rights token key t.rights kept.ordered.rights) (keys-without_right IsOpen token key t.rights kept.ordered.held)

  pub requested_kept : (right : Right) → is_open t.sessions token.0 ≡ true → busy (conflict key right token t.rights) ≡ None → AreKept (record t { rights = requested token key right t.rights }) n
  requested_kept right opened none =
      with_rights (requested token key right t.rights) (requested-rights token key right t.rights kept.ordered.rights (not_busy (conflict key right token t.rights) none))
      (keys-requested IsOpen token key right t.rights kept.ordered.held opened)

  -- what has enough has something, so its token is open
  open_with : (need : Right) → (need ≢ Null) → reaches (right_of token key t.rights) need ≡ true → IsOpen (holding token key)
  open_with need some high = right-held IsOpen token key t.rights kept.ordered.held (λ none. not_enough need some (ap (λ have. reaches have need) (sym none) ∙ high))
    where
      not_enough : (need : Right) → (need ≢ Null) → reaches Null need ≡ true → ⊥
      not_enough Null some high = some refl
      not_enough Shared some high = cc
      not_enough Excl some high = cc

  pub upgraded_kept : first_refusal (too_low Shared (right_of token key t.rights) ∷ busy (conflict key Excl token t.rights) ∷ []) ≡ None → AreKept (record t { rights = with_right token key Excl t.rights }) n
  upgraded_kept none =
      let past = none_first (too_low Shared (right_of token key t.rights)) (busy (conflict key Excl token t.rights) ∷ []) none in
      let free = none_first (busy (conflict key Excl token t.rights)) [] past.1 in
      with_rights (with_right token key Excl t.rights) (upgraded-rights token key t.rights kept.ordered.rights (not_busy (conflict key Excl token t.rights) free.0))
      (keys-with_right IsOpen token key Excl t.rights kept.ordered.held
      (open_with Shared (λ is. cc) (passes (reaches (right_of token key t.rights) Shared) (NeedRight (right_of token key t.rights)) past.0)))

  pub downgraded_kept : too_low Excl (right_of token key t.rights) ≡ None → AreKept (record t { rights = with_right token key Shared t.rights }) n
  downgraded_kept none =
      let high = passes (reaches (right_of token key t.rights) Excl) (NeedRight (right_of token key t.rights)) none in
      with_rights (with_right token key Shared t.rights) (downgraded-rights token key t.rights kept.ordered.rights high)
      (keys-with_right IsOpen token key Shared t.rights kept.ordered.held (open_with Excl (λ is. cc) high))

-- ---- what a scope that doesn't refuse says of its token

pub open_in_scope : {T : Type 0} (t : Tables) (sid : Sid) (scope : Scope) (result : Result T DmRefusal) → InOrder (seen t) → Judges result (first_refusal (session_refusals t.sessions sid scope)) → OnOk result (HasOpenToken t.sessions scope)
open_in_scope t sid scope (Err why) ordered judged = tt
open_in_scope t sid Anyone (Ok x) ordered judged = tt
open_in_scope t sid InSession (Ok x) ordered judged = tt
open_in_scope t sid (OnToken token) (Ok x) ordered judged = tt
open_in_scope t sid (OnFile token handle right) (Ok x) ordered judged = tt
open_in_scope t sid (OnRight token handle right) (Ok x) ordered judged =
    let past_session = none_first (dead_session sid t.sessions) (bad_own_token sid token t.sessions ∷ []) judged in
    (owned_open (seen t) sid token ordered (none_first (bad_own_token sid token t.sessions) [] past_session.1).0).0
