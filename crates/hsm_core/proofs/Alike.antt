-- Files that are alike but for the bytes of mapped blocks: scopes of sessions refuse the same over them.
use Rattle.std.proofs.Common.{◌≡◌, [], ◌∷◌, ◌++◌, true, Option, Some, None, refl, ◌∙◌, ap}
use Rattle.std.specs.Prelude.{◌==◌, ◌&&◌, if◌then◌else◌}
use Rattle.hsm_types.specs.Calls.{scope_of}
use Rattle.hsm_types.specs.Refusals.{first_refusal}
use Rattle.hsm_types.specs.Rights.{right_of, too_low, bad_right}
use Rattle.hsm_types.specs.Sessions.{dead_session}
use Rattle.hsm_types.specs.declared.dm.DmCall.{DmCall}
use Rattle.hsm_types.specs.declared.dm.DmCall.TheVariants.{ReleaseRight, QueryRight, DowngradeRight}
use Rattle.hsm_types.specs.declared.dm.DmRefusal.{DmRefusal}
use Rattle.hsm_types.specs.declared.dm.DmRefusal.TheVariants.{NoObject}
use Rattle.hsm_types.specs.declared.dm.Scope.{Scope}
use Rattle.hsm_types.specs.declared.dm.Scope.TheVariants.{Anyone, InSession, OnToken, OnFile, OnRight}
use Rattle.hsm_types.specs.declared.keys.Handle.{Handle}
use Rattle.hsm_types.specs.declared.keys.Sid.{Sid}
use Rattle.hsm_types.specs.declared.stores.Superblock.{Superblock}
use Rattle.plain_model.specs.Seen.{blanked}
use Rattle.plain_model.specs.Services.{bad_own_token, bad_given_token, bad_handle, scope_refusals, service, dm_judged, dm_reply_where, dm_reply_to}
use Rattle.plain_model.specs.State.{Held, State}
use Rattle.dm_service.specs.Services.{wants_entry_alone}
use Rattle.plain_model.proofs.Alike.{live_alike}

module _ (g h : Held) (alike : blanked g ≡ blanked h) where
  handle_alike : (s : Superblock) (handle : Handle) → bad_handle s g.files handle ≡ bad_handle s h.files handle
  handle_alike s handle i = if (handle.fsid == s.fsid) && live_alike h g alike handle.key i then None else Some NoObject

  -- scopes refuse the same
  pub scope_alike : (s : Superblock) (st : State) (sid : Sid) (scope : Scope) → scope_refusals s (record st { held = g }) sid scope ≡ scope_refusals s (record st { held = h }) sid scope
  scope_alike s st sid Anyone = refl
  scope_alike s st sid InSession = refl
  scope_alike s st sid (OnToken token) = refl
  scope_alike s st sid (OnFile token handle right) = λ i. dead_session sid st.sessions ∷ bad_given_token sid token st.sessions ∷ handle_alike s handle i ∷ bad_right token handle.key right st.rights ∷ []
  scope_alike s st sid (OnRight token handle right) = λ i. dead_session sid st.sessions ∷ bad_own_token sid token st.sessions ∷ handle_alike s handle i ∷ too_low right (right_of token handle.key st.rights) ∷ []

  -- a call whose service asks of no file
  module _ (s : Superblock) (st : State) (sid : Sid) (call : DmCall) (refusal : (service s (record st { held = g }) sid call).refusal ≡ (service s (record st { held = h }) sid call).refusal)
      (reply : (service s (record st { held = g }) sid call).reply ≡ (service s (record st { held = h }) sid call).reply) where
    judged_alike : dm_judged s (record st { held = g }) sid call ≡ dm_judged s (record st { held = h }) sid call
    judged_alike i = first_refusal (scope_alike s st sid (scope_of call) i ++ refusal i ∷ [])

    reply_alike : (why : Option DmRefusal) → dm_reply_where why s (record st { held = g }) sid call ≡ dm_reply_where why s (record st { held = h }) sid call
    reply_alike None = reply
    reply_alike (Some why) = refl

    service_alike : dm_reply_to s (record st { held = g }) sid call ≡ dm_reply_to s (record st { held = h }) sid call
    service_alike = ap (λ (why : Option DmRefusal). dm_reply_where why s (record st { held = g }) sid call) judged_alike ∙ reply_alike (dm_judged s (record st { held = h }) sid call)

  -- those that want memory for their entry alone are answered the same
  pub told_alike : (s : Superblock) (st : State) (sid : Sid) (call : DmCall) → wants_entry_alone call ≡ true → dm_reply_to s (record st { held = g }) sid call ≡ dm_reply_to s (record st { held = h }) sid call
  told_alike s st sid (ReleaseRight token handle) alone = service_alike s st sid (ReleaseRight token handle) refl refl
  told_alike s st sid (QueryRight token handle) alone = service_alike s st sid (QueryRight token handle) refl refl
  told_alike s st sid (DowngradeRight token handle) alone = service_alike s st sid (DowngradeRight token handle) refl refl
  told_alike s st sid call alone = absurd cc
