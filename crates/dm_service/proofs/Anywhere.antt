-- What is said of the tables, in a store with files.
use Rattle.std.proofs.Common.{◌≡◌, ℕ, ◌+◌, true, false, Option, None, Some, refl, sym, ◌∙◌, ap}
use Rattle.std.proofs.lemmas.Bool.{eqb-true}
use Rattle.std.specs.Prelude.{◌==◌, if◌then◌else◌}
use Rattle.std.specs.Option.{option_map}
use Rattle.hsm_types.specs.Sessions.{SessionTable}
use Rattle.hsm_types.specs.declared.keys.FileKey.{FileKey}
use Rattle.hsm_types.specs.declared.keys.Sid.{Sid}
use Rattle.hsm_types.specs.declared.stores.Superblock.{Superblock}
use Rattle.hsm_types.specs.declared.dm.DmCall.{DmCall}
use Rattle.hsm_types.specs.declared.dm.DmCall.TheVariants.{Respond, CreateUserEvent, GetSpace}
use Rattle.hsm_types.specs.declared.dm.DmRefusal.{DmRefusal}
use Rattle.hsm_types.specs.declared.dm.DmReply.TheVariants.{Done}
use Rattle.hsm_types.specs.Keyed.{set_at}
use Rattle.plain_model.specs.State.{Held, State, noted}
use Rattle.plain_model.specs.Services.{dm_judged, dm_reply_where, dm_reply_to, dm_state_where, dm_state_after}
use Rattle.dm_service.specs.Tables.{Tables, waiting, pending_as, flags_or_none, state_in, seen}
use Rattle.dm_service.specs.Services.{asks_tables, any_superblock, is_due, entries_for}
use Rattle.dm_service.specs.Parking.{with_access}
use Rattle.dm_service.proofs.Served.{due_passes}

module _ (s : Superblock) (held : Held) (stamps : FileKey → ℕ) (number : ℕ) (t : Tables) where
  judged_same : (sid : Sid) (call : DmCall) → asks_tables call ≡ true → dm_judged any_superblock (seen t) sid call ≡ dm_judged s (state_in held stamps number t) sid call
  judged_same sid GetSpace asks = absurd cc
  judged_same sid call asks = cc

  reply_same : (sid : Sid) (call : DmCall) (why : Option DmRefusal) → asks_tables call ≡ true → dm_reply_where why any_superblock (seen t) sid call ≡ dm_reply_where why s (state_in held stamps number t) sid call
  reply_same sid call (Some why) asks = refl
  reply_same sid GetSpace None asks = absurd cc
  reply_same sid call None asks = cc

  rest_same : (sid : Sid) (call : DmCall) (why : Option DmRefusal) → asks_tables call ≡ true
      → record (dm_state_where why any_superblock (seen t) sid call) { held = held; stamps = stamps; number = number + 1 } ≡ dm_state_where why s (state_in held stamps number t) sid call
  rest_same sid call (Some why) asks = refl
  rest_same sid GetSpace None asks = absurd cc
  rest_same sid call None asks = cc

  -- a session's call is answered so
  pub told_anywhere : (sid : Sid) (call : DmCall) → asks_tables call ≡ true → dm_reply_to any_superblock (seen t) sid call ≡ dm_reply_to s (state_in held stamps number t) sid call
  told_anywhere sid call asks = (λ i. dm_reply_where (judged_same sid call asks i) any_superblock (seen t) sid call) ∙ reply_same sid call (dm_judged s (state_in held stamps number t) sid call) asks

  -- and leaves that
  pub left_anywhere : (u : Tables) (sid : Sid) (call : DmCall) → asks_tables call ≡ true → noted (seen u) ≡ dm_state_after any_superblock (seen t) sid call → state_in held stamps (number + 1) u ≡ dm_state_after s (state_in held stamps number t) sid call
  left_anywhere u sid call asks left =
      ap (λ (st : State). record st { held = held; stamps = stamps; number = number + 1 }) (left ∙ (λ i. dm_state_where (judged_same sid call asks i) any_superblock (seen t) sid call))
      ∙ rest_same sid call (dm_judged s (state_in held stamps number t) sid call) asks

-- of a caller of whom none waits none is taken away
unmoved : {V : Type 0} (c : ℕ) (v : V) (f : ℕ → V) → f c ≡ v → (n : ℕ) → set_at c v f n ≡ f n
unmoved c v f is n = elim (n == c) as (λ b. (n == c) ≡ b → (if b then v else f n) ≡ f n) [ true ↦ λ here. sym is ∙ ap f (sym (eqb-true n c here)) | false ↦ λ apart. refl ] refl

pub still_idle : (t : Tables) (c : ℕ) → waiting t c ≡ None → with_access c None (seen t) ≡ seen t
still_idle t c none i = record (seen t) {
  flags = λ n. unmoved c (flags_or_none None) (seen t).flags (ap flags_or_none none) n i;
  ledger = record (seen t).ledger { pending = λ n. unmoved c (option_map pending_as None) (seen t).ledger.pending (ap (option_map pending_as) none) n i };
}

-- ---- for how much there is room

-- a response that is due is done
pub due_done : (s : Superblock) (st : State) (sid : Sid) (call : DmCall) → is_due st.sessions sid call ≡ true → dm_reply_to s st sid call ≡ Done
due_done s st sid (Respond token response) due = ap (λ why. dm_reply_where why s st sid (Respond token response)) (due_passes st.sessions sid token response due)
due_done s st sid GetSpace due = absurd cc
due_done s st sid call due = absurd cc

-- a call that asks no tables needs room for its own entry
pub entry_alone : (t : SessionTable) (sid : Sid) (call : DmCall) → asks_tables call ≡ false → entries_for t sid call ≡ 1
entry_alone t sid (Respond token response) asks = absurd cc
entry_alone t sid (CreateUserEvent body) asks = absurd cc
entry_alone t sid GetSpace asks = refl
entry_alone t sid call asks = refl
