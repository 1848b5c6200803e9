-- What was told in the last entries, all of them quiet, is so in the state behind them.
use Rattle.std.proofs.Common.{◌≡◌, ℕ, Bool, true, false, List, [], ◌∷◌, ◌++◌, Option, None, Some, inl, inr, refl, sym, ap, ap₂, ◌∙◌}
use Rattle.std.proofs.lemmas.Bool.{false≢true}
use Rattle.std.specs.Prelude.{if◌then◌else◌, nat_lt, Contains}
use Rattle.std.specs.List.{list_all}
use Rattle.hsm_types.specs.Limits.{buffer_bytes}
use Rattle.hsm_types.specs.Refusals.{first_refusal}
use Rattle.hsm_types.specs.Sessions.{lives, none_fits, queue_of}
use Rattle.hsm_types.specs.declared.dm.DmCall.TheVariants.{GetEvents, GetSpace}
use Rattle.hsm_types.specs.declared.dm.DmRefusal.{DmRefusal}
use Rattle.hsm_types.specs.declared.dm.DmRefusal.TheVariants.{NoSession, Again}
use Rattle.hsm_types.specs.declared.dm.DmReply.TheVariants.{Refused, Space as TheSpace}
use Rattle.hsm_types.specs.declared.keys.Sid.{Sid}
use Rattle.hsm_types.specs.declared.stores.Superblock.{Superblock}
use Rattle.plain_model.specs.declared.entries.Action.TheVariants.{Dm}
use Rattle.plain_model.specs.declared.entries.Actor.TheVariants.{Session}
use Rattle.plain_model.specs.declared.entries.Answer.TheVariants.{Dm as Told}
use Rattle.plain_model.specs.declared.entries.Entry.{Entry}
use Rattle.plain_model.specs.Exact.{IsAnswer, ExactSeen, state_by}
use Rattle.plain_model.specs.Faults.{fault_of}
use Rattle.plain_model.specs.Services.{dm_judged, dm_reply_where, dm_reply_to}
use Rattle.plain_model.specs.State.{Held, State, used}
use Rattle.plain_model.proofs.Alike.{used_alike}
use Rattle.hsm_policy.specs.Settings.{Numbers}
use Rattle.hsm_core.specs.Answers.{entry_of}
use Rattle.migrate_daemon.specs.declared.shares.Space.{Space}
use Rattle.migrate_daemon.specs.Shares.{share, is_above}
use Rattle.marked_history.specs.Quiet.{is_quiet}
use Rattle.marked_history.specs.Settling.{IsCrowded}
use Rattle.marked_history.specs.Waiting.{no_more}
use Rattle.marked_history.proofs.Granting.{refused_so}
use Rattle.marked_history.proofs.Lists.{parts}
use Rattle.marked_history.proofs.Seen.{over}
use Rattle.marked_history.proofs.Waiting.{quiet_at, told_again}

-- ---- what an answer tells of the state before it

judged_live : (b : Bool) (found : Option DmRefusal) → first_refusal ((if b then None else Some NoSession) ∷ found ∷ []) ≡ Some Again → b ≡ true
judged_live true found is = refl
judged_live false found is = absurd cc

module _ (s : Superblock) (st : State) (sid : Sid) where
  -- a session that is told of no more events lives
  told_live : IsAnswer s st (Session sid) (Dm (GetEvents 0 buffer_bytes)) (Told (Refused Again)) → lives sid st.sessions ≡ true
  told_live (inl is) = absurd (let wrong : Told (Refused Again) ≡ fault_of (Dm (GetEvents 0 buffer_bytes)) = is.1 in cc)
  told_live (inr is) =
      let own : Told (Refused Again) ≡ Told (dm_reply_to s st sid (GetEvents 0 buffer_bytes)) = is.1 in
      judged_live (lives sid st.sessions) (none_fits buffer_bytes (queue_of sid st.sessions)) (refused_so (dm_judged s st sid (GetEvents 0 buffer_bytes)) s st sid (GetEvents 0 buffer_bytes) Again cc)

  -- so many blocks are used, of so many
  abbrev pub IsSpace : ℕ → ℕ → Type 0
  IsSpace count total = (count ≡ used st.held.files) × (total ≡ s.geometry.blocks)

  served_space : (judged : Option DmRefusal) (count total : ℕ) → TheSpace count total ≡ dm_reply_where judged s st sid GetSpace → IsSpace count total
  served_space (Some why) count total is = absurd cc
  served_space None count total is = let own : TheSpace count total ≡ TheSpace (used st.held.files) s.geometry.blocks = is in (cc, cc)

  told_space : (count total : ℕ) → IsAnswer s st (Session sid) (Dm GetSpace) (Told (TheSpace count total)) → IsSpace count total
  told_space count total (inl is) = absurd (let wrong : Told (TheSpace count total) ≡ fault_of (Dm GetSpace) = is.1 in cc)
  told_space count total (inr is) =
      let own : Told (TheSpace count total) ≡ Told (dm_reply_to s st sid GetSpace) = is.1 in
      let reply : TheSpace count total ≡ dm_reply_to s st sid GetSpace = cc in
      served_space (dm_judged s st sid GetSpace) count total reply

-- ---- behind quiet entries

module _ (s : Superblock) (st : State) (es first turns : List Entry) (exact : ExactSeen ⊥ s st es) (whole : es ≡ first ++ turns) (quiet : list_all is_quiet turns ≡ true) where
  -- a session that was told of no more events lives on
  pub lives_still : (sid : Sid) → Contains turns (no_more sid) → lives sid (state_by s st es).sessions ≡ true
  lives_still sid there =
      let p = parts turns (no_more sid) there in
      let here = quiet_at s st es first turns p.0 (no_more sid) p.1 exact whole quiet p.2 in
      ap (lives sid) here.same.0 ∙ told_live s (over here.now here.answer.seen) sid here.answer.exact

  -- and no message is in its queue
  pub empty_still : (sid : Sid) → Contains turns (no_more sid) → queue_of sid (state_by s st es).sessions ≡ []
  empty_still sid there =
      let p = parts turns (no_more sid) there in
      let here = quiet_at s st es first turns p.0 (no_more sid) p.1 exact whole quiet p.2 in
      ap (queue_of sid) here.same.0 ∙ told_again s (over here.now here.answer.seen) sid here.answer.exact

  -- a store of which a session was told so of the space isn't crowded
  pub spacious_still : (limits : Numbers) (sid : Sid) (space : Space) → Contains turns (entry_of (Session sid) (Dm GetSpace) (Told (TheSpace space.used space.total))) → is_above limits.high (Some space) ≡ false → IsCrowded limits s (state_by s st es) → ⊥
  spacious_still limits sid space there below crowded =
      let asked : Entry = entry_of (Session sid) (Dm GetSpace) (Told (TheSpace space.used space.total)) in
      let p = parts turns asked there in
      let here = quiet_at s st es first turns p.0 asked p.1 exact whole quiet p.2 in
      let so = told_space s (over here.now here.answer.seen) sid space.used space.total here.answer.exact in
      let count : space.used ≡ used (state_by s st es).held.files = so.0 ∙ used_alike here.now.held here.answer.seen here.answer.alike ∙ sym (ap (λ (x : Held). used x.files) here.same.2) in
      let same : is_above limits.high (Some space) ≡ nat_lt (share limits.high s.geometry.blocks) (used (state_by s st es).held.files) = ap₂ (λ (u t : ℕ). nat_lt (share limits.high t) u) count so.1 in
      false≢true (sym below ∙ same ∙ crowded)
