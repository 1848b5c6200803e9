-- A punch that is done frees just the mapped blocks of the segments that it names.
use Rattle.std.proofs.Common.{◌≡◌, ℕ, ◌+◌, ◌-◌, ◌*◌, min, max, List, [], ◌∷◌, ◌++◌, length, take, drop, Bool, true, false, cond, Some}
use Rattle.std.proofs.Common.{sym, ◌∙◌, ap, subst, arith, drop-drop}
use Rattle.std.specs.Prelude.{replicate, count_by, if◌then◌else◌}
use Rattle.std.proofs.lemmas.List.Folds.{sum_by-replicate}
use Rattle.std.proofs.lemmas.List.Sums.{sum_by-cons, sum_by-append, sum_by-take-drop}
use Rattle.hsm_types.specs.Limits.{segment_blocks}
use Rattle.hsm_types.specs.declared.dm.DmCall.{DmCall}
use Rattle.hsm_types.specs.declared.dm.DmCall.TheVariants.{PunchHole}
use Rattle.hsm_types.specs.declared.dm.DmReply.TheVariants.{Done}
use Rattle.hsm_types.specs.declared.keys.FileKey.{FileKey}
use Rattle.hsm_types.specs.declared.keys.Handle.{Handle}
use Rattle.hsm_types.specs.declared.keys.Sid.{Sid}
use Rattle.hsm_types.specs.declared.keys.Token.{Token}
use Rattle.hsm_types.specs.declared.stores.Superblock.{Superblock}
use Rattle.plain_model.specs.declared.entries.Action.TheVariants.{Dm}
use Rattle.plain_model.specs.declared.entries.Actor.TheVariants.{Session}
use Rattle.plain_model.specs.declared.entries.Answer.TheVariants.{Dm as Told}
use Rattle.plain_model.specs.declared.entries.Entry.{Entry}
use Rattle.plain_model.specs.Blocks.{with_holes}
use Rattle.plain_model.specs.Effects.{Punches, punch_from, punch_to}
use Rattle.plain_model.specs.Exact.{left_by, state_by}
use Rattle.hsm_types.specs.Keyed.{same_key, find_key}
use Rattle.plain_model.specs.State.{FileState, Held, State, file_or_new, file_at, used_by, used, remade, affected_held, just_opened}
use Rattle.plain_model.proofs.Histories.{state_by-push}
use Rattle.marked_history.specs.Freeing.{freed, punch_done, PunchFrees}

-- ---- blocks

abbrev one_if : Bool → ℕ
one_if b = cond b 1 0

abbrev count : List Bool → ℕ
count mapped = count_by (λ b. b) mapped

-- holes in place of the blocks from low up to high, before those from end on
holed : (low high holes end : ℕ) (mapped : List Bool) → low + (high - low) ≡ end → count mapped ≡ count (take low mapped ++ replicate holes false ++ drop end mapped) + count (take (high - low) (drop low mapped))
holed low high holes end mapped is =
    let behind : count (drop (high - low) (drop low mapped)) ≡ count (drop end mapped) = ap count (drop-drop (high - low) low mapped ∙ ap (λ (n : ℕ). drop n mapped) is) in
    omega (arith, behind, sum_by-take-drop one_if mapped low, sum_by-take-drop one_if (drop low mapped) (high - low), sum_by-append one_if (take low mapped ++ replicate holes false) (drop end mapped), sum_by-append one_if (take low mapped) (replicate holes false), sum_by-replicate one_if holes false)

module _ (from to : ℕ) where
  holes_free : (mapped : List Bool) → count mapped ≡ count (with_holes from to mapped) + freed from to mapped
  holes_free mapped = holed (segment_blocks * from) (segment_blocks * to) (min (segment_blocks * to) (length mapped) - segment_blocks * from) (segment_blocks * max from to) mapped (omega arith)

  -- ---- files

  -- one file is changed, or none where none has the key
  punch_by_key : (k : FileKey) (files : List FileState) → used files ≡ used (affected_held (Punches from to) k files) + freed from to (file_at k files).mapped
  punch_by_key k [] = omega (arith, holes_free [])
  punch_by_key k (f ∷ fs) =
      elim (same_key f.key k) as (λ (b : Bool). used (f ∷ fs)
      ≡ used (if b then remade (Punches from to) f ∷ fs else f ∷ affected_held (Punches from to) k fs) + freed from to (file_or_new k (if b then Some f else find_key (λ (g : FileState). g.key) k fs)).mapped) [
        | true ↦ omega (arith, holes_free f.mapped, sum_by-cons used_by f fs, sum_by-cons used_by (remade (Punches from to) f) fs)
        | false ↦ omega (arith, punch_by_key k fs, sum_by-cons used_by f fs, sum_by-cons used_by f (affected_held (Punches from to) k fs))
      ]

-- ---- entries

module _ (s : Superblock) (now : State) (sid : Sid) (t : Token) (handle : Handle) (offset len : ℕ) where
  abbrev punch : DmCall
  punch = PunchHole t handle offset len

  -- of the file that the punch names
  abbrev Frees : State → Type 0
  Frees next = used now.held.files ≡ used next.held.files + freed (punch_from offset) (punch_to offset len) (file_at handle.key now.held.files).mapped

  entry_frees : Frees (left_by s now (Session sid) (Dm punch) (Told Done))
  entry_frees = punch_by_key (punch_from offset) (punch_to offset len) handle.key now.held.files

pub punch_frees : (s : Superblock) (base : ℕ) (h : Held) (es : List Entry) → PunchFrees s base h es
punch_frees s base h es run before sid t handle offset len rest is =
    let first : State = just_opened base h in
    let e : Entry = punch_done sid t handle offset len in
    subst (Frees s (state_by s first before) sid t handle offset len) (sym (state_by-push s first before e)) (entry_frees s (state_by s first before) sid t handle offset len)
