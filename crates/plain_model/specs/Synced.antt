-- Which entries of a history a crash may not take back.
use Rattle.std.specs.Prelude.{ℕ, ◌≡◌, ◌≤◌, ◌+◌, List, [], ◌∷◌, ◌++◌, length, Bool, true, false, if◌then◌else◌}
use Rattle.std.specs.List.{list_any}
use Rattle.hsm_types.specs.declared.calls.Call.TheVariants.{Sync}
use Rattle.hsm_types.specs.declared.calls.Reply.TheVariants.{Done}
use Rattle.plain_model.specs.declared.entries.Entry.{Entry}
use Rattle.plain_model.specs.declared.entries.Action.{Action}
use Rattle.plain_model.specs.declared.entries.Action.TheVariants.{Issue, Commit}
use Rattle.plain_model.specs.declared.entries.Answer.{Answer}
use Rattle.plain_model.specs.declared.entries.Answer.TheVariants.{Call as Replied}

abbrev pub syncs : Action → Answer → Bool
syncs (Issue Sync) (Replied Done) = true
syncs Commit (Replied Done) = true
syncs action answer = false

-- a sync or a commit that was done
abbrev pub is_sync : Entry → Bool
is_sync e = syncs e.action e.answer

-- the number of entries before the last sync or commit that was done, 0 where there is none
abbrev pub synced : List Entry → ℕ
synced [] = 0
synced (e ∷ es) = if list_any is_sync es then synced es + 1 else 0

-- no more than there are; one entry more leaves it, but a sync raises it to all entries before
pub record SyncedLaws (es : List Entry) : Type 0 where
  pub within : synced es ≤ length es
  pub more : (e : Entry) → synced (es ++ e ∷ []) ≡ (if is_sync e then length es else synced es)
