-- What a resume would come to now.
use Rattle.std.specs.Prelude.{ℕ, Bool, not, ◌&&◌, if◌then◌else◌, Option, Some, None}
use Rattle.hsm_types.specs.declared.calls.CallRefusal.TheVariants.{Disk}
use Rattle.hsm_types.specs.declared.calls.Reply.{Reply}
use Rattle.hsm_types.specs.declared.calls.Reply.TheVariants.{Blocked, Still, Refused}
use Rattle.hsm_types.specs.declared.dm.Response.{Response}
use Rattle.hsm_types.specs.declared.keys.Token.{Token}
use Rattle.plain_model.specs.declared.entries.Action.TheVariants.{Resume}
use Rattle.plain_model.specs.Verdict.{reply_to}
use Rattle.access_park.specs.declared.access.Access.{Access}
use Rattle.dm_service.specs.Tables.{waiting}
use Rattle.file_store.specs.Stores.{superblock_of}
use Rattle.hsm_core.specs.Outcomes.{is_abort}
use Rattle.hsm_core.specs.Store.{Store, state_of}
use Rattle.hsm_core.specs.declared.store.Ready.{Ready}
use Rattle.hsm_core.specs.declared.store.Ready.TheVariants.{Idle, Waits, Now}

-- what a resume would answer: of a store whose disk has failed, that it has
abbrev pub resume_reply : {D : Type 0} → Store D → ℕ → Reply
resume_reply s c = if s.files.failed then Refused Disk else reply_to (superblock_of s.opened) (state_of s) c Resume

abbrev pub ready_by : Option Access → Reply → Ready
ready_by None reply = Idle
ready_by (Some a) (Still t) = Waits t
ready_by (Some a) (Blocked t) = Waits t
ready_by (Some a) reply = Now

-- nothing waits; a resume would wait on for that token; or it would end or park anew
abbrev pub ready : {D : Type 0} → Store D → ℕ → Ready
ready s c = ready_by (waiting s.tables c) (resume_reply s c)

-- where a token blocks it
abbrev pub blocked_by : Option Token → Ready
blocked_by None = Now
blocked_by (Some t) = Waits t

-- By what the access waits for: a token without a response; else, unless the response is an abort or the file is gone, the token whose right excludes it.
abbrev pub told_by : Bool → Option Token → Option Token → Option Response → Ready
told_by live other (Some t) None = Waits t
told_by live other token answer = if not (is_abort answer) && live then blocked_by other else Now

-- a store whose disk has failed tells that
abbrev pub told_ready : Bool → Bool → Option Token → Option Token → Option Response → Ready
told_ready failed live other token answer = if failed then Now else told_by live other token answer
