-- The plain map of files that were never moved: no tokens, no restores, only the calls that were done, and what sessions wrote.
use Rattle.std.specs.Prelude.{ℕ, List, [], ◌∷◌, Bool, true, false, if◌then◌else◌, Option, Some, None}
use Rattle.hsm_types.specs.declared.calls.Call.{Call}
use Rattle.hsm_types.specs.declared.calls.CallRefusal.TheVariants.{Waiting}
use Rattle.hsm_types.specs.declared.calls.Reply.{Reply}
use Rattle.hsm_types.specs.declared.calls.Reply.TheVariants.{Refused}
use Rattle.hsm_types.specs.declared.keys.FileKey.{FileKey}
use Rattle.hsm_types.specs.declared.dm.DmCall.{DmCall}
use Rattle.hsm_types.specs.declared.dm.DmCall.TheVariants.{WriteInvis}
use Rattle.hsm_types.specs.declared.dm.DmReply.TheVariants as told
use Rattle.plain_model.specs.declared.entries.Entry.{Entry}
use Rattle.plain_model.specs.declared.entries.Actor.{Actor}
use Rattle.plain_model.specs.declared.entries.Actor.TheVariants.{Caller, Session}
use Rattle.plain_model.specs.declared.entries.Action.{Action}
use Rattle.plain_model.specs.declared.entries.Action.TheVariants.{Issue, Resume, Dm}
use Rattle.plain_model.specs.declared.entries.Answer.{Answer}
use Rattle.plain_model.specs.declared.entries.Answer.TheVariants.{Call as Replied, Dm as Told}
use Rattle.hsm_types.specs.Keyed.{set_at}
use Rattle.plain_model.specs.Effects.{Writes}
use Rattle.plain_model.specs.Plain.{File, listing, key_meant, key_by, affected, act}
use Rattle.plain_model.specs.Ledger.{is_completion}

-- the files, and for each caller the file and the call of its last issue that wasn't told to wait
pub record Issued : Type 0 where
  pub key : FileKey
  pub call : Call

pub record Walk : Type 0 where
  pub files : List File
  pub issued : ℕ → Option Issued

abbrev pub done_on : List File → Option Issued → Reply → List File
done_on P None reply = P
done_on P (Some i) reply = (act P (key_by i.key reply) i.call).1

-- the call of the caller's last issue is done, where the reply says so
abbrev pub done : Walk → ℕ → Reply → Walk
done V c reply = if is_completion reply then record V { files = done_on V.files (V.issued c) reply } else V

abbrev pub is_waiting : Reply → Bool
is_waiting (Refused Waiting) = true
is_waiting reply = false

abbrev pub begun : Walk → ℕ → Call → Reply → Walk
begun V c call reply = if is_waiting reply then V else record V { issued = set_at c (Some (record { key = key_meant (listing V.files) call; call = call })) V.issued }

-- of sessions' calls only one writes
abbrev pub written_by : DmCall → List File → List File
written_by (WriteInvis token handle offset bytes) P = affected (Writes offset bytes) handle.key P
written_by call P = P

abbrev pub walk : Walk → Actor → Action → Answer → Walk
walk V (Caller c) (Issue call) (Replied reply) = done (begun V c call reply) c reply
walk V (Caller c) Resume (Replied reply) = done V c reply
walk V (Session sid) (Dm call) (Told told.Done) = record V { files = written_by call V.files }
walk V actor action answer = V

abbrev pub walked : Walk → List Entry → Walk
walked V [] = V
walked V (e ∷ es) = walked (walk V e.actor e.action e.answer) es

-- the plain map after these entries
abbrev pub plain_after : List File → List Entry → List File
plain_after P es = (walked (record { files = P; issued = λ c. None }) es).files
