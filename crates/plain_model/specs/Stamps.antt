-- Meant stamps, from a history alone.
use Rattle.std.specs.Prelude.{ℕ, ◌+◌, List, [], ◌∷◌, Bool, false, ◌&&◌, if◌then◌else◌}
use Rattle.hsm_types.specs.declared.keys.FileKey.{FileKey}
use Rattle.hsm_types.specs.declared.calls.Reply.{Reply}
use Rattle.plain_model.specs.declared.entries.Entry.{Entry}
use Rattle.plain_model.specs.declared.entries.Actor.{Actor}
use Rattle.plain_model.specs.declared.entries.Actor.TheVariants.{Caller}
use Rattle.plain_model.specs.declared.entries.Action.{Action}
use Rattle.plain_model.specs.declared.entries.Action.TheVariants.{Issue, Resume}
use Rattle.plain_model.specs.declared.entries.Answer.{Answer}
use Rattle.plain_model.specs.declared.entries.Answer.TheVariants.{Call as Replied}
use Rattle.hsm_types.specs.Keyed.{same_key}
use Rattle.plain_model.specs.Ledger.{Meant, Fixed, Means, is_completion}
use Rattle.plain_model.specs.Accesses.{is_access}
use Rattle.plain_model.specs.Step.{World, meant_for, after}

-- it is a reply that the call was done, and the call is a read, a write or a truncate of the file with that key
abbrev pub reaches_key : Meant → Reply → FileKey → Bool
reaches_key (Fixed fixed) reply k = false
reaches_key (Means j call) reply k = is_completion reply && is_access call && same_key k j

-- in W, such an access of the file with that key was done
abbrev pub accesses : World → FileKey → Actor → Action → Answer → Bool
accesses W k (Caller c) (Issue call) (Replied reply) = reaches_key (meant_for W c (Issue call)) reply k
accesses W k (Caller c) Resume (Replied reply) = reaches_key (meant_for W c Resume) reply k
accesses W k actor action answer = false

-- the numbers of the entries that did so. Entries are counted on from that number
abbrev pub access_numbers : World → ℕ → FileKey → List Entry → List ℕ
access_numbers W number k [] = []
access_numbers W number k (e ∷ es) =
    if accesses W k e.actor e.action e.answer
    then (number + 1) ∷ access_numbers (after W e) (number + 1) k es
    else access_numbers (after W e) (number + 1) k es

abbrev pub last_or : ℕ → List ℕ → ℕ
last_or none [] = none
last_or none (n ∷ ns) = last_or n ns

-- the stamp of the file with that key: the last of these numbers, 0 where there is none
abbrev pub stamp : World → ℕ → FileKey → List Entry → ℕ
stamp W base k es = last_or 0 (access_numbers W base k es)
