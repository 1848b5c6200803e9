-- Entries that are the same but for bytes that come from a disk or are compared with such.
use Rattle.std.specs.Prelude.{◌≡◌, ℕ, List, [], ◌∷◌, length, replicate}
use Rattle.hsm_types.specs.Stubs.{entry_at, entry_place, entry_print}
use Rattle.hsm_types.specs.declared.calls.Reply.{Reply}
use Rattle.hsm_types.specs.declared.calls.Reply.TheVariants.{Data}
use Rattle.hsm_types.specs.declared.dm.DmCall.{DmCall}
use Rattle.hsm_types.specs.declared.dm.DmCall.TheVariants.{ReadInvis, Seal, Restore}
use Rattle.hsm_types.specs.declared.dm.DmReply.{DmReply}
use Rattle.hsm_types.specs.declared.dm.DmReply.TheVariants as told
use Rattle.hsm_types.specs.declared.stubs.StubEntry.{StubEntry}
use Rattle.plain_model.specs.declared.entries.Entry.{Entry}
use Rattle.plain_model.specs.declared.entries.Action.{Action}
use Rattle.plain_model.specs.declared.entries.Action.TheVariants.{Dm}
use Rattle.plain_model.specs.declared.entries.Answer.{Answer}
use Rattle.plain_model.specs.declared.entries.Answer.TheVariants.{Call as Replied, Dm as Told}

-- as many zeros
abbrev pub zeros : List ℕ → List ℕ
zeros bytes = replicate (length bytes) 0

-- the place and the length, and no digest
abbrev pub undigested : StubEntry → StubEntry
undigested entry = entry_at (entry_place entry) (record { len = (entry_print entry).len; digest = record { 0 = [] } })

-- what a caller read
abbrev pub blank_reply : Reply → Reply
blank_reply (Data bytes) = Data (zeros bytes)
blank_reply reply = reply

-- what a session read of a file; the value of an attribute stays
abbrev pub blank_told : DmCall → DmReply → DmReply
blank_told (ReadInvis token handle offset len) (told.Data bytes) = told.Data (zeros bytes)
blank_told call reply = reply

-- of a call that was done: the digest by which a segment was sealed, and the bytes that came back
abbrev pub blank_done : DmCall → DmCall
blank_done (Seal token handle j entry) = Seal token handle j (undigested entry)
blank_done (Restore token handle j bytes) = Restore token handle j (zeros bytes)
blank_done call = call

abbrev pub blank_action : Action → Answer → Action
blank_action (Dm call) (Told told.Done) = Dm (blank_done call)
blank_action action answer = action

abbrev pub blank_answer : Action → Answer → Answer
blank_answer action (Replied reply) = Replied (blank_reply reply)
blank_answer (Dm call) (Told reply) = Told (blank_told call reply)
blank_answer action answer = answer

-- the entry with zeros for these bytes, and with no such digest
abbrev pub blank_entry : Entry → Entry
blank_entry e = record { actor = e.actor; action = blank_action e.action e.answer; answer = blank_answer e.action e.answer }

-- All but these is the same, and where the disk tells what it holds these are too.
pub record IsAlike (Tells : Type 0) (e f : Entry) : Type 0 where
  pub alike : blank_entry f ≡ blank_entry e
  pub told : Tells → f ≡ e

-- entry by entry
abbrev pub AreAlike : Type 0 → List Entry → List Entry → Type 0
AreAlike Tells [] [] = Unit {0}
AreAlike Tells (e ∷ es) (f ∷ fs) = IsAlike Tells e f × AreAlike Tells es fs
AreAlike Tells [] (f ∷ fs) = ⊥
AreAlike Tells (e ∷ es) [] = ⊥
