-- What a line does.
use Rattle.std.specs.Prelude.{◌≡◌, [], ◌∷◌, ◌++◌, Result, OnOk, IfErr}
use Rattle.disk_model.specs.declared.device.Disk as disk
use Rattle.media_model.specs.declared.drive.Drive as drive
use Rattle.plain_model.specs.declared.entries.Answer.{Answer}
use Rattle.script_text.specs.declared.lines.Line.{Line}
use Rattle.script_text.specs.declared.lines.Line.TheVariants.{Event, Start, Kill, Step, Settle}
use Rattle.hsm_core.specs.Answers.{IsAnswer, entry_of}
use Rattle.hsm_system.specs.declared.stops.Stop.{Stop}
use Rattle.hsm_replay.specs.Settled.{IsSettled}
use Rattle.hsm_replay.specs.Steps.{Steps, Halts}
use Rattle.hsm_replay.specs.Systems.{Run, started, killed}

-- An event line is an event of the store, and where it was done the entry is there; a line of a daemon starts it, ends it, or is one step of it; and where
-- a store was settled all is quiet.
abbrev pub Does : {D M T : Type 0} → disk.Ghosts D → drive.Ghosts M → Line → Result T Stop → Run D M → Run D M → Type 0
Does g h (Event actor action seed) result old new = (given : Answer) × IsAnswer g old.system.store actor action given new.system.store × (new ≡ record old { system = record old.system { store = new.system.store } }) × OnOk result (new.system.store.history ≡ old.system.store.history ++ entry_of actor action given ∷ [])
Does g h (Start daemon) result old new = new ≡ started daemon old
Does g h (Kill daemon) result old new = new ≡ killed daemon old
Does g h (Step daemon) result old new = OnOk result (Steps g h daemon old new) × IfErr result (λ why. Halts g h daemon old why new)
Does g h Settle result old new = OnOk result (IsSettled old new)
