-- What comes of an act is handed in to the daemon that waits for it.
use Rattle.std.proofs.Common.{◌≡◌, ◌∙◌, ◌<◌, ℕ, List, length, get_or, Result, Ok, Err, IfOk, IfErr, OnOk, MatchResult, refl, sym, ap, subst}
use Rattle.std.specs.Prelude.{slice_set}
use Rattle.disk_model.specs.declared.device.Disk as disk
use Rattle.media_model.specs.declared.drive.Drive as drive
use Rattle.hsm_types.specs.Stubs.{entry_place}
use Rattle.hsm_types.specs.declared.daemons.Act.{Act}
use Rattle.hsm_types.specs.declared.daemons.Act.TheVariants.{Dm, Copy, Fetch, Idle}
use Rattle.hsm_types.specs.declared.daemons.Daemon.{Daemon}
use Rattle.hsm_types.specs.declared.daemons.Daemon.TheVariants.{Recall, Migrate}
use Rattle.hsm_types.specs.declared.daemons.Heard.TheVariants.{Nothing}
use Rattle.hsm_types.specs.declared.dm.DmCall.{DmCall}
use Rattle.hsm_types.specs.declared.keys.Handle.{Handle}
use Rattle.hsm_types.specs.declared.keys.Sid.{Sid}
use Rattle.hsm_types.specs.declared.media.CopyRefusal.TheVariants as copying
use Rattle.hsm_types.specs.declared.media.FetchRefusal.TheVariants as fetching
use Rattle.hsm_types.specs.declared.stubs.StubEntry.{StubEntry}
use Rattle.hsm_system.specs.Acts.{Answers, MovesOn, StopsFor}
use Rattle.hsm_system.specs.Awaiting.{IsSo, awaited_by, awaited_of, heard_of}
use Rattle.hsm_system.specs.Systems.{System, Awaits, IsAwaited, Waits, hearing}
use Rattle.hsm_system.specs.declared.awaited.Outcome.{Outcome}
use Rattle.hsm_system.specs.declared.awaited.Outcome.TheVariants as outcome
use Rattle.hsm_system.specs.declared.daemons.Next.TheVariants.{Waits as WaitsOn}
use Rattle.hsm_system.specs.declared.stops.Stop.{Stop}
use Rattle.hsm_system.specs.declared.stops.Stop.TheVariants as stop
use Rattle.hsm_replay.specs.Acts.{CopiesTo, FetchesFrom, ComesOfCopy, ComesOfFetch, Performs, Stops}
use Rattle.hsm_replay.specs.Systems.{Run, drive_of}
use Rattle.hsm_replay.proofs.OnDrives.{on_drive}

-- ---- a daemon that waits

module _ {D : Type 0} where
  pub awaits_waits : (daemon : Daemon) (act : Act) (s : System D) → Awaits daemon act s → Waits daemon s
  awaits_waits Recall act s awaits = (awaits.0, awaits.1, awaits.2)
  awaits_waits Migrate act s awaits = (awaits.0, awaits.1, awaits.2)

  -- one that has just given an act
  pub moved_awaits : (daemon : Daemon) (old : System D) (act : Act) (new : System D) → MovesOn daemon old act new → Awaits daemon act new
  moved_awaits Recall old act new moves = (record { machine = moves.1; next = WaitsOn (awaited_of act) }, ap (λ (s : System D). s.recall) moves.6, refl, moves.5.asked)
  moved_awaits Migrate old act new moves = (record { machine = moves.1; next = WaitsOn (awaited_of act) }, ap (λ (s : System D). s.migrate) moves.6, refl, moves.5.asked)

  pub moved_awaited : (daemon : Daemon) (old : System D) (act : Act) (new : System D) → MovesOn daemon old act new → (came : Outcome) → awaited_by came ≡ awaited_of act → IsAwaited daemon came new
  moved_awaited Recall old act new moves came is = (record { machine = moves.1; next = WaitsOn (awaited_of act) }, ap (λ (s : System D). s.recall) moves.6, ap WaitsOn (sym is))
  moved_awaited Migrate old act new moves came is = (record { machine = moves.1; next = WaitsOn (awaited_of act) }, ap (λ (s : System D). s.migrate) moves.6, ap WaitsOn (sym is))

  -- it awaits what came of its act
  abbrev pub IsReady : Daemon → Act → System D → Type 0
  IsReady daemon act s = (came : Outcome) → awaited_by came ≡ awaited_of act → IsAwaited daemon came s

  -- what was handed in
  abbrev pub IsHanded : Daemon → System D → Result Outcome Stop → Result (Unit {0}) Stop → System D → Type 0
  IsHanded daemon old made result new = MatchResult made (λ came. (result ≡ Ok tt) × (new ≡ hearing daemon (heard_of came) old)) (λ why. (result ≡ Err why) × (new ≡ hearing daemon Nothing old))

-- ---- a copy

module _ {D M : Type 0} (g : disk.Ghosts D) (h : drive.Ghosts M) (daemon : Daemon) (volume : ℕ) (handle : Handle) (segment : ℕ) (bytes : List ℕ) (x y : M) where
  abbrev IsCopied : Result Outcome Stop → Type 0
  IsCopied made = IfOk made (λ came. ComesOfCopy h volume handle segment bytes came x y)

  abbrev HasLacked : Result Outcome Stop → Type 0
  HasLacked made = IfErr made (λ why. (why ≡ stop.Memory) × CopiesTo h volume handle segment bytes (Err copying.Memory) x y)

  pub copy_is_so : (made : Result Outcome Stop) → IsCopied made → IfOk made IsSo
  copy_is_so (Ok came) copied = copied.so
  copy_is_so (Err why) copied = tt

  pub copy_awaited : (s : System D) (act : Act) → act ≡ Copy volume handle segment bytes → IsReady daemon act s → (made : Result Outcome Stop) → IsCopied made → IfOk made (λ came. IsAwaited daemon came s)
  copy_awaited s act is ready (Ok came) copied = ready came (ap awaited_by copied.is ∙ ap awaited_of (sym is))
  copy_awaited s act is ready (Err why) copied = tt

  module _ (old new : System D) (drives : List M) (number : ℕ) (at : number ≡ drive_of volume drives) (there : number < length drives) (value : x ≡ get_or drives number x) where
    abbrev Copied : Result (Unit {0}) Stop → Type 0
    Copied result = OnOk result (Performs g h daemon (record { system = old; drives = drives }) (Copy volume handle segment bytes) (record { system = new; drives = slice_set drives number y }))

    abbrev Lacked : Result (Unit {0}) Stop → Type 0
    Lacked result = IfErr result (λ why. Stops g h daemon (record { system = old; drives = drives }) (Copy volume handle segment bytes) why (record { system = new; drives = slice_set drives number y }))

    pub copy_performs : (made : Result Outcome Stop) (result : Result (Unit {0}) Stop) → IsCopied made → IsHanded daemon old made result new → Copied result
    copy_performs (Ok came) result copied handed = subst Copied (sym handed.0)
        (copied.answer, copied.some, handed.1 ∙ ap (λ (o : Outcome). hearing daemon (heard_of o) old) copied.is, on_drive volume number (CopiesTo h volume handle segment bytes copied.answer) drives x y at there value copied.copies)
    copy_performs (Err why) result copied handed = subst Copied (sym handed.0) tt

    pub copy_stops : (made : Result Outcome Stop) (result : Result (Unit {0}) Stop) → HasLacked made → IsHanded daemon old made result new → Lacked result
    copy_stops (Ok came) result lacked handed = subst Lacked (sym handed.0) tt
    copy_stops (Err why) result lacked handed = subst Lacked (sym handed.0)
        (lacked.0, handed.1, on_drive volume number (CopiesTo h volume handle segment bytes (Err copying.Memory)) drives x y at there value lacked.1)

-- ---- a fetch

module _ {D M : Type 0} (g : disk.Ghosts D) (h : drive.Ghosts M) (daemon : Daemon) (entry : StubEntry) (x y : M) where
  abbrev IsFetched : Result Outcome Stop → Type 0
  IsFetched made = IfOk made (λ came. ComesOfFetch h entry came x y)

  abbrev FetchLacked : Result Outcome Stop → Type 0
  FetchLacked made = IfErr made (λ why. (why ≡ stop.Memory) × FetchesFrom h entry (Err fetching.Memory) x y)

  pub fetch_is_so : (made : Result Outcome Stop) → IsFetched made → IfOk made IsSo
  fetch_is_so (Ok came) fetched = fetched.so
  fetch_is_so (Err why) fetched = tt

  pub fetch_awaited : (s : System D) (act : Act) → act ≡ Fetch entry → IsReady daemon act s → (made : Result Outcome Stop) → IsFetched made → IfOk made (λ came. IsAwaited daemon came s)
  fetch_awaited s act is ready (Ok came) fetched = ready came (ap awaited_by fetched.is ∙ ap awaited_of (sym is))
  fetch_awaited s act is ready (Err why) fetched = tt

  module _ (old new : System D) (drives : List M) (number : ℕ) (at : number ≡ drive_of (entry_place entry).volume drives) (there : number < length drives) (value : x ≡ get_or drives number x) where
    abbrev Fetched : Result (Unit {0}) Stop → Type 0
    Fetched result = OnOk result (Performs g h daemon (record { system = old; drives = drives }) (Fetch entry) (record { system = new; drives = slice_set drives number y }))

    abbrev Unfetched : Result (Unit {0}) Stop → Type 0
    Unfetched result = IfErr result (λ why. Stops g h daemon (record { system = old; drives = drives }) (Fetch entry) why (record { system = new; drives = slice_set drives number y }))

    pub fetch_performs : (made : Result Outcome Stop) (result : Result (Unit {0}) Stop) → IsFetched made → IsHanded daemon old made result new → Fetched result
    fetch_performs (Ok came) result fetched handed = subst Fetched (sym handed.0)
        (fetched.answer, fetched.some, handed.1 ∙ ap (λ (o : Outcome). hearing daemon (heard_of o) old) fetched.is, on_drive (entry_place entry).volume number (FetchesFrom h entry fetched.answer) drives x y at there value fetched.fetches)
    fetch_performs (Err why) result fetched handed = subst Fetched (sym handed.0) tt

    pub fetch_stops : (made : Result Outcome Stop) (result : Result (Unit {0}) Stop) → FetchLacked made → IsHanded daemon old made result new → Unfetched result
    fetch_stops (Ok came) result lacked handed = subst Unfetched (sym handed.0) tt
    fetch_stops (Err why) result lacked handed = subst Unfetched (sym handed.0)
        (lacked.0, handed.1, on_drive (entry_place entry).volume number (FetchesFrom h entry (Err fetching.Memory)) drives x y at there value lacked.1)

-- ---- a call, or a rest

module _ {D M : Type 0} (g : disk.Ghosts D) (h : drive.Ghosts M) (daemon : Daemon) (old new : System D) (drives : List M) where
  pub call_performs : (sid : Sid) (call : DmCall) (result : Result (Unit {0}) Stop) → OnOk result (Answers g daemon sid call old new)
      → OnOk result (Performs g h daemon (record { system = old; drives = drives }) (Dm sid call) (record { system = new; drives = drives }))
  call_performs sid call (Ok tt) answers = (answers, refl)
  call_performs sid call (Err why) answers = tt

  pub call_stops : (sid : Sid) (call : DmCall) (result : Result (Unit {0}) Stop) → IfErr result (λ why. StopsFor g daemon sid call why old new)
      → IfErr result (λ why. Stops g h daemon (record { system = old; drives = drives }) (Dm sid call) why (record { system = new; drives = drives }))
  call_stops sid call (Ok tt) stops = tt
  call_stops sid call (Err why) stops = (stops, refl)

  abbrev Rested : Result (Unit {0}) Stop → Type 0
  Rested result = OnOk result (Performs g h daemon (record { system = old; drives = drives }) Idle (record { system = new; drives = drives }))

  abbrev Unrested : Result (Unit {0}) Stop → Type 0
  Unrested result = IfErr result (λ why. Stops g h daemon (record { system = old; drives = drives }) Idle why (record { system = new; drives = drives }))

  abbrev run_of : System D → Run D M
  run_of s = record { system = s; drives = drives }

  pub rest_performs : (result : Result (Unit {0}) Stop) → IsHanded daemon old (Ok outcome.Rested) result new → Rested result
  rest_performs result handed = subst Rested (sym handed.0) (ap run_of handed.1)

  pub rest_stops : (result : Result (Unit {0}) Stop) → IsHanded daemon old (Ok outcome.Rested) result new → Unrested result
  rest_stops result handed = subst Unrested (sym handed.0) tt
