-- What a call of the system alone comes to of a run.
use Rattle.std.proofs.Common.{◌≡◌, Result, Ok, Err, OnOk, IfErr, inl, inr, refl, ap, subst}
use Rattle.disk_model.specs.declared.device.Disk as disk
use Rattle.media_model.specs.declared.drive.Drive as drive
use Rattle.hsm_types.specs.declared.daemons.Act.{Act}
use Rattle.hsm_types.specs.declared.daemons.Daemon.{Daemon}
use Rattle.hsm_system.specs.Acts.{GivesNone, LacksMemory, MovesOn}
use Rattle.hsm_system.specs.Systems.{System}
use Rattle.hsm_system.specs.declared.stops.Stop.{Stop}
use Rattle.hsm_replay.specs.Acts.{Performs, Stops}
use Rattle.hsm_replay.specs.Steps.{Steps, Halts}
use Rattle.hsm_replay.specs.Systems.{Run, IsRun}
use Rattle.hsm_replay.proofs.Between.{never_waits}

module _ {D M : Type 0} (inside old : Run D M) (same : inside ≡ old) where
  -- its system was changed so
  pub of_system : (f : System D → System D) (new : System D) → new ≡ f inside.system → record inside { system = new } ≡ record old { system = f old.system }
  of_system f new is = subst (λ (s : Run D M). record inside { system = new } ≡ record s { system = f s.system }) same (ap (λ (x : System D). record inside { system = x }) is)

  module _ (g : disk.Ghosts D) (h : drive.Ghosts M) (daemon : Daemon) where
    -- no act was given
    pub none_steps : (new : System D) → IsRun inside → GivesNone daemon inside.system × (new ≡ inside.system) → Steps g h daemon old (record inside { system = new })
    none_steps new is (inl down, kept) = subst (λ (s : Run D M). Steps g h daemon s (record inside { system = new })) same (inl (down, ap (λ (x : System D). record inside { system = x }) kept))
    none_steps new is (inr waits, kept) = absurd (never_waits daemon inside is waits)

    pub lacks_halts : (why : Stop) (new : System D) → LacksMemory daemon inside.system why new → Halts g h daemon old why (record inside { system = new })
    lacks_halts why new lacks = subst (λ (s : Run D M). Halts g h daemon s why (record inside { system = new })) same (inl (lacks, refl))

    -- the act was performed, or stopped the run
    module _ (act : Act) (moved : System D) (moves : MovesOn daemon inside.system act moved) (new : Run D M) where
      pub performs_steps : (result : Result (Unit {0}) Stop) → OnOk result (Performs g h daemon (record inside { system = moved }) act new) → OnOk result (Steps g h daemon old new)
      performs_steps (Ok tt) performs = subst (λ (s : Run D M). Steps g h daemon s new) same (inr (record { act = act; moved = moved; moves = moves; performs = performs }))
      performs_steps (Err why) performs = tt

      pub stops_halts : (result : Result (Unit {0}) Stop) → IfErr result (λ why. Stops g h daemon (record inside { system = moved }) act why new) → IfErr result (λ why. Halts g h daemon old why new)
      stops_halts (Ok tt) stops = tt
      stops_halts (Err why) stops = subst (λ (s : Run D M). Halts g h daemon s why new) same (inr (record { act = act; moved = moved; moves = moves; stops = stops }))
