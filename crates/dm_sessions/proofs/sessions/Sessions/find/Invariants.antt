use Rattle.std.proofs.Common.{◌≡◌}
use Rattle.std.specs.List.{find}
use Rattle.hsm_types.specs.Sessions.{LiveSession, holds}
use Rattle.hsm_types.specs.declared.keys.Sid.{Sid}
use Rattle.dm_sessions.proofs.sessions.Sessions.find.Given as goal

abbrev pub invariant-loop-session : goal.invariant-loop-session
invariant-loop-session l = find (λ (s : Sid × LiveSession). holds l.token s.1) l.self.live ≡ find (λ (s : Sid × LiveSession). holds l.token s.1) l.session-iterator
