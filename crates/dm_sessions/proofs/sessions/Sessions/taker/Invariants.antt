use Rattle.std.proofs.Common.{◌≡◌}
use Rattle.std.specs.List.{find}
use Rattle.hsm_types.specs.Messages.{takes}
use Rattle.hsm_types.specs.Sessions.{LiveSession}
use Rattle.hsm_types.specs.declared.keys.Sid.{Sid}
use Rattle.dm_sessions.proofs.sessions.Sessions.taker.Given as goal

abbrev pub invariant-loop-sid : goal.invariant-loop-sid
invariant-loop-sid l = find (λ (s : Sid × LiveSession). takes s.1.kinds l.kind) l.self.live ≡ find (λ (s : Sid × LiveSession). takes s.1.kinds l.kind) l.sid-iterator
