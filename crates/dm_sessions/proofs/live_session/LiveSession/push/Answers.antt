use Rattle.std.proofs.Common.{◌≡◌, ◌∙◌, Bool, true, false, refl}
use mir.Val.{bool_byte}
use Rattle.hsm_types.specs.Messages.{has_token, no_token}
use Rattle.dm_sessions.proofs.OneSession.{session-pushed, one_if}
use Rattle.dm_sessions.proofs.live_session.LiveSession.push.Goals as goal

counts : (b : Bool) → bool_byte b ≡ one_if b
counts true = refl
counts false = refl

pub invariant_of-self-2 : goal.invariant_of-self-2
invariant_of-self-2 c = rw c.in_ok-push.ensures.after (session-pushed c.self.inside.queue c.self.inside.waiting c.from.result c.self.inside.outstanding.entries c.args.message c.self.invariant c.requires (c.from.ensures ∙ counts (has_token no_token c.args.message)))
