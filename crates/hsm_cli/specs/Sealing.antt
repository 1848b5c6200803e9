-- What the marks of a run tell of what the migration daemon has sealed in it, on new drives that never fail.
use Rattle.std.specs.Prelude.{◌≡◌, ℕ, List, ◌∷◌, ◌++◌, Some}
use Rattle.hsm_types.specs.declared.daemons.Daemon.TheVariants.{Recall}
use Rattle.hsm_types.specs.declared.dm.DmCall.TheVariants.{Respond}
use Rattle.hsm_types.specs.declared.dm.DmReply.{DmReply}
use Rattle.hsm_types.specs.declared.dm.Response.TheVariants.{Abort, Media}
use Rattle.hsm_types.specs.declared.keys.Sid.{Sid}
use Rattle.hsm_types.specs.declared.keys.Token.{Token}
use Rattle.hsm_types.specs.declared.media.Fault.TheVariants.{Damaged}
use Rattle.hsm_types.specs.declared.stubs.Fingerprint.{Fingerprint}
use Rattle.hsm_types.specs.declared.stubs.StubEntry.{StubEntry}
use Rattle.hsm_policy.specs.Settings.{standard}
use Rattle.recall_daemon.specs.Known.{Known, Hand, IsNeeded}
use Rattle.recall_daemon.specs.declared.away.Away.{Away}
use Rattle.marked_history.specs.Marks.{Mark, made}
use Rattle.hsm_replay.specs.Sealed.{sealed_in, IsUnnamed, IsUnsealed, AreOfOthers}
use Rattle.marked_history.specs.Served.{shown, nothing_shown}

-- No Seal of those first entries names the object. They have all that recall was told, as it has made none since.
pub record IsUnknown (marks : List Mark) (entry : StubEntry) : Type 0 where
  pub first : List Mark
  pub since : List Mark
  pub parted : marks ≡ first ++ since
  pub others : AreOfOthers since
  pub unnamed : IsUnnamed (sealed_in first) entry

-- the access in hand needs a segment whose object is unknown
abbrev pub NeedsUnknown : Known → List Mark → Type 0
NeedsUnknown k marks = (hand : Hand) × (a : Away) × (k.hand ≡ Some hand) × IsNeeded k.seat.kept hand a × IsUnknown marks a.entry

-- What was sealed is there, and whole: each answer of recall that there is no such object is for an unknown one, and none is for damage of an object that
-- a Seal before had with the fingerprint that is wanted.
pub record LosesNothing (marks : List Mark) : Type 0 where
  pub aborts : (before : List Mark) (sid : Sid) (t : Token) (reply : DmReply) (rest : List Mark) → marks ≡ before ++ made Recall sid (Respond t (Abort 2)) reply ∷ rest → NeedsUnknown (shown standard nothing_shown before).recall before
  pub damages : (before : List Mark) (sid : Sid) (t : Token) (volume object : ℕ) (want got : Fingerprint) (reply : DmReply) (rest : List Mark) → marks ≡ before ++ made Recall sid (Respond t (Media (Damaged volume object want got))) reply ∷ rest → IsUnsealed (sealed_in before) volume object want
