-- What an answer says.
use Rattle.std.specs.Prelude.{ℕ, List, Bool, true, false, Option, Some, None, Result}
use Rattle.hsm_types.specs.declared.daemons.Heard.{Heard}
use Rattle.hsm_types.specs.declared.daemons.Heard.TheVariants as heard
use Rattle.hsm_types.specs.declared.dm.DmReply.{DmReply}
use Rattle.hsm_types.specs.declared.dm.DmReply.TheVariants as reply
use Rattle.hsm_types.specs.declared.dm.DmRefusal.{DmRefusal}
use Rattle.hsm_types.specs.declared.dm.DmRefusal.TheVariants as why
use Rattle.hsm_types.specs.declared.media.CopyRefusal.{CopyRefusal}
use Rattle.hsm_types.specs.declared.regions.Region.{Region}
use Rattle.hsm_types.specs.declared.stubs.StubEntry.{StubEntry}
use Rattle.hsm_types.specs.declared.tables.Table.{Table}
use Rattle.migrate_daemon.specs.declared.shares.Space.{Space}

-- the session is gone
abbrev pub is_gone : Heard → Bool
is_gone (heard.Dm (reply.Refused why.NoSession)) = true
is_gone told = false

-- there are no more events
abbrev pub has_no_more : Heard → Bool
has_no_more (heard.Dm (reply.Refused why.Again)) = true
has_no_more told = false

-- the event needs no further answer
abbrev pub is_settled : Heard → Bool
is_settled (heard.Dm reply.Done) = true
is_settled (heard.Dm (reply.Refused why.NoToken)) = true
is_settled (heard.Dm (reply.Refused (why.NotYours owner))) = true
is_settled told = false

abbrev pub space_in : Heard → Option Space
space_in (heard.Dm (reply.Space used total)) = Some (record { used = used; total = total })
space_in told = None

abbrev pub messages_in : Heard → Option (List ℕ)
messages_in (heard.Dm (reply.Packed bytes tokens)) = Some bytes
messages_in told = None

abbrev pub table_in : Heard → Option Table
table_in (heard.Dm (reply.Table table)) = Some table
table_in told = None

abbrev pub is_done : DmReply → Bool
is_done reply.Done = true
is_done answer = false

abbrev pub refusal_in : DmReply → Option DmRefusal
refusal_in (reply.Refused why) = Some why
refusal_in answer = None

abbrev pub regions_in : DmReply → Option (List Region)
regions_in (reply.Regions regions) = Some regions
regions_in answer = None

abbrev pub data_in : DmReply → Option (List ℕ)
data_in (reply.Data bytes) = Some bytes
data_in answer = None

abbrev pub reply_in : Heard → Option DmReply
reply_in (heard.Dm answer) = Some answer
reply_in told = None

abbrev pub copied_in : Heard → Option (Result StubEntry CopyRefusal)
copied_in (heard.Copied copied) = Some copied
copied_in told = None
