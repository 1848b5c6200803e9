-- The lives of a daemon by its deeds: chains of its machine's own steps. One text for both machines.
use Rattle.std.specs.Prelude.{◌≡◌, List, [], ◌∷◌, ◌++◌, Option, None, Some}
use Rattle.std.specs.List.{filter_map}
use Rattle.std.specs.Option.{option_map, option_or}
use Rattle.hsm_types.specs.declared.daemons.Act.{Act}
use Rattle.hsm_types.specs.declared.daemons.Act.TheVariants.{Dm, Idle}
use Rattle.hsm_types.specs.declared.daemons.Daemon.{Daemon}
use Rattle.hsm_types.specs.declared.daemons.Daemon.TheVariants.{Recall, Migrate}
use Rattle.hsm_types.specs.declared.daemons.Heard.{Heard}
use Rattle.hsm_types.specs.declared.daemons.Heard.TheVariants as heard
use Rattle.hsm_types.specs.declared.daemons.Heard.TheVariants.{Nothing}
use Rattle.hsm_types.specs.declared.dm.DmCall.{DmCall}
use Rattle.hsm_types.specs.declared.dm.DmReply.TheVariants.{Space}
use Rattle.hsm_types.specs.declared.keys.Sid.{Sid}
use Rattle.deeds.specs.Deeds.{Deed, Starts, Kills, Refreshes, Gives, Hears, Breaks, Loses, Fits}

-- ---- what deeds are for one daemon

pub data Move : Type 0 where
  Begins : Move
  Ends : Move
  Renews : Move
  Asks : Act → Move
  Learns : Act → Heard → Move
  Fails : Sid → DmCall → Move
  Misses : Move

abbrev pub move_of : Daemon → Deed → Option Move
move_of Recall (Starts Recall) = Some Begins
move_of Recall (Kills Recall) = Some Ends
move_of Recall (Gives Recall asked) = Some (Asks asked)
move_of Recall (Hears Recall asked told) = Some (Learns asked told)
move_of Recall (Breaks Recall sid call) = Some (Fails sid call)
move_of Recall (Loses Recall) = Some Misses
move_of Migrate (Starts Migrate) = Some Begins
move_of Migrate (Kills Migrate) = Some Ends
move_of Migrate Refreshes = Some Renews
move_of Migrate (Gives Migrate asked) = Some (Asks asked)
move_of Migrate (Hears Migrate asked told) = Some (Learns asked told)
move_of Migrate (Breaks Migrate sid call) = Some (Fails sid call)
move_of Migrate (Loses Migrate) = Some Misses
move_of daemon deed = None

abbrev pub life : Daemon → List Deed → List Move
life daemon deeds = filter_map (move_of daemon) deeds

-- the deed of the daemon that is this move for it
abbrev pub deed_by : Daemon → Move → Deed
deed_by daemon Begins = Starts daemon
deed_by daemon Ends = Kills daemon
deed_by daemon Renews = Refreshes
deed_by daemon (Asks asked) = Gives daemon asked
deed_by daemon (Learns asked told) = Hears daemon asked told
deed_by daemon (Fails sid call) = Breaks daemon sid call
deed_by daemon Misses = Loses daemon

-- The move is that of a deed, and the moves before and behind it are those of the deeds before and behind that.
pub record IsMoveOf (daemon : Daemon) (deeds : List Deed) (before : List Move) (move : Move) (behind : List Move) : Type 0 where
  pub first : List Deed
  pub rest : List Deed
  pub parted : deeds ≡ first ++ deed_by daemon move ∷ rest
  pub before_it : life daemon first ≡ before
  pub behind_it : life daemon rest ≡ behind

-- each move of a life is that of one deed
abbrev pub MovesAreDeeds : Daemon → List Deed → Type 0
MovesAreDeeds daemon deeds = (before : List Move) (move : Move) (behind : List Move) → life daemon deeds ≡ before ++ move ∷ behind → IsMoveOf daemon deeds before move behind

-- ---- a machine

-- How a machine works: how it is at its start, and how where it may begin a pass by `high` again; the act that it gave last; and which steps it takes, each
-- from what it hears to an act. At its start it has given a rest, behind a step it has given the act of that step, and beginning a pass again is no act.
pub record Workings (M : Type 0) : Type 1 where
  pub first : M
  pub again : M → M
  pub asked : M → Act
  pub StepsOn : M → Heard → Act → M → Type 0
  pub rests : asked first ≡ Idle
  pub still : (m : M) → asked (again m) ≡ asked m
  pub gives : (old : M) (told : Heard) (act : Act) (new : M) → StepsOn old told act new → asked new ≡ act

-- A machine that runs, and what it hears next. There is none while it awaits what comes of the act that it gave last.
pub record Living (M : Type 0) : Type 0 where
  pub machine : M
  pub hears : Option Heard

abbrev pub hearing : {M : Type 0} → M → Option Heard → Living M
hearing machine hears = record { machine = machine; hears = hears }

-- what it would hear of the space it doesn't hear
abbrev pub untold : Heard → Heard
untold (heard.Dm (Space used total)) = Nothing
untold told = told

-- ---- lives

module _ {M : Type 0} (w : Workings M) where
  abbrev pub begun : Living M
  begun = hearing w.first (Some Nothing)

  -- a pass by `high` may begin again, by what it hears of the space from here on
  abbrev pub renewed : Living M → Living M
  renewed r = hearing (w.again r.machine) (option_map untold r.hears)

  -- It gives an act only where it hears something, and awaits the answer then. An answer comes only where it is awaited, of the act that was given, and
  -- fits it. Where a call of it is broken, or something is lost, it hears nothing, and may go on.
  abbrev pub MovesTo : Move → Option (Living M) → Option (Living M) → Type 0
  MovesTo Begins old new = new ≡ option_or old (Some begun)
  MovesTo Ends old new = new ≡ None
  MovesTo Renews old new = new ≡ option_map renewed old
  MovesTo (Asks asked) old new = (m : M) × (told : Heard) × (n : M) × (old ≡ Some (hearing m (Some told))) × w.StepsOn m told asked n × (new ≡ Some (hearing n None))
  MovesTo (Learns asked told) old new = (m : M) × (old ≡ Some (hearing m None)) × (w.asked m ≡ asked) × Fits asked told × (new ≡ Some (hearing m (Some told)))
  MovesTo (Fails sid call) old new = (m : M) × (old ≡ Some (hearing m None)) × (w.asked m ≡ Dm sid call) × (new ≡ Some (hearing m (Some Nothing)))
  MovesTo Misses old new = (r : Living M) × (old ≡ Some r) × (new ≡ Some (hearing r.machine (Some Nothing)))

  -- each of them in order
  abbrev pub Lives : List Move → Option (Living M) → Option (Living M) → Type 0
  Lives [] old new = new ≡ old
  Lives (move ∷ moves) old new = (mid : Option (Living M)) × MovesTo move old mid × Lives moves mid new
