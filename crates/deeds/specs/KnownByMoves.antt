-- What is known of a daemon by its moves alone: a fold, which is exact along each of its lives.
use Rattle.std.specs.Prelude.{◌≡◌, List, [], ◌∷◌, Option, None, Some}
use Rattle.std.specs.Option.{option_map, option_or, unwrap_or}
use Rattle.hsm_types.specs.declared.daemons.Act.{Act}
use Rattle.hsm_types.specs.declared.daemons.Act.TheVariants.{Idle}
use Rattle.hsm_types.specs.declared.daemons.Heard.{Heard}
use Rattle.hsm_types.specs.declared.daemons.Heard.TheVariants.{Nothing}
use Rattle.deeds.specs.Lives.{Move, Begins, Ends, Renews, Asks, Learns, Fails, Misses, Workings, Living, untold, Lives}

-- How knowledge goes on from a start: where a pass by `high` may begin again, where something is heard of an act, and where an act is given.
pub record Knowing (K : Type 0) : Type 0 where
  pub first : K
  pub again : K → K
  pub hears : K → Act → Heard → K
  pub asks : K → Act → K

-- what was known of a daemon where it gave its last act, that act, and what it hears next
pub record Standing (K : Type 0) : Type 0 where
  pub known : K
  pub asked : Act
  pub hears : Option Heard

-- ---- the fold

module _ {K : Type 0} (k : Knowing K) where
  abbrev pub begins_known : Standing K
  begins_known = record { known = k.first; asked = Idle; hears = Some Nothing }

  abbrev pub renews_known : Standing K → Standing K
  renews_known s = record { known = k.again s.known; asked = s.asked; hears = option_map untold s.hears }

  abbrev pub asks_known : Act → Standing K → Standing K
  asks_known act s = record { known = k.asks (k.hears s.known s.asked (unwrap_or s.hears Nothing)) act; asked = act; hears = None }

  abbrev pub hears_known : Heard → Standing K → Standing K
  hears_known told s = record s { hears = Some told }

  abbrev pub stands_by : Option (Standing K) → Move → Option (Standing K)
  stands_by s Begins = option_or s (Some begins_known)
  stands_by s Ends = None
  stands_by s Renews = option_map renews_known s
  stands_by s (Asks act) = option_map (asks_known act) s
  stands_by s (Learns act told) = option_map (hears_known told) s
  stands_by s (Fails sid call) = option_map (hears_known Nothing) s
  stands_by s Misses = option_map (hears_known Nothing) s

  abbrev pub stands : List Move → Option (Standing K) → Option (Standing K)
  stands [] s = s
  stands (move ∷ moves) s = stands moves (stands_by s move)

-- ---- what a machine knows

module _ {M K : Type 0} (w : Workings M) (view : M → K) where
  abbrev pub standing_of : Living M → Standing K
  standing_of r = record { known = view r.machine; asked = w.asked r.machine; hears = r.hears }

  -- what the machine knows goes on so
  pub record IsKnown (k : Knowing K) : Type 0 where
    pub first : view w.first ≡ k.first
    pub again : (m : M) → view (w.again m) ≡ k.again (view m)
    pub goes : (old : M) (told : Heard) (act : Act) (new : M) → w.StepsOn old told act new → view new ≡ k.asks (k.hears (view old) (w.asked old) told) act

  -- Behind these moves it stands just as the fold says.
  abbrev pub StandsExactly : Knowing K → List Move → Type 0
  StandsExactly k moves = (old new : Option (Living M)) → IsKnown k → Lives w moves old new → option_map standing_of new ≡ stands k moves (option_map standing_of old)
