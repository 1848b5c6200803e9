-- What stays so along a life: one proof for each kind of move.
use Rattle.std.proofs.Common.{◌≡◌, ◌∷◌, ◌++◌, [], List, Option, Some, None, IfSome, sym, subst, append_assoc, append-nil}
use Rattle.hsm_types.specs.declared.daemons.Act.{Act}
use Rattle.hsm_types.specs.declared.daemons.Act.TheVariants.{Dm}
use Rattle.hsm_types.specs.declared.daemons.Heard.{Heard}
use Rattle.hsm_types.specs.declared.daemons.Heard.TheVariants.{Nothing}
use Rattle.hsm_types.specs.declared.dm.DmCall.{DmCall}
use Rattle.hsm_types.specs.declared.keys.Sid.{Sid}
use Rattle.deeds.specs.Deeds.{Fits}
use Rattle.deeds.specs.Lives.{Move, Begins, Ends, Renews, Asks, Learns, Fails, Misses, Workings, Living, hearing, begun, renewed, MovesTo, Lives}

-- P is of the moves so far, and of what runs behind them.
module _ {M : Type 0} (w : Workings M) (P : List Move → Living M → Type 0)
    (at_start : (before : List Move) → P (before ++ Begins ∷ []) (begun w))
    (at_begin : (before : List Move) (r : Living M) → P before r → P (before ++ Begins ∷ []) r)
    (at_renew : (before : List Move) (r : Living M) → P before r → P (before ++ Renews ∷ []) (renewed w r))
    (at_ask : (before : List Move) (m : M) (told : Heard) (act : Act) (n : M) → P before (hearing m (Some told)) → w.StepsOn m told act n → P (before ++ Asks act ∷ []) (hearing n None))
    (at_learn : (before : List Move) (m : M) (act : Act) (told : Heard) → P before (hearing m None) → w.asked m ≡ act → Fits act told → P (before ++ Learns act told ∷ []) (hearing m (Some told)))
    (at_fail : (before : List Move) (m : M) (sid : Sid) (call : DmCall) → P before (hearing m None) → w.asked m ≡ Dm sid call → P (before ++ Fails sid call ∷ []) (hearing m (Some Nothing)))
    (at_miss : (before : List Move) (r : Living M) → P before r → P (before ++ Misses ∷ []) (hearing r.machine (Some Nothing))) where
  abbrev pub At : List Move → Option (Living M) → Type 0
  At before r = IfSome r (λ (x : Living M). P before x)

  move_on : (move : Move) (before : List Move) (old new : Option (Living M)) → MovesTo w move old new → At before old → At (before ++ move ∷ []) new
  move_on Begins before None new is so = subst (λ (x : Option (Living M)). At (before ++ Begins ∷ []) x) (sym is) (at_start before)
  move_on Begins before (Some r) new is so = subst (λ (x : Option (Living M)). At (before ++ Begins ∷ []) x) (sym is) (at_begin before r so)
  move_on Ends before old new is so = subst (λ (x : Option (Living M)). At (before ++ Ends ∷ []) x) (sym is) tt
  move_on Renews before None new is so = subst (λ (x : Option (Living M)). At (before ++ Renews ∷ []) x) (sym is) tt
  move_on Renews before (Some r) new is so = subst (λ (x : Option (Living M)). At (before ++ Renews ∷ []) x) (sym is) (at_renew before r so)
  move_on (Asks act) before old new is so =
      subst (λ (x : Option (Living M)). At (before ++ Asks act ∷ []) x) (sym is.5) (at_ask before is.0 is.1 act is.2 (subst (λ (x : Option (Living M)). At before x) is.3 so) is.4)
  move_on (Learns act told) before old new is so =
      subst (λ (x : Option (Living M)). At (before ++ Learns act told ∷ []) x) (sym is.4) (at_learn before is.0 act told (subst (λ (x : Option (Living M)). At before x) is.1 so) is.2 is.3)
  move_on (Fails sid call) before old new is so =
      subst (λ (x : Option (Living M)). At (before ++ Fails sid call ∷ []) x) (sym is.3) (at_fail before is.0 sid call (subst (λ (x : Option (Living M)). At before x) is.1 so) is.2)
  move_on Misses before old new is so =
      subst (λ (x : Option (Living M)). At (before ++ Misses ∷ []) x) (sym is.2) (at_miss before is.0 (subst (λ (x : Option (Living M)). At before x) is.1 so))

  pub along : (moves before : List Move) (old new : Option (Living M)) → Lives w moves old new → At before old → At (before ++ moves) new
  along [] before old new is so = subst (λ (l : List Move). At l new) (sym (append-nil before)) (subst (λ (x : Option (Living M)). At before x) (sym is) so)
  along (move ∷ moves) before old new is so =
      subst (λ (l : List Move). At l new) (append_assoc before (move ∷ []) moves) (along moves (before ++ move ∷ []) is.0 new is.2 (move_on move before old is.0 is.1 so))
