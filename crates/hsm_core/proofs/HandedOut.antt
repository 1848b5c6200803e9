-- What a session is told of the messages that its call hands out.
use Rattle.std.proofs.Common.{◌≡◌, ◌⊎◌, false, Some, None, Result, Ok, Err, IfOk, inl, inr, refl, sym, subst}
use Rattle.std.specs.Result.{IsErrOf}
use Rattle.hsm_types.specs.Sessions.{SessionTable}
use Rattle.hsm_types.specs.declared.dm.DmCall.{DmCall}
use Rattle.hsm_types.specs.declared.dm.DmCall.TheVariants.{GetEvents, FindEventMsg}
use Rattle.hsm_types.specs.declared.dm.DmRefusal.{DmRefusal}
use Rattle.hsm_types.specs.declared.dm.DmRefusal.TheVariants as dm
use Rattle.hsm_types.specs.declared.dm.DmReply.{DmReply}
use Rattle.hsm_types.specs.declared.dm.DmReply.TheVariants.{Refused}
use Rattle.hsm_types.specs.declared.keys.Sid.{Sid}
use Rattle.snapshot_text.specs.declared.refusal.MetaRefusal.{MetaRefusal}
use Rattle.snapshot_text.specs.declared.refusal.MetaRefusal.TheVariants.{Part, Disk, Memory}
use Rattle.dm_service.specs.Handing.{HandsOut}
use Rattle.dm_service.specs.Services.{asks_tables}

-- a call that the service doesn't answer hands out nothing
pub unhanded : (t : SessionTable) (sid : Sid) (call : DmCall) (told : DmReply) → asks_tables call ≡ false → HandsOut t sid call told
unhanded t sid (GetEvents most room) told asks = absurd cc
unhanded t sid (FindEventMsg token room) told asks = absurd cc
unhanded t sid call told asks = tt

pub all_unhanded : (t : SessionTable) (sid : Sid) (call : DmCall) (done : Result (DmReply × DmReply) MetaRefusal) → asks_tables call ≡ false → IfOk done (λ r. HandsOut t sid call r.0)
all_unhanded t sid call (Ok r) asks = unhanded t sid call r.0 asks
all_unhanded t sid call (Err e) asks = tt

-- nor does one that is refused
pub unhanded_refused : (t : SessionTable) (sid : Sid) (call : DmCall) (why : DmRefusal) (told : DmReply) → told ≡ Refused why → HandsOut t sid call told
unhanded_refused t sid (GetEvents most room) why told is = subst (HandsOut t sid (GetEvents most room)) (sym is) tt
unhanded_refused t sid (FindEventMsg token room) why told is = subst (HandsOut t sid (FindEventMsg token room)) (sym is) tt
unhanded_refused t sid call why told is = tt

-- what is told of a call that was served, or that has failed
pub told_handed : (t : SessionTable) (sid : Sid) (call : DmCall) (P : DmReply × DmReply → Type 0) (A B : Type 0) (done : Result (DmReply × DmReply) MetaRefusal) (told : DmReply) → IfOk done (λ r. HandsOut t sid call r.0)
    → IfOk done (λ r. (told ≡ r.0) × P r) → (IsErrOf done Memory → (told ≡ Refused dm.Memory) × A) → (IsErrOf done Disk → (told ≡ Refused dm.Disk) × B) → ((why : DmRefusal) → IsErrOf done (Part why) → None ≡ Some why) → HandsOut t sid call told
told_handed t sid call P A B (Ok r) told handed kept memory failed none = subst (HandsOut t sid call) (sym kept.0) handed
told_handed t sid call P A B (Err Memory) told handed kept memory failed none = unhanded_refused t sid call dm.Memory told (memory refl).0
told_handed t sid call P A B (Err Disk) told handed kept memory failed none = unhanded_refused t sid call dm.Disk told (failed refl).0
told_handed t sid call P A B (Err (Part why)) told handed kept memory failed none = let wrong = none why refl in absurd cc

-- and of one that wasn't begun
pub unserved_handed : (t : SessionTable) (sid : Sid) (call : DmCall) (A B : Type 0) (why : MetaRefusal) (told : DmReply) → (why ≡ Memory → told ≡ Refused dm.Memory) → (why ≡ Disk → told ≡ Refused dm.Disk) → ((why ≡ Disk) × A) ⊎ ((why ≡ Memory) × B) → HandsOut t sid call told
unserved_handed t sid call A B why told memory failed (inl is) = unhanded_refused t sid call dm.Disk told (failed is.0)
unserved_handed t sid call A B why told memory failed (inr is) = unhanded_refused t sid call dm.Memory told (memory is.0)
