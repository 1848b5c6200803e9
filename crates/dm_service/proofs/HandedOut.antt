-- How much a session is handed out of its queue.
use Rattle.std.proofs.Common.{ℕ, ◌-◌, ◌≤◌, true, false, List, [], ◌∷◌, length, take, Result, Ok, Err, IfOk, sym, subst, arith}
use Rattle.std.proofs.lemmas.List.{length-take, length-map}
use Rattle.std.specs.Prelude.{nat_le, ◌==◌, if◌then◌else◌}
use Rattle.hsm_types.specs.Messages.{message_bytes, fitting, first_or_all, handed_out}
use Rattle.hsm_types.specs.Sessions.{SessionTable, tokens_of}
use Rattle.hsm_types.specs.declared.dm.DmCall.{DmCall}
use Rattle.hsm_types.specs.declared.dm.DmCall.TheVariants.{GetEvents, FindEventMsg}
use Rattle.hsm_types.specs.declared.dm.DmRefusal.{DmRefusal}
use Rattle.hsm_types.specs.declared.dm.DmReply.{DmReply}
use Rattle.hsm_types.specs.declared.dm.DmReply.TheVariants as reply
use Rattle.hsm_types.specs.declared.keys.Sid.{Sid}
use Rattle.hsm_types.specs.declared.messages.Message.{Message}
use Rattle.dm_service.specs.Handing.{HandsOut}
use Rattle.dm_service.specs.Services.{AreBoth}

fitting_within : (room : ℕ) (l : List Message) → length (fitting room l) ≤ length l
fitting_within room [] = omega arith
fitting_within room (m ∷ more) =
    let later = fitting_within (room - message_bytes m) more in
    elim (nat_le (message_bytes m) room) as (λ b. length (if b then m ∷ fitting (room - message_bytes m) more else []) ≤ length (m ∷ more)) [ true ↦ omega arith | false ↦ omega arith ]

first_within : (most : ℕ) (l : List Message) → length (first_or_all most l) ≤ length l
first_within most l = elim (most == 0) as (λ b. length (if b then l else take most l) ≤ length l) [ true ↦ omega arith | false ↦ omega (arith, length-take most l) ]

pub handed_within : (most room : ℕ) (l : List Message) → length (tokens_of (handed_out most room l)) ≤ length l
handed_within most room l =
    omega (arith, length-map (handed_out most room l) (λ (m : Message). m.token), fitting_within room (first_or_all most l), first_within most l)

-- ---- what is told of it

-- of a call that its scope refuses
pub refused_packed : (t : SessionTable) (sid : Sid) (call : DmCall) (why : DmRefusal) (r : DmReply × DmReply) → AreBoth (reply.Refused why) r → HandsOut t sid call r.0
refused_packed t sid (GetEvents most room) why r both = subst (HandsOut t sid (GetEvents most room)) (sym both.0) tt
refused_packed t sid (FindEventMsg token room) why r both = subst (HandsOut t sid (FindEventMsg token room)) (sym both.0) tt
refused_packed t sid call why r both = tt

-- and of one that hands out nothing
pub nothing_packed : {T E : Type 0} (result : Result T E) → IfOk result (λ r. Unit {0})
nothing_packed (Ok r) = tt
nothing_packed (Err e) = tt
