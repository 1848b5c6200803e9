-- What is known of a call that nothing refuses, and of what a caller's event comes to.
use Rattle.std.proofs.Common.{◌≡◌, List, ◌∷◌, Bool, true, false, Option, Some, None, refl}
use Rattle.std.specs.Prelude.{◌&&◌, if◌then◌else◌}
use Rattle.hsm_types.specs.Refusals.{first_refusal}
use Rattle.hsm_types.specs.declared.calls.CallRefusal.TheVariants.{Waiting, Idle}
use Rattle.hsm_types.specs.declared.calls.Reply.TheVariants.{Still, Refused}
use Rattle.hsm_types.specs.declared.dm.Response.{Response}
use Rattle.hsm_types.specs.declared.keys.Token.{Token}
use Rattle.plain_model.specs.declared.entries.Action.{Action}
use Rattle.plain_model.specs.declared.entries.Action.TheVariants.{Issue}
use Rattle.plain_model.specs.Plain.{Listed}
use Rattle.plain_model.specs.Ledger.{Access, Meant, Fixed, Means, goes_on, meant}

pub none_first : {R : Type 0} (x : Option R) (rest : List (Option R)) → first_refusal (x ∷ rest) ≡ None → (x ≡ None) × (first_refusal rest ≡ None)
none_first None rest is = (refl, is)
none_first (Some why) rest is = cc

-- nothing refuses, so the test holds
pub passes : {R : Type 0} (b : Bool) (why : R) → (if b then None else Some why) ≡ None → b ≡ true
passes true why is = refl
passes false why is = cc

pub second_holds : (a b : Bool) → (a && b) ≡ true → b ≡ true
second_holds true b is = is
second_holds false b is = cc

-- a reply that is fixed tells to wait, or that nothing waits
abbrev pub Says : Meant → Type 0
Says (Fixed (Refused Waiting)) = Unit {0}
Says (Fixed (Refused Idle)) = Unit {0}
Says (Fixed (Still t)) = Unit {0}
Says (Fixed reply) = ⊥
Says (Means k call) = Unit {0}

goes_on_says : (a : Access) (token : Option Token) (answer : Option Response) → Says (goes_on a token answer)
goes_on_says a (Some t) None = tt
goes_on_says a None answer = tt
goes_on_says a (Some t) (Some response) = tt

pub meant_says : (files : List Listed) (waits : Option Access) (what : Action) → Says (meant files waits what)
meant_says files None (Issue call) = tt
meant_says files (Some a) (Issue call) = tt
meant_says files None what = tt
meant_says files (Some a) what = goes_on_says a a.token a.answer
