-- What came of an act fits it, where it is what is waited for.
use Rattle.std.proofs.Common.{◌≡◌, ◌∙◌, ℕ, List, None, Some, Result, Ok, Err, refl, sym, ap}
use Rattle.hsm_types.specs.Stubs.{print_of}
use Rattle.hsm_types.specs.declared.daemons.Act.{Act}
use Rattle.hsm_types.specs.declared.daemons.Act.TheVariants.{Dm, Copy, Fetch, Idle}
use Rattle.hsm_types.specs.declared.media.CopyRefusal.TheVariants as copying
use Rattle.hsm_types.specs.declared.media.FetchRefusal.{FetchRefusal}
use Rattle.hsm_types.specs.declared.media.FetchRefusal.TheVariants as fetching
use Rattle.hsm_types.specs.declared.stubs.StubEntry.{StubEntry}
use Rattle.deeds.specs.Deeds.{Fits, call_told}
use Rattle.hsm_system.specs.Awaiting.{IsSo, WaitsFor, IsWaiting, awaited_by, awaited_of, heard_of}
use Rattle.hsm_system.specs.declared.awaited.Awaited.{Awaited}
use Rattle.hsm_system.specs.declared.awaited.Awaited.TheVariants as wait
use Rattle.hsm_system.specs.declared.awaited.Outcome.{Outcome}
use Rattle.hsm_system.specs.declared.awaited.Outcome.TheVariants as outcome
use Rattle.hsm_system.specs.declared.daemons.Next.{Next}
use Rattle.hsm_system.specs.declared.daemons.Next.TheVariants.{Hears, Waits}

-- it is heard, and no entry
abbrev IsHeard : Act → Outcome → Type 0
IsHeard asked outcome = Fits asked (heard_of outcome) × (call_told asked (heard_of outcome) ≡ None)

fetched_fits : (entry other : StubEntry) (answer : Result (List ℕ) FetchRefusal) → entry ≡ other → IsSo (outcome.Fetched other answer) → IsHeard (Fetch entry) (outcome.Fetched other answer)
fetched_fits entry other (Ok bytes) same so = rw same (so, refl)
fetched_fits entry other (Err (fetching.Media fault)) same so = rw same (so, refl)
fetched_fits entry other (Err (fetching.NoObject volume object)) same so = rw same (so, refl)
fetched_fits entry other (Err fetching.Memory) same so = absurd so

pub outcome_fits : (asked : Act) (outcome : Outcome) → awaited_of asked ≡ awaited_by outcome → IsSo outcome → IsHeard asked outcome
outcome_fits (Copy volume handle segment bytes) (outcome.Copied other file place print (Ok entry)) same so =
    let at : wait.Copy volume handle segment (print_of bytes) ≡ wait.Copy other file place print = same in
    ((so.0 ∙ sym (cc at), so.1 ∙ sym (cc at)), refl)
outcome_fits (Copy volume handle segment bytes) (outcome.Copied other file place print (Err (copying.Damaged want got))) same so =
    let at : wait.Copy volume handle segment (print_of bytes) ≡ wait.Copy other file place print = same in
    ((so.0 ∙ sym (cc at), so.1), refl)
outcome_fits (Copy volume handle segment bytes) (outcome.Copied other file place print (Err (copying.Failed before after))) same so = (so, refl)
outcome_fits (Copy volume handle segment bytes) (outcome.Copied other file place print (Err (copying.Full used len capacity))) same so = (so, refl)
outcome_fits (Copy volume handle segment bytes) (outcome.Copied other file place print (Err copying.NoVolume)) same so = (tt, refl)
outcome_fits (Copy volume handle segment bytes) (outcome.Copied other file place print (Err copying.Memory)) same so = absurd so
outcome_fits (Fetch entry) (outcome.Fetched other answer) same so =
    let at : wait.Fetch entry ≡ wait.Fetch other = same in
    fetched_fits entry other answer (cc at) so
outcome_fits Idle outcome.Rested same so = (tt, refl)
outcome_fits (Dm sid call) (outcome.Copied other file place print answer) same so = let wrong : wait.Call ≡ wait.Copy other file place print = same in cc wrong
outcome_fits (Dm sid call) (outcome.Fetched other answer) same so = let wrong : wait.Call ≡ wait.Fetch other = same in cc wrong
outcome_fits (Dm sid call) outcome.Rested same so = let wrong : wait.Call ≡ wait.Rest = same in cc wrong
outcome_fits (Copy volume handle segment bytes) (outcome.Fetched other answer) same so = let wrong : wait.Copy volume handle segment (print_of bytes) ≡ wait.Fetch other = same in cc wrong
outcome_fits (Copy volume handle segment bytes) outcome.Rested same so = let wrong : wait.Copy volume handle segment (print_of bytes) ≡ wait.Rest = same in cc wrong
outcome_fits (Fetch entry) (outcome.Copied other file place print answer) same so = let wrong : wait.Fetch entry ≡ wait.Copy other file place print = same in cc wrong
outcome_fits (Fetch entry) outcome.Rested same so = let wrong : wait.Fetch entry ≡ wait.Rest = same in cc wrong
outcome_fits Idle (outcome.Copied other file place print answer) same so = let wrong : wait.Rest ≡ wait.Copy other file place print = same in cc wrong
outcome_fits Idle (outcome.Fetched other answer) same so = let wrong : wait.Rest ≡ wait.Fetch other = same in cc wrong

-- while it waits, it waits for what comes of that act
pub waits_on : (next : Next) (asked : Act) → IsWaiting next → WaitsFor next asked → next ≡ Waits (awaited_of asked)
waits_on (Hears told) asked waits is = let wrong : Some told ≡ None = waits in cc wrong
waits_on (Waits awaited) asked waits is = ap (λ (a : Awaited). Waits a) is
