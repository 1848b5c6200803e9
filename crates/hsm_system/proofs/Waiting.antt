-- A daemon that waits, waits for what comes of the act that it gave last.
use Rattle.std.proofs.Common.{◌≡◌, ◌↔◌, ◌∙◌, Option, refl, sym, ap, subst}
use Rattle.std.specs.Prelude.{IfSome, Some}
use Rattle.hsm_types.specs.declared.daemons.Act.{Act}
use Rattle.hsm_types.specs.declared.daemons.Daemon.{Daemon}
use Rattle.hsm_types.specs.declared.daemons.Daemon.TheVariants.{Recall, Migrate}
use Rattle.hsm_types.specs.declared.daemons.Heard.{Heard}
use Rattle.hsm_system.specs.Awaiting.{WaitsFor, awaited_by, awaited_of, heard_next}
use Rattle.hsm_system.specs.Running.{IsSound, AwaitsNow, AwaitsSuch}
use Rattle.hsm_system.specs.Systems.{System, IsSystem, Awaits, IsAwaited}
use Rattle.hsm_system.specs.declared.awaited.Awaited.{Awaited}
use Rattle.hsm_system.specs.declared.awaited.Outcome.{Outcome}
use Rattle.hsm_system.specs.declared.daemons.Next.{Next}
use Rattle.hsm_system.specs.declared.daemons.Next.TheVariants.{Waits}
use Rattle.hsm_system.specs.declared.daemons.Running.{Running}
use Rattle.hsm_system.proofs.Outcomes.{waits_on}

-- what is said of the one that runs is said of one
pub at_one : {M T : Type 0} (P : Next → Type 0) (o : Option (Running M)) (r : Running M) → o ≡ Some r → (T ↔ P r.next) → (T ↔ ((x : Running M) × (o ≡ Some x) × P x.next))
at_one {M = M} P o r is same = (
  λ t. (r, is, same.0 t),
  λ one.
      let is_one : Some one.0 ≡ Some r = sym one.1 ∙ is in
      let alike : one.0 ≡ r = cc is_one in
      same.1 (subst (λ (x : Running M). P x.next) alike one.2),
)

module _ {M : Type 0} (asked : M → Act) (may_hear : Heard → Type 0) (Knows : M → Type 0) (daemon : Option (Running M)) (sound : IfSome daemon (IsSound asked may_hear Knows)) where
  pub sound_one : (r : Running M) → daemon ≡ Some r → IsSound asked may_hear Knows r
  sound_one r is = subst (λ (o : Option (Running M)). IfSome o (IsSound asked may_hear Knows)) is sound

  -- so an outcome of that act is the one
  such : (act : Act) (awaited : Awaited) → AwaitsNow asked act daemon → awaited_of act ≡ awaited → AwaitsSuch awaited daemon
  such act awaited awaits same = (
    awaits.0,
    awaits.1,
    waits_on awaits.0.next (asked awaits.0.machine) awaits.2 (sound_one awaits.0 awaits.1).waits ∙ ap (λ (a : Act). Waits (awaited_of a)) awaits.3 ∙ ap (λ (a : Awaited). Waits a) same,
  )

  -- and where an outcome is awaited, such an outcome comes of the act that was given
  one : (awaited : Awaited) → AwaitsSuch awaited daemon → (act : Act) × AwaitsNow asked act daemon × (awaited_of act ≡ awaited)
  one awaited waits = (
    asked waits.0.machine,
    (waits.0, waits.1, ap heard_next waits.2, refl),
    sym (subst (λ (n : Next). WaitsFor n (asked waits.0.machine)) waits.2 (sound_one waits.0 waits.1).waits),
  )

pub is_awaited : {D : Type 0} (daemon : Daemon) (act : Act) (outcome : Outcome) (s : System D) → IsSystem s → Awaits daemon act s → awaited_of act ≡ awaited_by outcome → IsAwaited daemon outcome s
is_awaited Recall act outcome s is awaits same = such _ _ _ s.recall is.recall act (awaited_by outcome) awaits same
is_awaited Migrate act outcome s is awaits same = such _ _ _ s.migrate is.migrate act (awaited_by outcome) awaits same

pub awaits_one : {D : Type 0} (daemon : Daemon) (outcome : Outcome) (s : System D) → IsSystem s → IsAwaited daemon outcome s → (act : Act) × Awaits daemon act s × (awaited_of act ≡ awaited_by outcome)
awaits_one Recall outcome s is awaited = one _ _ _ s.recall is.recall (awaited_by outcome) awaited
awaits_one Migrate outcome s is awaited = one _ _ _ s.migrate is.migrate (awaited_by outcome) awaited
