-- What a daemon hears next.
use Rattle.std.proofs.Common.{◌≡◌, refl, sym, ap, subst}
use Rattle.hsm_types.specs.declared.daemons.Heard.{Heard}
use Rattle.deeds.specs.Lives.{untold}
use Rattle.hsm_system.specs.Running.{untold_next}
use Rattle.hsm_system.specs.declared.daemons.Next.{Next}
use Rattle.hsm_system.specs.declared.daemons.Next.TheVariants.{Hears, Waits}
use Rattle.hsm_replay.specs.Systems.{told_next}

-- where migration may begin a pass by `high` again
pub told_again : (n : Next) → told_next (untold_next n) ≡ untold (told_next n)
told_again (Hears told) = refl
told_again (Waits awaited) = refl

-- what was kept for it
pub told_kept : (P : Heard → Type 0) (n : Next) (told : Heard) → n ≡ Hears told → P told → P (told_next n)
told_kept P n told is has = subst P (sym (ap told_next is)) has
