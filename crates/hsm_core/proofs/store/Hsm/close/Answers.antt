use Rattle.std.proofs.Common.{◌≡◌, ℕ, List, false, subst}
use Rattle.disk_model.specs.Moments.{MayBe, LeavesOnly}
use Rattle.file_store.specs.Stores.{IsDurable}
use Rattle.hsm_core.specs.Store.{Store}
use Rattle.hsm_core.proofs.Runs.{kept}
use Rattle.hsm_core.specs.Crashes.{IsPrefix, IsSafeNow}
use Rattle.hsm_core.proofs.store.Hsm.close.Goals as goal

pub returns-clause-durable : goal.returns-clause-durable
returns-clause-durable g c = subst (λ (s : Store g.row.D.Denot). s.files.failed ≡ false → (i : List ℕ) → MayBe g.D.Disk s.files.disk i → IsDurable s.files i) c.self.view_is c.close.ensures.durable

pub returns-clause-kept : goal.returns-clause-kept
returns-clause-kept g c = rw (← c.self.view_is) (kept c.run_is_good.ensures g.D.Disk _ c.self.invariant.0 c.self.invariant.6)

pub returns-clause-since : goal.returns-clause-since
returns-clause-since g c = subst (λ (s : Store g.row.D.Denot). LeavesOnly g.D.Disk s.opened.disk s.files.disk (IsPrefix s.opened s.history 0)) c.self.view_is c.self.invariant.1.since

pub returns-clause-now : goal.returns-clause-now
returns-clause-now g c = subst (λ (s : Store g.row.D.Denot). IsSafeNow g.D.Disk s) c.self.view_is c.self.invariant.1.now
