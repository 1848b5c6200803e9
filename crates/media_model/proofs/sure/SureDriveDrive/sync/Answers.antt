use Rattle.std.proofs.Common.{refl, subst, sym, length, ◌≤◌}
use Rattle.std.proofs.lemmas.Option.{MatchOption-at_some}
use Rattle.std.specs.Bool.{⊤}
use Rattle.media_model.specs.Objects.{Objects, Alike}
use Rattle.media_model.specs.Memory.{Volume, Held, AreObjects, lasting_in, synced}
use Rattle.media_model.proofs.Holding.{Keeps, change-keeps, change-alike, synced-last}
use Rattle.media_model.proofs.sure.SureDriveDrive.sync.Goals as goal

pub returns-clause-lasts : goal.returns-clause-lasts
returns-clause-lasts c = subst (λ (h : Held). (o : Objects) → AreObjects h c.args.volume o → length o ≤ lasting_in c.args.volume h) (sym c.make_last.ensures.after) (synced-last c.args.volume c.args.self.now)

pub returns-clause-same : goal.returns-clause-same
returns-clause-same c = λ v. subst (λ (h : Held). Alike (AreObjects c.args.self.now v) (AreObjects h v)) (sym c.make_last.ensures.after) (change-alike c.args.volume v synced c.args.self.now (λ x. refl))

pub returns-clause-volumes : goal.returns-clause-volumes
returns-clause-volumes c = subst (Keeps c.args.self.now) (sym c.make_last.ensures.after)
    (change-keeps c.args.volume synced c.args.self.now (λ x is. MatchOption-at_some ⊤ (λ (x : Volume). x.lasting ≤ length x.objects) x is c.make_last.ensures.within))
