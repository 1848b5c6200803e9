use Rattle.media_model.proofs.Holding.{appends-keeps, appends-others, appends-exact, appends-one, appends-cause}
use Rattle.media_model.proofs.sure.SureDriveDrive.append.Goals as goal

pub returns-clause-one_more : goal.returns-clause-one_more
returns-clause-one_more c = appends-one _ _ _ _ _ _ c.append_as.ensures

pub returns-clause-exact : goal.returns-clause-exact
returns-clause-exact c = appends-exact _ _ _ _ _ _ c.append_as.ensures

pub returns-clause-others : goal.returns-clause-others
returns-clause-others c = appends-others _ _ _ _ _ _ c.append_as.ensures

pub returns-clause-volumes : goal.returns-clause-volumes
returns-clause-volumes c = appends-keeps _ _ _ _ _ _ c.append_as.ensures

pub returns-clause-cause : goal.returns-clause-cause
returns-clause-cause c = appends-cause _ _ _ _ _ _ c.append_as.ensures
