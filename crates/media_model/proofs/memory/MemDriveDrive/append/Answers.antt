use Rattle.media_model.proofs.Holding.{appends-keeps, appends-others, appends-one}
use Rattle.media_model.proofs.Failing.{fails-follows, fails-others, fails-keeps}
use Rattle.media_model.proofs.memory.MemDriveDrive.append.Goals as goal

pub returns-in-Some-clause-failed : goal.returns-in-Some-clause-failed
returns-in-Some-clause-failed c = λ failed. fails-follows _ _ _ _ _ _ c.fail_append.ensures.after

pub returns-in-Some-clause-others : goal.returns-in-Some-clause-others
returns-in-Some-clause-others c = fails-others _ _ _ _ _ _ c.fail_append.ensures.after

pub returns-in-Some-clause-volumes : goal.returns-in-Some-clause-volumes
returns-in-Some-clause-volumes c = fails-keeps _ _ _ _ _ _ c.fail_append.ensures.after

pub returns-in-None-clause-one_more : goal.returns-in-None-clause-one_more
returns-in-None-clause-one_more c = appends-one _ _ _ _ _ _ c.append_now.ensures.held

pub returns-in-None-clause-others : goal.returns-in-None-clause-others
returns-in-None-clause-others c = appends-others _ _ _ _ _ _ c.append_now.ensures.held

pub returns-in-None-clause-volumes : goal.returns-in-None-clause-volumes
returns-in-None-clause-volumes c = appends-keeps _ _ _ _ _ _ c.append_now.ensures.held
