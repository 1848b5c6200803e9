use Rattle.std.proofs.Common.{sym, ◌∙◌, ap}
use Rattle.std.specs.Option.{option_map}
use Rattle.plain_model.specs.Ledger.{aborted, gone}
use Rattle.plain_model.specs.Verdict.{Ends, Rules, conflicting, touching, needing, lacking}
use Rattle.dm_service.specs.Tables.{Tables, flags_in}
use Rattle.dm_service.specs.Judging.{said}
use Rattle.dm_service.proofs.Judged.{fourth_says, fifth_says, sixth_says}
use Rattle.dm_service.proofs.service.DmService.judge.Goals as goal

pub returns-in-Some-judge_regions : goal.returns-in-Some-judge_regions
returns-in-Some-judge_regions c =
    fourth_says (option_map Ends (aborted c.args.access.now.answer)) (option_map Ends (gone c.args.facts.now.live)) (option_map Rules (conflicting c.args.self.now.rights c.args.key c.args.access.now.call))
    (option_map Rules (touching (flags_in c.args.access.now) c.args.facts.now c.args.access.now.call)) (option_map Rules (needing (flags_in c.args.access.now) c.args.facts.now c.args.access.now.call))
    (option_map Rules (lacking (flags_in c.args.access.now) c.args.facts.now c.args.self.now.sessions)) c.in-Some-judge_regions.verdict
    (sym c.in_default.is ∙ c.judge_answer.ensures) (sym c.in_default-judge_file.is ∙ c.judge_file.ensures) (sym c.in_default-judge_rights.is ∙ c.judge_rights.ensures) (sym c.in-Some-judge_regions.is ∙ c.judge_regions.ensures)

pub returns-in-Some-judge_segments : goal.returns-in-Some-judge_segments
returns-in-Some-judge_segments c =
    fifth_says (option_map Ends (aborted c.args.access.now.answer)) (option_map Ends (gone c.args.facts.now.live)) (option_map Rules (conflicting c.args.self.now.rights c.args.key c.args.access.now.call))
    (option_map Rules (touching (flags_in c.args.access.now) c.args.facts.now c.args.access.now.call)) (option_map Rules (needing (flags_in c.args.access.now) c.args.facts.now c.args.access.now.call))
    (option_map Rules (lacking (flags_in c.args.access.now) c.args.facts.now c.args.self.now.sessions)) c.in-Some-judge_segments.verdict
    (sym c.in_default.is ∙ c.judge_answer.ensures) (sym c.in_default-judge_file.is ∙ c.judge_file.ensures) (sym c.in_default-judge_rights.is ∙ c.judge_rights.ensures)
    (sym c.in_default-judge_regions.is ∙ c.judge_regions.ensures) (sym c.in-Some-judge_segments.is ∙ c.judge_segments.ensures)

pub returns-in-Some-judge_space : goal.returns-in-Some-judge_space
returns-in-Some-judge_space c =
    sixth_says (option_map Ends (aborted c.args.access.now.answer)) (option_map Ends (gone c.args.facts.now.live)) (option_map Rules (conflicting c.args.self.now.rights c.args.key c.args.access.now.call))
    (option_map Rules (touching (flags_in c.args.access.now) c.args.facts.now c.args.access.now.call)) (option_map Rules (needing (flags_in c.args.access.now) c.args.facts.now c.args.access.now.call))
    (option_map Rules (lacking (flags_in c.args.access.now) c.args.facts.now c.args.self.now.sessions)) c.in-Some-judge_space.verdict
    (sym c.in_default.is ∙ c.judge_answer.ensures) (sym c.in_default-judge_file.is ∙ c.judge_file.ensures) (sym c.in_default-judge_rights.is ∙ c.judge_rights.ensures)
    (sym c.in_default-judge_regions.is ∙ c.judge_regions.ensures) (sym c.in_default-judge_segments.is ∙ c.judge_segments.ensures)
    (sym c.in-Some-judge_space.is ∙ c.judge_space.ensures ∙ ap (λ (t : Tables). said (option_map Rules (lacking (flags_in c.args.access.now) c.args.facts.now t.sessions))) c.self.view_is)
