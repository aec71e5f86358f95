use Rattle.mcf_roster.proofs.Contests.{competitions_have_no_choice_lem}
use Rattle.mcf_roster.proofs.laws.competitions_have_no_choice.Goals as goal

pub returns : goal.returns
returns c = competitions_have_no_choice_lem c.bottlenecks_have_no_plan.ensures
