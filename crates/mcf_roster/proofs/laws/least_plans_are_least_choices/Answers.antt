use Rattle.mcf_roster.proofs.Exchange.{least_plans_are_least_choices_lem}
use Rattle.mcf_roster.proofs.laws.least_plans_are_least_choices.Goals as goal

pub returns : goal.returns
returns c = least_plans_are_least_choices_lem
