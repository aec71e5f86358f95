use Rattle.std.proofs.Common.{◌∙◌}
use Rattle.mcf_period_reading.proofs.spots.row_with.Goals as goal

pub returns : goal.returns
returns c = λ spots first. c.copied.ensures ∙ c.get.ensures.value ∙ first (c.args.place, c.args.period)
