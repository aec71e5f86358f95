use Rattle.std.proofs.Common.{ap}
use Rattle.mcf_plan_asking.specs.PlanAsking.{word_text}
use Rattle.mcf_plan_suite.proofs.serving.one_pairs_text.Goals as goal

pub returns : goal.returns
returns g c = record {
  file = c.in-Some.file.now;
  costs = c.in_ok-costs.costs;
  names_costs = ap word_text c.in-Some.is;
  costs_read = c.in_ok-costs.ensures;
  answers = rw (c.word_bytes.ensures, c.deref.ensures.value, c.pair_options-options.ensures) at c.in_ok-text.ensures;
}
