use Rattle.std.proofs.Common.{rules, ap, ◌≡◌, ◌∙◌}
use Rattle.clap.specs.Words.{rule_of}
use Rattle.clap.specs.Walk.{texts}
use Rattle.mcf_plan_asking.specs.PlanAsking.{crossing_names}
use Rattle.mcf_plan_asking.proofs.asking.crossing_option.Goals as goal

pub returns-clause-rule : goal.returns-clause-rule
returns-clause-rule c =
    let spelled : texts c.as_slice.result.now ≡ crossing_names = search rules in
    (c.as_slice.result, spelled, ap rule_of c.help.ensures ∙ c.word_option.ensures.rule)
