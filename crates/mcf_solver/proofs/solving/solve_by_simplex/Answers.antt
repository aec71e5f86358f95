use Rattle.std.proofs.Common.{◌∙◌, ap, length, subst, sym}
use Rattle.mcf_network.specs.Removal.{net_of}
use Rattle.mcf_simplex.specs.Blocks.{BlockRule}
use Rattle.mcf_simplex.specs.Runs.{RuleState}
use Rattle.mcf_simplex.specs.Stretches.{IsWideFor, WideRule}
use Rattle.mcf_solver.specs.Making.{new_block_rule}
use Rattle.mcf_choice.specs.declared.choice.PricingChoice.TheVariants.{First, Best, Block, Wide}
use Rattle.mcf_solver.proofs.Making.{made_by_blocks, made_by_rule, wide_on_net}
use Rattle.mcf_solver.proofs.solving.solve_by_simplex.Goals as goal

pub returns-in-First-clause-made : goal.returns-in-First-clause-made
returns-in-First-clause-made c =
    made_by_rule First c.args.choice.pricing c.args.choice.block c.args.instance.now _ c.solve_by.result c.in-First.is
    (λ s made. (c.new.result, c.solve_by.new.engine, made)) c.solve_by.ensures.made

pub returns-in-Best-clause-made : goal.returns-in-Best-clause-made
returns-in-Best-clause-made c =
    made_by_rule Best c.args.choice.pricing c.args.choice.block c.args.instance.now _ c.solve_by-in-Best.result c.in-Best.is
    (λ s made. (c.new-in-Best.result, c.solve_by-in-Best.new.engine, made)) c.solve_by-in-Best.ensures.made

pub returns-in-Block-clause-made : goal.returns-in-Block-clause-made
returns-in-Block-clause-made c =
    let is = c.new-in-Block.ensures ∙ (ap (λ (r : BlockRule). record { rule = r; pivots = 0 }) c.new-rule.ensures ∙ ap new_block_rule c.get.ensures.value) in
    made_by_rule Block c.args.choice.pricing c.args.choice.block c.args.instance.now _ c.solve_by-in-Block.result c.in-Block.is
    (λ s made. made_by_blocks c.args.choice.block _ (net_of c.args.instance.now) s _ is made) c.solve_by-in-Block.ensures.made

pub returns-in-Wide-clause-made : goal.returns-in-Wide-clause-made
returns-in-Wide-clause-made c =
    let suits = wide_on_net c.args.instance.now _ _ c.arc_count.ensures.value c.suited_to-wide.ensures in
    let on_net : IsWideFor (length (net_of c.args.instance.now).arcs) c.new-in-Wide.result.rule =
    subst (IsWideFor (length (net_of c.args.instance.now).arcs)) (sym (ap (λ (e : RuleState WideRule). e.rule) c.new-in-Wide.ensures)) suits in
    made_by_rule Wide c.args.choice.pricing c.args.choice.block c.args.instance.now _ c.solve_by-in-Wide.result c.in-Wide.is
    (λ s made. (c.new-in-Wide.result, c.solve_by-in-Wide.new.engine, on_net, made)) c.solve_by-in-Wide.ensures.made
