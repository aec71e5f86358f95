use Rattle.std.proofs.Common.{arith, below_more, get_or, pos, rules, sym, ◌∙◌}
use Rattle.std.specs.Int.{w128}
use Rattle.std.specs.Prelude.{FitsSigned}
use Rattle.std.proofs.lemmas.Int.{to_z-of_z}
use Rattle.mcf_checker.proofs.BadNodes.{met_here, unmet_here, first_unmet-some, first_unmet_past, first_unmet_nowhere}
use Rattle.mcf_checker.proofs.solution.first_unmet.Goals as goal

pub loop-place-preserved : goal.loop-place-preserved
loop-place-preserved c =
    let fits : FitsSigned w128 (get_or c.args.nets.now c.loop-place.place (pos 0)) = search rules in
    let met = simp to_z-of_z at c.is_met_at.ensures in
    below_more _ _ c.loop-place.invariant
    (met_here c.args.nets.now c.args.instance.now.supplies c.args.prices c.loop-place.place (omega arith) (sym met ∙ c.if-not-is_met_at.false))

pub returns-then-not-is_met_at : goal.returns-then-not-is_met_at
returns-then-not-is_met_at c =
    let fits : FitsSigned w128 (get_or c.args.nets.now c.loop-place.place (pos 0)) = search rules in
    let met = simp to_z-of_z at c.is_met_at.ensures in
    sym (first_unmet-some c.args.nets.now c.args.instance.now.supplies c.args.prices c.loop-place.place (omega arith) c.loop-place.invariant
    (unmet_here c.args.nets.now c.args.instance.now.supplies c.args.prices c.loop-place.place (sym met ∙ c.if-not-is_met_at.true)))

pub returns-then-nodes-prices : goal.returns-then-nodes-prices
returns-then-nodes-prices c =
    rw c.node_count-nodes.ensures.value
    (sym (first_unmet_past c.args.nets.now c.args.instance.now.supplies c.args.prices (omega arith) (λ j h. c.loop-place.invariant j (omega arith))))

pub returns : goal.returns
returns c =
    sym (first_unmet_nowhere c.args.nets.now c.args.instance.now.supplies c.args.prices (omega arith) (λ j h. c.loop-place.invariant j (omega arith)))
