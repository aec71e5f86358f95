use Rattle.std.proofs.Common.{ap, ◌∙◌, ◌++◌, ◌∷◌, []}
use Rattle.mcf_plan_ranges.proofs.Making.{arcs_are_residual, slab}
use Rattle.std.proofs.Common.{map}
use Rattle.mcf_instance.specs.Arrays.{arc_of_numbers}
use Rattle.mcf_plan_ranges.proofs.residual.residual_arcs.Goals as goal

pub returns : goal.returns
returns c =
    let m = c.args.model.now in
    let plan = c.args.carries.now in
    let first = c.in_ok-push.ensures.items ∙ ap (λ xs. xs ++ c.arc_at-probe.result ∷ []) c.new-arcs.ensures.items in
    arcs_are_residual m plan c.args.number c.args.less c.push.new.self.items c.push_units.new.arcs.items c.push_units-2.new.arcs.items c.arc_at-probe.result
    c.requires.number c.requires.long first c.arc_at-probe.ensures c.in_ok-push_units.ensures
    (c.in_ok-push_units-2.ensures
    ∙ ap (λ n. map arc_of_numbers c.push_units.new.arcs.items ++ slab c.args.number n m.routes plan) c.route_count-count.ensures.value)
