use Rattle.std.proofs.Common.{rules, arith, ap, ◌∙◌, ◌≡◌, ◌-ℤ◌, ℤ, List}
use Rattle.std.specs.Int.{w128}
use Rattle.std.specs.Prelude.{FitsSigned}
use Rattle.std.proofs.lemmas.Int.{ints}
use Rattle.mcf_flows.specs.declared.arc.Arc.{Arc}
use Rattle.mcf_flows.specs.Blocking.{in_table, supply_in, low_leaving, cap_entering, must_take, can_take}
use Rattle.mcf_flows.proofs.Comparing.{less_than_difference}
use Rattle.mcf_flows.proofs.blocking.blocks_by_take.Goals as goal

pub returns-clause-exact : goal.returns-clause-exact
returns-clause-exact c =
    let g = c.args.instance.now in
    let set = in_table c.args.table.now in
    let b = c.border_of-border in
    let s = c.supply_within-supply in
    let fits : FitsSigned w128 b.result.cap_in = search rules in
    let can : b.result.cap_in ≡ can_take g set = b.ensures.cap_in ∙ ap (λ (arcs : List Arc). cap_entering arcs set) c.packed_arcs.ensures.value in
    let low : b.result.low_out ≡ low_leaving g.arcs set = b.ensures.low_out ∙ ap (λ (arcs : List Arc). low_leaving arcs set) c.packed_arcs.ensures.value in
    let supply : s.result ≡ supply_in g.supplies set = s.ensures.sum ∙ ap (λ (supplies : List ℤ). supply_in supplies set) c.packed_supplies.ensures.value in
    let must : b.result.low_out -ℤ s.result ≡ must_take g set = omega (arith, ints, low, supply) in
    less_than_difference b.result.cap_in s.result b.result.low_out (can_take g set) (must_take g set) fits s.ensures.small b.ensures.low_out_small can must
