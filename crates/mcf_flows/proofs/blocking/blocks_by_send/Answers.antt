use Rattle.std.proofs.Common.{rules, ap, ◌∙◌, ◌≡◌, ◌+ℤ◌, ℤ, List}
use Rattle.std.specs.Int.{w128}
use Rattle.std.specs.Prelude.{FitsSigned}
use Rattle.mcf_flows.specs.declared.arc.Arc.{Arc}
use Rattle.mcf_flows.specs.Blocking.{in_table, supply_in, low_entering, cap_leaving, must_send, can_send}
use Rattle.mcf_flows.proofs.Comparing.{less_than_sum}
use Rattle.mcf_flows.proofs.blocking.blocks_by_send.Goals as goal

pub returns-clause-exact : goal.returns-clause-exact
returns-clause-exact c =
    let g = c.args.instance.now in
    let set = in_table c.args.table.now in
    let b = c.border_of-border in
    let s = c.supply_within-supply in
    let fits : FitsSigned w128 b.result.cap_out = search rules in
    let can : b.result.cap_out ≡ can_send g set = b.ensures.cap_out ∙ ap (λ (arcs : List Arc). cap_leaving arcs set) c.packed_arcs.ensures.value in
    let low : b.result.low_in ≡ low_entering g.arcs set = b.ensures.low_in ∙ ap (λ (arcs : List Arc). low_entering arcs set) c.packed_arcs.ensures.value in
    let supply : s.result ≡ supply_in g.supplies set = s.ensures.sum ∙ ap (λ (supplies : List ℤ). supply_in supplies set) c.packed_supplies.ensures.value in
    less_than_sum b.result.cap_out s.result b.result.low_in (can_send g set) (must_send g set) fits s.ensures.small b.ensures.low_in_small can
    (ap (λ z. z +ℤ b.result.low_in) supply ∙ ap (λ z. supply_in g.supplies set +ℤ z) low)
