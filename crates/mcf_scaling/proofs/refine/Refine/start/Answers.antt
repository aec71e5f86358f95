use Rattle.std.proofs.Common.{◌≡◌, subst, rules, pos, replicate}
use Rattle.mcf_flows.specs.Network.{Network, node_count}
use Rattle.mcf_scaling.proofs.CurrentLaws.{all_current}
use Rattle.mcf_scaling.proofs.QueueLaws.{start_queue}
use Rattle.mcf_scaling.proofs.Methods.{start_made}
use Rattle.mcf_scaling.specs.Scales.{ArePhases}
use Rattle.mcf_scaling.proofs.refine.Refine.start.Goals as goal

pub invariant_of-result : goal.invariant_of-result
invariant_of-result c =
    let phases = subst (λ (g : Network). ArePhases g c.first_scale-scale.result) c.net-2.ensures.value c.first_scale-scale.ensures.value in
    let prices : c.in_ok-prices.prices.items ≡ replicate (node_count c.args.state.net) (pos 0) = search rules in
    let before : c.in_ok-before.before.items ≡ replicate (node_count c.args.state.net) (pos 0) = search rules in
    let made = c.in_ok-star.ensures in (
      start_made c.args.state c.first_scale-scale.result c.in_ok-prices.prices.items c.in_ok-before.before.items c.none.result c.requires prices before phases
          c.first_scale-scale.ensures.small,
      all_current c.args.state c.in_ok-prices.prices.items c.in_ok-star.star c.in_ok-star.current_arcs.items made.star made.firsts,
      start_queue c.args.state c.in_ok-star.queue c.requires.flow c.requires.no_surplus made.queue,
      made.star,
      made.marks,
      made.positions,
    )

pub returns-clause-valid : goal.returns-clause-valid
returns-clause-valid c =
    let phases = subst (λ (g : Network). ArePhases g c.first_scale-scale.result) c.net-2.ensures.value c.first_scale-scale.ensures.value in
    let prices : c.in_ok-prices.prices.items ≡ replicate (node_count c.args.state.net) (pos 0) = search rules in
    let before : c.in_ok-before.before.items ≡ replicate (node_count c.args.state.net) (pos 0) = search rules in
    start_made c.args.state c.first_scale-scale.result c.in_ok-prices.prices.items c.in_ok-before.before.items c.none.result c.requires prices before phases
    c.first_scale-scale.ensures.small
