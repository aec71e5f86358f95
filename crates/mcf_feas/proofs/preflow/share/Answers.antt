use Rattle.std.proofs.Common.{◌≡◌, ap, arith, pos, ◌<ℤ◌, ◌∙◌}
use Rattle.std.proofs.lemmas.Int.{clamps, ints}
use Rattle.mcf_flows.specs.Network.{Network}
use Rattle.mcf_network.specs.Residual.{tail}
use Rattle.mcf_network.specs.States.{surplus_at}
use Rattle.mcf_network.proofs.StateLaws.{rid}
use Rattle.mcf_feas.proofs.preflow.share.Goals as goal

pub returns-then-surplus-lt0-clause-low : goal.returns-then-surplus-lt0-clause-low
returns-then-surplus-lt0-clause-low c =
    let s = c.args.state.now in
    let r = rid c.args.arc c.args.back in
    let from : c.route-from.result.0 ≡ tail s.net r = c.route-from.ensures.tail ∙ ap (λ (g : Network). tail g r) c.net.ensures.value in
    let at = ap (surplus_at s) from in
    let some : pos 0 <ℤ surplus_at s (tail s.net r) = c.requires.some in
    omega (
      arith,
      ints,
      clamps,
      c.min.ensures.value,
      c.min-most.ensures.value,
      c.surplus.ensures.value,
      at,
      some,
      c.room.ensures.low,
      c.surplus-surplus.ensures.small,
      c.if-surplus-lt0.true,
    )

pub returns-then-surplus-lt0-clause-held : goal.returns-then-surplus-lt0-clause-held
returns-then-surplus-lt0-clause-held c =
    let s = c.args.state.now in
    let r = rid c.args.arc c.args.back in
    let from : c.route-from.result.0 ≡ tail s.net r = c.route-from.ensures.tail ∙ ap (λ (g : Network). tail g r) c.net.ensures.value in
    let at = ap (surplus_at s) from in
    omega (arith, ints, clamps, c.min.ensures.self_bound, c.min-most.ensures.self_bound, c.surplus.ensures.value, at)
