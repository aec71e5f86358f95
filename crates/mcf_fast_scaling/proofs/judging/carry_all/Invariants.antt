use Rattle.std.proofs.Common.{◌≡◌}
use Rattle.mcf_network.specs.States.{IsPseudoflow}
use Rattle.mcf_fast_scaling.proofs.judging.carry_all.Given as goal

abbrev pub invariant-arcs : goal.invariant-arcs
invariant-arcs l = (l.state.net ≡ l.fn.state.net) × IsPseudoflow l.state
