use Rattle.std.proofs.Common.{◌≡◌, drop}
use Rattle.mcf_network.specs.States.{IsPseudoflow}
use Rattle.mcf_network.specs.Walks.{CanPushAlong, pushed_along}
use Rattle.mcf_network.proofs.walk.push_along.Given as goal

abbrev pub invariant-loop-r : goal.invariant-loop-r
invariant-loop-r l =
    record {
      flow : IsPseudoflow l.state;
      rest : pushed_along l.state (drop l.r-index l.walk) l.fn.amount ≡ pushed_along l.fn.state l.walk l.fn.amount;
      can : CanPushAlong l.state (drop l.r-index l.walk) l.fn.amount;
      start : IsPseudoflow l.fn.state;
    }
