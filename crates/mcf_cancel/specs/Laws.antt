-- A law of least states.
-- Source: AMO 9.3
use Rattle.std.specs.Prelude.{List}
use Rattle.mcf_flows.specs.Network.{Network}
use Rattle.mcf_network.specs.declared.rid.Rid.{Rid}
use Rattle.mcf_network.specs.States.{Pseudoflow}
use Rattle.mcf_engine.specs.NegativeCycles.{IsNegativeCycle}
use Rattle.mcf_engine.specs.Outcomes.{IsLeastState}

-- a least state has no negative cycle, along which it would get cheaper
abbrev pub LeastStatesHaveNoCycle : Type 0
LeastStatesHaveNoCycle = (g : Network) (s : Pseudoflow) (walk : List Rid) → IsLeastState g s → ¬ IsNegativeCycle s walk
