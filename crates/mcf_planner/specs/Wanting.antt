-- The networks for which a planner may fail to allocate memory.
-- Source: own
use Rattle.std.specs.Prelude.{◌≡◌, ◌≤◌, ◌⊎◌}
use Rattle.mcf_choice.specs.declared.choice.Choice.{Choice}
use Rattle.mcf_choice.specs.declared.choice.EngineChoice.TheVariants.{Simplex}
use Rattle.mcf_flows.specs.Network.{Network, node_count}
use Rattle.mcf_solver.specs.Making.{meant}

-- there are nodes, or the choice means the simplex, whose initial basis has a root even without
-- nodes
abbrev pub MayWant : Choice → Network → Type 0
MayWant choice g = (1 ≤ node_count g) ⊎ (meant choice.engine g.problem ≡ meant Simplex g.problem)
