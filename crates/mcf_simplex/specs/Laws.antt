-- Laws of runs.
-- Source: AMO 11.5
use Rattle.std.specs.Prelude.{ℕ, Option}
use Rattle.mcf_flows.specs.Network.{Network}
use Rattle.mcf_network.specs.Nets.{IsNet}
use Rattle.mcf_network.specs.States.{Pseudoflow}
use Rattle.mcf_network.specs.TreeSolutions.{IsTreeSolution}
use Rattle.mcf_basis.specs.Structures.{TreeStructure}
use Rattle.mcf_simplex.specs.Runs.{IsMadeByRun, RuleState}

-- the amounts of a state that was made by a run are a tree solution
abbrev pub RunsAreTreeSolutions : {R : Type 0} (Picks : R → TreeStructure → Option ℕ → R → Type 0) → Type 0
RunsAreTreeSolutions {R} Picks =
    (old : RuleState R) (g : Network) (s : Pseudoflow) (new : RuleState R) → IsNet g → IsMadeByRun Picks old g s new → IsTreeSolution g s.amounts
