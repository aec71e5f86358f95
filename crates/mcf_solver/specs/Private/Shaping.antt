-- Flows and the shape of those of the engine that is meant.
use Rattle.std.specs.Prelude.{Result}
use Rattle.mcf_answer.specs.declared.answers.Answer.{Answer}
use Rattle.mcf_flows.specs.Codes.{Fault}
use Rattle.mcf_flows.specs.Network.{Network}
use Rattle.mcf_solver.specs.Making.{HasMadeFlow, HasShapedFlow, IsMadeBy}
use Rattle.mcf_choice.specs.declared.choice.Choice.{Choice}

-- a flow that was made as a choice means has the shape that the choice means
abbrev pub MadeFlowsAreShaped : Type 0
MadeFlowsAreShaped =
    (choice : Choice) (read : Result Network Fault) (a : Answer) → HasMadeFlow (IsMadeBy choice) read a → HasShapedFlow choice read a
