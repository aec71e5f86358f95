-- What a net is answered with: a state without surplus, or a node set that blocks.
-- Source: own
use Rattle.mcf_flows.specs.Network.{Network}
use Rattle.mcf_network.specs.States.{IsFeasibleState}
use Rattle.mcf_feas.specs.declared.feas.Feas.{Feas}
use Rattle.mcf_feas.specs.declared.feas.Feas.TheVariants.{Flow as WithFlow, Blocked}
use Rattle.mcf_network.specs.Chosen.{IsChosenBlock}

-- what the net is answered with
abbrev pub IsFeas : Network → Feas → Type 0
IsFeas g (WithFlow s) = IsFeasibleState g s
IsFeas g (Blocked table side) = IsChosenBlock g table side
