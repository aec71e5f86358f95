use Rattle.std.proofs.Common.{subst}
use Rattle.mcf_model.specs.Arcs.{network_of, reach_of}
use Rattle.mcf_model.specs.Planning.{IsSolved}
use Rattle.mcf_model.proofs.Planners.{no_plan}
use Rattle.mcf_model.proofs.planning.answered.Goals as goal

pub returns-in-Blocked-clause-planned : goal.returns-in-Blocked-clause-planned
returns-in-Blocked-clause-planned c =
    let m = c.args.model.now in
    no_plan m c.in-Blocked.found c.requires.proper c.requires.within (subst (IsSolved (network_of (reach_of m) m)) c.in-Blocked.is c.requires.solved)
