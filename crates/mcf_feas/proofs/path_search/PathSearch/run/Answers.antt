use Rattle.std.proofs.Common.{arith}
use Rattle.mcf_feas.proofs.Searches.{stuck_at}
use Rattle.mcf_feas.proofs.path_search.PathSearch.run.Goals as goal

pub returns-clause-found : goal.returns-clause-found
returns-clause-found c =
    let ok = c.loop-scanned.invariant in
    stuck_at c.args.state.now c.loop-scanned.self.reached c.loop-scanned.self.visits.items c.loop-scanned.scanned c.requires.flow ok.scanned
    (omega arith) ok.some
