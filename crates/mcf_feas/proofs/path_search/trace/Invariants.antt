use Rattle.std.proofs.Common.{◌-◌, length}
use Rattle.std.specs.Prelude.{reverse}
use Rattle.mcf_feas.specs.Private.Searching.{node_at}
use Rattle.mcf_feas.proofs.Traces.{IsTrace}
use Rattle.mcf_feas.proofs.path_search.trace.Given as goal

abbrev pub invariant-loop-place : goal.invariant-loop-place
invariant-loop-place l =
    IsTrace l.state l.visits l.place (reverse l.path.items) (node_at l.visits (length l.visits - 1)) l.amount

abbrev pub decreases-loop-place : goal.decreases-loop-place
decreases-loop-place l = l.place
