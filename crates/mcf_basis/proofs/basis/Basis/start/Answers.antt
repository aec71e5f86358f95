use Rattle.mcf_basis.specs.Private.Climbs.{laid}
use Rattle.mcf_basis.proofs.StarBases.{IsStarStored, star_laid_out, star_starts}
use Rattle.mcf_basis.proofs.basis.Basis.start.Goals as goal

-- the star, as it is stored
stored : (c : goal.After-zero) → IsStarStored (laid c.args.net.now c.in_ok-tree.tree c.in_ok-offers.offers.items c.in_ok-residuals.residuals.items c.in_ok-residuals.artificial.items
    c.in_ok-table.table c.zero.result.number)
stored c =
    let tree = rw (c.node_count.ensures.value, c.arc_count.ensures.value) at c.in_ok-tree.ensures in
    record {
      of_net = c.node_count.ensures.of_net;
      star = tree.0;
      spanning = tree.1;
      offers = c.in_ok-offers.ensures;
      residuals = c.in_ok-residuals.ensures.residuals;
      artificial = c.in_ok-residuals.ensures.amounts;
      table = c.in_ok-table.ensures;
      no_pivots = c.zero.ensures;
    }

pub invariant_of-result : goal.invariant_of-result
invariant_of-result c = star_laid_out _ (stored c)

pub returns : goal.returns
returns c = star_starts _ (stored c)
