use Rattle.mcf_network.proofs.RemovalLaws.{AreStored, IsLeft}
use Rattle.mcf_network.proofs.removal.arcs_without_lows.Given as goal

abbrev pub invariant-loop-i : goal.invariant-loop-i
invariant-loop-i l =
    record {
      are_stored : AreStored l.instance l.i l.links.items l.widths.items;
      left_are : IsLeft l.instance l.i l.left.items;
    }
