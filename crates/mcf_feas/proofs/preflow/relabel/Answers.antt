use Rattle.std.proofs.lemmas.List.Elements.{All-tail}
use Rattle.mcf_network.specs.Stars.{Leaves}
use Rattle.mcf_feas.proofs.preflow.relabel.Goals as goal

pub arcs-preserved : goal.arcs-preserved
arcs-preserved c =
    record {
      can_next = tt;
      is_finite = tt;
      leaves = All-tail (Leaves c.args.state.now.net c.args.node) c.in-Some.along c.next.new.self (rw c.in-Some.ensures.steps at c.arcs.invariant.leaves);
    }
