use Rattle.std.proofs.lemmas.List.Elements.{All-tail}
use Rattle.mcf_network.specs.Stars.{Leaves}
use Rattle.mcf_feas.proofs.Excess.{pushed_more}
use Rattle.mcf_feas.proofs.preflow.push_down.Goals as goal

pub arcs-preserved : goal.arcs-preserved
arcs-preserved c =
    let old = c.arcs.invariant in
    record {
      can_next = tt;
      is_finite = tt;
      pushed = pushed_more c.args.state.now c.arcs.state c.push_share.new.state old.pushed c.push_share.ensures;
      leaves = All-tail (Leaves c.args.state.now.net c.args.from) c.in-Some.along c.next.new.self (rw c.in-Some.ensures.steps at old.leaves);
    }

pub arcs-preserved-then-other-level : goal.arcs-preserved-then-other-level
arcs-preserved-then-other-level c =
    let old = c.arcs.invariant in
    record {
      can_next = tt;
      is_finite = tt;
      pushed = old.pushed;
      leaves = All-tail (Leaves c.args.state.now.net c.args.from) c.in-Some.along c.next.new.self (rw c.in-Some.ensures.steps at old.leaves);
    }

pub returns-then-push_share : goal.returns-then-push_share
returns-then-push_share c =
    pushed_more c.args.state.now c.arcs.state c.push_share.new.state c.arcs.invariant.pushed c.push_share.ensures
