use Rattle.std.proofs.lemmas.List.Elements.{All-tail}
use Rattle.mcf_network.specs.Stars.{Leaves}
use Rattle.mcf_feas.proofs.levels.level_tails.Goals as goal

pub tails-preserved-then-is_unused : goal.tails-preserved-then-is_unused
tails-preserved-then-is_unused c =
    record {
      can_next = tt;
      is_finite = tt;
      leaves = All-tail (Leaves c.args.state.now.net c.args.node) c.in-Some.along c.next.new.self (rw c.in-Some.ensures.steps at c.tails.invariant.leaves);
    }

pub tails-preserved-then-levels-place : goal.tails-preserved-then-levels-place
tails-preserved-then-levels-place c =
    record {
      can_next = tt;
      is_finite = tt;
      leaves = All-tail (Leaves c.args.state.now.net c.args.node) c.in-Some.along c.next.new.self (rw c.in-Some.ensures.steps at c.tails.invariant.leaves);
    }

pub tails-preserved-then-room-le0 : goal.tails-preserved-then-room-le0
tails-preserved-then-room-le0 c =
    record {
      can_next = tt;
      is_finite = tt;
      leaves = All-tail (Leaves c.args.state.now.net c.args.node) c.in-Some.along c.next.new.self (rw c.in-Some.ensures.steps at c.tails.invariant.leaves);
    }

pub tails-preserved : goal.tails-preserved
tails-preserved c =
    record {
      can_next = tt;
      is_finite = tt;
      leaves = All-tail (Leaves c.args.state.now.net c.args.node) c.in-Some.along c.next.new.self (rw c.in-Some.ensures.steps at c.tails.invariant.leaves);
    }
