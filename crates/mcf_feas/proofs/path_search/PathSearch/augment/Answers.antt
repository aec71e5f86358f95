use Rattle.std.proofs.Common.{◌≡◌, ◌∙◌, ◌-◌, length, ap, rules, to_z, of_z}
use mir.Syntax.{w128}
use Rattle.std.proofs.lemmas.Int.{to_z-of_z}
use Rattle.mcf_network.specs.States.{Pseudoflow}
use Rattle.mcf_network.specs.Walks.{IsWalk}
use Rattle.mcf_feas.specs.Private.Searching.{node_at}
use Rattle.mcf_network.proofs.WalkLaws.{along_net}
use Rattle.mcf_feas.proofs.path_search.PathSearch.augment.Goals as goal

pub returns-clause-augmented : goal.returns-clause-augmented
returns-clause-augmented c =
    let path = c.in_ok-amount.ensures.path in
    let push = c.push_along.ensures in
    let same : to_z w128 (of_z w128 c.in_ok-amount.amount) ≡ c.in_ok-amount.amount = search (rules, to_z-of_z) in
    let target = node_at c.deref.result.now (length c.deref.result.now - 1) in
    let walk : IsWalk c.args.state.now.net path.source c.deref-2.result.now target = rw c.deref-2.ensures.value path.walk in
    record {
      net = ap (λ (s : Pseudoflow). s.net) push.value ∙ along_net c.args.state.now c.deref-2.result.now (to_z w128 (of_z w128 c.in_ok-amount.amount));
      flow = push.valid;
      source = path.source;
      target = target;
      amount = c.in_ok-amount.amount;
      is_node = path.is_node;
      positive = path.positive;
      held = path.held;
      taken = path.taken;
      moves = rw same at (push.surpluses path.source target walk);
      path = c.deref-2.result.now;
      walk = walk;
      pushed = rw same at push.value;
      most = rw c.deref-2.ensures.value path.most;
    }
