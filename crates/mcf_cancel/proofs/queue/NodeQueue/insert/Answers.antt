use Rattle.std.proofs.Common.{◌≡◌, ◌++◌, ◌∷◌, [], sym, rules, false, length, subst}
use Rattle.mcf_flows.specs.Network.{IsNode}
use Rattle.mcf_flows.specs.Blocking.{in_table}
use Rattle.mcf_cancel.specs.Private.Queues.{Waiting}
use Rattle.mcf_cancel.proofs.QueueLaws.{push_ok}
use Rattle.mcf_cancel.proofs.queue.NodeQueue.insert.Goals as goal

pub invariant_of-self-then-not-contains : goal.invariant_of-self-then-not-contains
invariant_of-self-then-not-contains c =
    let q : Waiting = record { table = c.self.inside.marks; nodes = c.self.inside.nodes.items } in
    let h : IsNode (length q.table) c.args.v = subst (λ (x : Waiting). IsNode (length x.table) c.args.v) (sym c.self.view_is) c.requires in
    let pushed : c.push.new.self.items ≡ q.nodes ++ c.args.v ∷ [] = search rules in
    let fresh : in_table q.table c.args.v ≡ false = search rules in
    rw (pushed, c.insert.ensures) (push_ok q c.args.v c.self.invariant h fresh)

pub returns-in_ok-push-clause-valid : goal.returns-in_ok-push-clause-valid
returns-in_ok-push-clause-valid c = invariant_of-self-then-not-contains c
