use Rattle.std.proofs.Common.{◌≡◌, ◌++◌, ◌∷◌, [], true, false, length, length-set, sym, subst, rules, arith, deque_len}
use Rattle.mcf_flows.specs.Blocking.{in_table}
use Rattle.mcf_flows.specs.Network.{IsNode}
use Rattle.mcf_scaling.specs.Private.Queues.{Waiting}
use Rattle.mcf_scaling.proofs.QueueLaws.{queue_push, queue_room}
use Rattle.mcf_scaling.proofs.queue.ActiveQueue.insert.Goals as goal

pub push_back_reserved-requires : goal.push_back_reserved-requires
push_back_reserved-requires c =
    let q : Waiting = record { table = c.self.inside.marks.items; nodes = c.self.inside.nodes.items } in
    let h : IsNode (length q.table) c.args.v = subst (λ (x : Waiting). IsNode (length x.table) c.args.v) (sym c.self.view_is) c.requires in
    let fresh : in_table q.table c.args.v ≡ false = search rules in
    let room = queue_room q c.args.v c.self.invariant.0 h fresh in
    let cap = c.self.invariant.1 in
    let len : deque_len c.self.inside.nodes ≡ length c.self.inside.nodes.items = search rules in
    omega (arith, room, cap, len)

pub invariant_of-self : goal.invariant_of-self
invariant_of-self c =
    let q : Waiting = record { table = c.self.inside.marks.items; nodes = c.self.inside.nodes.items } in
    let h : IsNode (length q.table) c.args.v = subst (λ (x : Waiting). IsNode (length x.table) c.args.v) (sym c.self.view_is) c.requires in
    let fresh : in_table q.table c.args.v ≡ false = search rules in
    let made = queue_push q c.args.v c.self.invariant.0 h fresh in
    let pushed : c.push_back_reserved.new.self.items ≡ q.nodes ++ c.args.v ∷ [] = search rules in
    let cap = c.self.invariant.1 in
    let still = c.push_back_reserved.ensures.capacity in
    (rw (pushed, c.place-i.ensures) made, omega (arith, cap, still, length-set c.self.inside.marks.items c.place-i.result true))

pub returns-then-not-index-clause-valid : goal.returns-then-not-index-clause-valid
returns-then-not-index-clause-valid c =
    let q : Waiting = record { table = c.self.inside.marks.items; nodes = c.self.inside.nodes.items } in
    let h : IsNode (length q.table) c.args.v = subst (λ (x : Waiting). IsNode (length x.table) c.args.v) (sym c.self.view_is) c.requires in
    let fresh : in_table q.table c.args.v ≡ false = search rules in
    let made = queue_push q c.args.v c.self.invariant.0 h fresh in
    let pushed : c.push_back_reserved.new.self.items ≡ q.nodes ++ c.args.v ∷ [] = search rules in
    rw (pushed, c.place-i.ensures) made
