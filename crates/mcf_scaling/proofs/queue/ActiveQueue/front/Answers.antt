use Rattle.std.proofs.Common.{◌≡◌, length, refl, rules, arith, deque_len}
use Rattle.mcf_scaling.specs.Private.Queues.{Waiting}
use Rattle.mcf_scaling.proofs.QueueLaws.{first_waits}
use Rattle.mcf_scaling.proofs.queue.ActiveQueue.front.Goals as goal

pub returns-clause-some : goal.returns-clause-some
returns-clause-some c =
    let q : Waiting = record { table = c.self.inside.marks.items; nodes = c.self.inside.nodes.items } in
    let len : deque_len c.self.inside.nodes ≡ length c.self.inside.nodes.items = search rules in
    let some = c.in_ok-first.ensures.variant.0 refl in
    first_waits q c.args.self.now c.in_ok-first.first.now c.self.view_is (omega (arith, some, len)) c.in_ok-first.ensures.lookup
