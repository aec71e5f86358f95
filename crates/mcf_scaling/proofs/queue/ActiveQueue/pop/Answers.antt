use Rattle.std.proofs.Common.{ℕ, false, set, length-set, sym, subst, arith}
use Rattle.mcf_scaling.specs.Private.Queues.{Waiting, IsQueue}
use Rattle.mcf_scaling.proofs.QueueLaws.{popped}
use Rattle.mcf_scaling.proofs.queue.ActiveQueue.pop.Goals as goal

pub invariant_of-self-2 : goal.invariant_of-self-2
invariant_of-self-2 c =
    let q : Waiting = record { table = c.self.inside.marks.items; nodes = c.self.inside.nodes.items } in
    let made = popped q c.in_ok-first.first c.pop_front.new.self.items c.self.invariant.0 c.in_ok-first.ensures.items in
    let cap = c.self.invariant.1 in
    let still = c.pop_front.ensures.capacity in (
      subst (λ (i : ℕ). IsQueue (record { table = set q.table i false; nodes = c.pop_front.new.self.items })) (sym c.place.ensures) made,
      omega
          (arith, cap, still, length-set q.table c.place.result false),
    )

pub returns-clause-valid : goal.returns-clause-valid
returns-clause-valid c =
    let q : Waiting = record { table = c.self.inside.marks.items; nodes = c.self.inside.nodes.items } in
    let made = popped q c.in_ok-first.first c.pop_front.new.self.items c.self.invariant.0 c.in_ok-first.ensures.items in
    subst (λ (i : ℕ). IsQueue (record { table = set q.table i false; nodes = c.pop_front.new.self.items })) (sym c.place.ensures) made
