use Rattle.std.proofs.Common.{◌≡◌, ◌+◌, arith, length, refl, rules, ◌∙◌}
use Rattle.mcf_flows.specs.Network.{IsNode}
use Rattle.mcf_flows.specs.Blocking.{in_table}
use Rattle.mcf_cancel.specs.Private.Queues.{queued}
use Rattle.mcf_cancel.proofs.QueueLaws.{queued_ok, queued_more}
use Rattle.mcf_cancel.proofs.queue.NodeQueue.all.Goals as goal

pub loop-number-preserved : goal.loop-number-preserved
loop-number-preserved c =
    let inv = c.loop-number.invariant in
    let value : c.insert.new.self ≡ queued c.loop-number.all (c.loop-number.number + 1) = search rules in
    let test = c.loop-number-test.true in
    let counted = c.node_count-number-end.ensures.value in
    let here : IsNode (length c.loop-number.all.table) (c.loop-number.number + 1) = (let t = inv.table in (omega arith, omega (arith, test, counted, t))) in
    let q = queued_ok c.loop-number.all (c.loop-number.number + 1) (in_table c.loop-number.all.table (c.loop-number.number + 1)) inv.valid here refl in
    record {
      valid = c.insert.ensures.valid;
      table = rw value (q.table ∙ inv.table);
      each = rw value (queued_more c.loop-number.all c.loop-number.number inv.valid here inv.each);
    }
