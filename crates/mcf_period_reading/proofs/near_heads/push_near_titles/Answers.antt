use Rattle.std.proofs.Common.{arith}
use Rattle.mcf_period_reading.specs.NearHeads.{near_fault}
use Rattle.mcf_reading.proofs.Ranges.{pushed}
use Rattle.mcf_period_reading.proofs.near_heads.push_near_titles.Goals as goal

pub loop-place-preserved : goal.loop-place-preserved
loop-place-preserved c =
    let place = c.loop-place.place in
    pushed (near_fault c.args.table c.args.records.now) 0 place place c.args.faults.now.items c.loop-place.faults.items
    c.push_near_fault.new.faults.items (omega arith) c.loop-place.invariant c.in_ok-push_near_fault.ensures
