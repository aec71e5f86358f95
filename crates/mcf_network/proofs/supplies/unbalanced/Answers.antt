use Rattle.std.proofs.Common.{arith, pos, ◌<ℤ◌}
use Rattle.std.proofs.lemmas.Int.{ints}
use Rattle.mcf_network.specs.Chosen.{supply_total}
use Rattle.mcf_network.proofs.Choices.{chosen_send, chosen_take}
use Rattle.mcf_network.proofs.supplies.unbalanced.Goals as goal
use Rattle.mcf_network.proofs.supplies.unbalanced.Goals.{then-total-lt0, else-total-lt0}

pub returns-clause-block : goal.returns-clause-block
returns-clause-block c =
    let g = c.args.net.now in
    let total = c.supply_total-total.ensures.value in
    let ok = c.supply_total-total.ensures.of_net in
    let set = c.in_ok-set.ensures in
    let ne = c.if-total-eq0.false in
    elim c.if-total-lt0.branch [
      | then-total-lt0 w ↦ (let low : supply_total g <ℤ pos 0 = omega (arith, ints, total, w.if-total-lt0.true) in
          rw w.side-is (chosen_take g _ ok set.one_per_node set.all low))
      | else-total-lt0 w ↦ (let high : pos 0 <ℤ supply_total g = omega (arith, ints, total, w.if-total-lt0.false, ne) in
          rw w.side-is (chosen_send g _ ok set.one_per_node set.all high))
    ]
