use Rattle.std.proofs.Common.{arith}
use Rattle.std.proofs.lemmas.List.{take_all}
use Rattle.mcf_basis.proofs.TurnedResiduals.{can_raise_at}
use Rattle.mcf_basis.proofs.reprice.reprice.Goals as goal

pub bounds-entries-place : goal.bounds-entries-place
bounds-entries-place g c =
    rw c.entries.ensures (can_raise_at g.W.Width.room g.met.W.Width.least_room c.requires c.part.invariant.raised c.part-test.true c.v-item.is c.get-place.ensures).in_range

pub plus-price-requires : goal.plus-price-requires
plus-price-requires g c =
    (can_raise_at g.W.Width.room g.met.W.Width.least_room c.requires c.part.invariant.raised c.part-test.true c.v-item.is c.get-place.ensures).sum _
    (rw c.entries.ensures at c.index-entries-place.is)

pub write-requires : goal.write-requires
write-requires g c =
    (can_raise_at g.W.Width.room g.met.W.Width.least_room c.requires c.part.invariant.raised c.part-test.true c.v-item.is c.get-place.ensures).in_range

pub part-preserved : goal.part-preserved
part-preserved g c =
    let counted = c.part.invariant.counted in
    rw c.write.ensures (record {
      raised = (can_raise_at g.W.Width.room g.met.W.Width.least_room c.requires c.part.invariant.raised c.part-test.true c.v-item.is c.get-place.ensures).step
          _ _ (rw c.entries.ensures at c.index-entries-place.is) c.plus-price.ensures;
      counted = omega (arith, counted);
    })

pub returns-clause-prices : goal.returns-clause-prices
returns-clause-prices g c =
    let all = take_all c.part.v-index c.args.part.now (omega (arith, c.part-test.false)) in
    record { size = c.part.invariant.raised.size; each = rw all at c.part.invariant.raised.done }
