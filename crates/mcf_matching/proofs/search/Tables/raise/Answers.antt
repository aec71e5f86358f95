use Rattle.std.proofs.Common.{arith}
use Rattle.std.proofs.lemmas.Int.{ints}
use Rattle.mcf_matching.specs.Private.Searches.{search_of}
use Rattle.mcf_matching.proofs.Raising.{all_raised, none_raised, one_raised, price_read, rising}
use Rattle.mcf_matching.proofs.search.Tables.raise.Goals as goal

pub nodes-init : goal.nodes-init
nodes-init g c = none_raised (search_of c.args.self.now) c.args.target c.args.prices.now c.args.self.now.order.items c.requires.listing

pub returns : goal.returns
returns g c =
    let past = rw c.as_slice-v-items.ensures.value at c.nodes-test.false in
    record {
      raised = λ s n. all_raised (search_of c.args.self.now) c.args.target c.args.prices.now c.nodes.prices c.args.self.now.order.items
          c.nodes.v-index c.nodes.invariant (omega (arith, past)) s n;
    }

pub minus-rise-requires : goal.minus-rise-requires
minus-rise-requires g c =
    (rising c.v-item.result c.place-i.result c.index.result.now c.requires.entries c.requires.listing c.nodes.invariant c.requires.rises
    (rw c.as_slice-v-items.ensures.value at c.nodes-test.true) (rw c.as_slice-v-items.ensures.value at c.v-item.is) c.index.ensures c.place-i.ensures).can.0

pub plus-requires : goal.plus-requires
plus-requires g c =
    let r = rising c.v-item.result c.place-i.result c.index.result.now c.requires.entries c.requires.listing c.nodes.invariant c.requires.rises
    (rw c.as_slice-v-items.ensures.value at c.nodes-test.true) (rw c.as_slice-v-items.ensures.value at c.v-item.is) c.index.ensures c.place-i.ensures in
    let node = r.node in
    let price = price_read c.nodes.prices c.v-item.result c.place-i.result c.index-prices-i.result c.index-prices-i.is c.place-i.ensures (omega (arith, node)) in
    let can = r.can.1 in
    let rise = c.minus-rise.ensures in
    (omega (arith, ints, c.index-prices-i.is, price, can, rise), omega (arith, ints, c.index-prices-i.is, price, can, rise))

pub nodes-preserved : goal.nodes-preserved
nodes-preserved g c =
    let r = rising c.v-item.result c.place-i.result c.index.result.now c.requires.entries c.requires.listing c.nodes.invariant c.requires.rises
    (rw c.as_slice-v-items.ensures.value at c.nodes-test.true) (rw c.as_slice-v-items.ensures.value at c.v-item.is) c.index.ensures c.place-i.ensures in
    let node = r.node in
    let is = r.is in
    let price = price_read c.nodes.prices c.v-item.result c.place-i.result c.index-prices-i.result c.index-prices-i.is c.place-i.ensures (omega (arith, node)) in
    let rise = c.minus-rise.ensures in
    let sum = c.plus.ensures in
    one_raised (search_of c.args.self.now) c.args.target c.args.prices.now c.nodes.prices c.args.self.now.order.items c.nodes.v-index
    c.v-item.result c.place-i.result _ c.requires.listing c.nodes.invariant
    (rw c.as_slice-v-items.ensures.value at c.nodes-test.true) (rw c.as_slice-v-items.ensures.value at c.v-item.is) c.place-i.ensures (omega (arith, ints, sum, price, rise, is))

pub index-requires : goal.index-requires
index-requires g c =
    let node = c.requires.listing.each c.nodes.v-index c.v-item.result (rw c.as_slice-v-items.ensures.value at c.nodes-test.true) in
    let at = rw c.as_slice-v-items.ensures.value at c.v-item.is in
    omega (arith, node, at, c.place-i.ensures, c.requires.entries.dist_count, c.args.self.now.dists.ok.0)

pub bounds-prices-i : goal.bounds-prices-i
bounds-prices-i g c =
    let node = c.requires.listing.each c.nodes.v-index c.v-item.result (rw c.as_slice-v-items.ensures.value at c.nodes-test.true) in
    let at = rw c.as_slice-v-items.ensures.value at c.v-item.is in
    omega (arith, node, at, c.place-i.ensures, c.nodes.auto.prices)
