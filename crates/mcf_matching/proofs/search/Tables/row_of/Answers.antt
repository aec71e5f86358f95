use Rattle.std.proofs.Common.{arith}
use Rattle.std.proofs.lemmas.Int.{ints}
use Rattle.mcf_matching.specs.Private.Searches.{search_of}
use Rattle.mcf_matching.proofs.Raising.{dist_read, price_read}
use Rattle.mcf_matching.proofs.Relaxing.{base_fits, ready_search, row_read}
use Rattle.mcf_matching.proofs.search.Tables.row_of.Goals as goal

pub index-requires : goal.index-requires
index-requires g c =
    let (source, ready) = c.requires.ready in
    let searched = ready_search ready in
    let count = searched.entries.dist_count in
    let node = ready.is_row.0 in
    omega (arith, c.place-i.ensures, node, count, c.args.self.now.dists.ok.0)

pub minus-base-requires : goal.minus-base-requires
minus-base-requires g c =
    let (source, ready) = c.requires.ready in
    let fits = base_fits c.requires.scene ready in
    let count = (ready_search ready).entries.dist_count in
    let prices = c.requires.scene.prices.count in
    let node = ready.is_row.0 in
    let dist = dist_read (search_of c.args.self.now) c.args.id c.place-i.result c.index.result.now c.index.ensures c.place-i.ensures (omega (arith, node, count)) in
    let price = price_read c.args.scene.now.prices.now c.args.id c.place-i.result c.index-scene-i.result c.index-scene-i.is c.place-i.ensures (omega (arith, node, prices)) in
    (omega (arith, ints, c.index-scene-i.is, dist, price, fits), omega (arith, ints, c.index-scene-i.is, dist, price, fits))

pub returns-clause-row : goal.returns-clause-row
returns-clause-row g c =
    let (source, ready) = c.requires.ready in
    let count = (ready_search ready).entries.dist_count in
    let prices = c.requires.scene.prices.count in
    let node = ready.is_row.0 in
    let dist = dist_read (search_of c.args.self.now) c.args.id c.place-i.result c.index.result.now c.index.ensures c.place-i.ensures (omega (arith, node, count)) in
    let price = price_read c.args.scene.now.prices.now c.args.id c.place-i.result c.index-scene-i.result c.index-scene-i.is c.place-i.ensures (omega (arith, node, prices)) in
    let base = c.minus-base.ensures in
    row_read c.args.scene.now.state.now _ c.args.scene.now.rows.now c.args.scene.now.prices.now c.args.scene.now.mates.now (search_of c.args.self.now) source
    c.args.self.now.order.items _ c.requires.scene ready (omega (arith, ints, base, c.index-scene-i.is, dist, price))
