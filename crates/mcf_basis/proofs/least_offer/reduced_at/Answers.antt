use Rattle.std.proofs.Common.{arith}
use Rattle.std.proofs.lemmas.Int.{ints}
use Rattle.mcf_basis.proofs.LeastOffers.{read_at}
use Rattle.mcf_basis.proofs.least_offer.reduced_at.Goals as goal

pub minus-requires : goal.minus-requires
minus-requires g c =
    let r = read_at c.args.prices.now g.W.Width.room c.args.offers.now c.args.i g.met.W.Width.least_room c.requires.compare c.requires.place in
    let from = r.from _ c.index-prices-offer.is in
    let cost = c.of.ensures in
    let fits = r.less_from in
    (omega (arith, ints, cost, from, fits), omega (arith, ints, cost, from, fits))

pub plus-requires : goal.plus-requires
plus-requires g c =
    let r = read_at c.args.prices.now g.W.Width.room c.args.offers.now c.args.i g.met.W.Width.least_room c.requires.compare c.requires.place in
    let from = r.from _ c.index-prices-offer.is in
    let to = r.to _ c.index-prices-offer-2.is in
    let cost = c.of.ensures in
    let less = c.minus.ensures in
    let fits = r.reduced in
    (omega (arith, ints, less, cost, from, to, fits), omega (arith, ints, less, cost, from, to, fits))

pub returns : goal.returns
returns g c =
    let r = read_at c.args.prices.now g.W.Width.room c.args.offers.now c.args.i g.met.W.Width.least_room c.requires.compare c.requires.place in
    let from = r.from _ c.index-prices-offer.is in
    let to = r.to _ c.index-prices-offer-2.is in
    let cost = c.of.ensures in
    let less = c.minus.ensures in
    let sum = c.plus.ensures in
    omega (arith, ints, sum, less, cost, from, to)
