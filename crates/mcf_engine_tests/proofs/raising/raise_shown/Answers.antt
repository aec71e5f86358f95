use Rattle.std.proofs.Common.{arith}
use Rattle.std.proofs.lemmas.Int.{ints}
use Rattle.mcf_engine_tests.proofs.raising.raise_shown.Goals as goal

pub raise-requires-clause-near : goal.raise-requires-clause-near
raise-requires-clause-near c =
    let greatest = c.requires.greatest in
    let valid = c.net-net.ensures.valid in
    let small = (c.greatest_prices_are_small.ensures c.args.state.now c.args.prices.now valid greatest).1 in
    c.shown_prices_are_near.ensures c.args.state.now c.args.prices.now valid greatest.low.one_per_node
    (λ i d l. let h = small i d l in (omega (arith, ints, h), omega (arith, ints, h))) greatest.low.show_flow
