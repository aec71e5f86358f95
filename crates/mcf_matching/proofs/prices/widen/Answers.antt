use Rattle.std.proofs.Common.{arith, pos}
use Rattle.std.proofs.lemmas.List.{ext_get_or}
use Rattle.mcf_matching.proofs.prices.widen.Goals as goal

pub returns : goal.returns
returns g c =
    let past = c.nodes-test.false in
    let count = c.nodes.invariant.count in
    ext_get_or (pos 0) c.nodes.wide c.args.prices.now count (λ i l. c.nodes.invariant.before i (omega (arith, past, count, l)))

pub offset_bounds-prices-i : goal.offset_bounds-prices-i
offset_bounds-prices-i g c = omega (arith, c.nodes-test.true)
