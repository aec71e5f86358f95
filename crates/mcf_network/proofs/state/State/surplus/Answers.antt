use Rattle.std.proofs.Common.{arith}
use Rattle.std.proofs.lemmas.Int.{ints}
use Rattle.mcf_network.specs.Private.StoredAmounts.{amounts_in}
use Rattle.mcf_network.proofs.StateLaws.{read_surplus}
use Rattle.mcf_network.proofs.state.State.surplus.Goals as goal

pub returns-clause-small : goal.returns-clause-small
returns-clause-small c =
    let s = c.self.inside in
    let x = read_surplus c.args.self.now s.net.now (amounts_in s.amounts) s.surpluses.items c.args.v c.index.result.now c.self.view_is c.self.invariant.0 c.requires
    (rw (← c.place.ensures) c.index.ensures) in
    omega (arith, ints, x.small)
