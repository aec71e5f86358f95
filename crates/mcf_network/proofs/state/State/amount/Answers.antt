use Rattle.std.proofs.Common.{arith}
use Rattle.std.proofs.lemmas.Int.{ints}
use Rattle.mcf_network.specs.Private.StoredAmounts.{amounts_in}
use Rattle.mcf_network.proofs.ArcLaws.{amount_in_range, read_amount}
use Rattle.mcf_network.proofs.state.State.amount.Goals as goal

pub get-requires : goal.get-requires
get-requires c =
    omega (
      arith,
      c.place.ensures,
      amount_in_range c.args.self.now c.self.inside.net.now (amounts_in c.self.inside.amounts) c.args.k c.self.view_is
          c.self.invariant.0.flow c.requires,
    )

pub returns-clause-value : goal.returns-clause-value
returns-clause-value c =
    let a = read_amount c.args.self.now c.self.inside.net.now (amounts_in c.self.inside.amounts) c.args.k c.get.result c.self.view_is c.self.invariant.0.flow
    c.requires (rw (← c.place.ensures) c.get.ensures) in
    omega (arith, ints, c.from.ensures, a.is, a.low, a.high, a.width)

pub returns-clause-low : goal.returns-clause-low
returns-clause-low c =
    let a = read_amount c.args.self.now c.self.inside.net.now (amounts_in c.self.inside.amounts) c.args.k c.get.result c.self.view_is c.self.invariant.0.flow
    c.requires (rw (← c.place.ensures) c.get.ensures) in
    omega (arith, ints, c.from.ensures, a.low, a.high, a.width)

pub returns-clause-high : goal.returns-clause-high
returns-clause-high c =
    let a = read_amount c.args.self.now c.self.inside.net.now (amounts_in c.self.inside.amounts) c.args.k c.get.result c.self.view_is c.self.invariant.0.flow
    c.requires (rw (← c.place.ensures) c.get.ensures) in
    omega (arith, ints, c.from.ensures, a.low, a.high, a.width)
