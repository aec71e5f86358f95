use Rattle.std.proofs.Common.{arith}
use Rattle.std.proofs.lemmas.Int.{ints}
use Rattle.mcf_network.specs.Private.StoredAmounts.{amounts_in}
use Rattle.mcf_network.proofs.ArcLaws.{amount_in_range, read_amount, room_back, room_forward}
use Rattle.mcf_network.proofs.state.State.room.Goals as goal

pub get-requires : goal.get-requires
get-requires c =
    omega (
      arith,
      c.place.ensures,
      amount_in_range c.args.self.now c.self.inside.net.now (amounts_in c.self.inside.amounts) c.args.r.arc c.self.view_is
          c.self.invariant.0.flow c.requires,
    )

pub returns-then-r-clause-value : goal.returns-then-r-clause-value
returns-then-r-clause-value c =
    let a = read_amount c.args.self.now c.self.inside.net.now (amounts_in c.self.inside.amounts) c.args.r.arc c.get.result c.self.view_is c.self.invariant.0.flow
    c.requires (rw (← c.place.ensures) c.get.ensures) in
    omega (arith, ints, c.from-amount.ensures, a.is, a.low, a.high, a.width, room_back c.args.self.now c.args.r c.if-r.true)

pub returns-then-r-clause-low : goal.returns-then-r-clause-low
returns-then-r-clause-low c =
    let a = read_amount c.args.self.now c.self.inside.net.now (amounts_in c.self.inside.amounts) c.args.r.arc c.get.result c.self.view_is c.self.invariant.0.flow
    c.requires (rw (← c.place.ensures) c.get.ensures) in
    omega (arith, ints, c.from-amount.ensures, a.is, a.low, a.high, a.width)

pub returns-then-r-clause-high : goal.returns-then-r-clause-high
returns-then-r-clause-high c =
    let a = read_amount c.args.self.now c.self.inside.net.now (amounts_in c.self.inside.amounts) c.args.r.arc c.get.result c.self.view_is c.self.invariant.0.flow
    c.requires (rw (← c.place.ensures) c.get.ensures) in
    omega (arith, ints, c.from-amount.ensures, a.is, a.low, a.high, a.width)

pub returns-else-r-clause-value : goal.returns-else-r-clause-value
returns-else-r-clause-value c =
    let a = read_amount c.args.self.now c.self.inside.net.now (amounts_in c.self.inside.amounts) c.args.r.arc c.get.result c.self.view_is c.self.invariant.0.flow
    c.requires (rw (← c.place.ensures) c.get.ensures) in
    omega (
      arith,
      ints,
      c.from-amount.ensures,
      c.width.ensures.value,
      a.is,
      a.low,
      a.high,
      a.width,
      a.same_width,
      room_forward c.args.self.now c.args.r c.if-r.false,
    )

pub returns-else-r-clause-low : goal.returns-else-r-clause-low
returns-else-r-clause-low c =
    let a = read_amount c.args.self.now c.self.inside.net.now (amounts_in c.self.inside.amounts) c.args.r.arc c.get.result c.self.view_is c.self.invariant.0.flow
    c.requires (rw (← c.place.ensures) c.get.ensures) in
    omega (arith, ints, c.from-amount.ensures, c.width.ensures.value, a.is, a.low, a.high, a.width, a.same_width)

pub returns-else-r-clause-high : goal.returns-else-r-clause-high
returns-else-r-clause-high c =
    let a = read_amount c.args.self.now c.self.inside.net.now (amounts_in c.self.inside.amounts) c.args.r.arc c.get.result c.self.view_is c.self.invariant.0.flow
    c.requires (rw (← c.place.ensures) c.get.ensures) in
    omega (arith, ints, c.from-amount.ensures, c.width.ensures.value, a.is, a.low, a.high, a.width, a.same_width)
