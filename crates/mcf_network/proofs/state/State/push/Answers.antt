use Rattle.std.proofs.Common.{arith}
use mir.Syntax.{w128}
use Rattle.std.proofs.lemmas.Int.{ints, to_z-of_z}
use Rattle.mcf_network.specs.Private.StoredAmounts.{amounts_in, limit_of}
use Rattle.mcf_network.proofs.ArcLaws.{amount_in_range, read_amount, read_room}
use Rattle.mcf_network.proofs.StateLaws.{kept_small, push_fits, push_made}
use Rattle.mcf_network.proofs.state.State.push.Goals as goal

pub get-requires : goal.get-requires
get-requires c =
    omega (
      arith,
      c.place-k.ensures,
      amount_in_range c.args.self.now c.self.inside.net.now (amounts_in c.self.inside.amounts) c.args.r.arc c.self.view_is
          c.self.invariant.0.flow c.requires.arc,
    )

pub changed_amount-changed-requires-clause-amount_low : goal.changed_amount-changed-requires-clause-amount_low
changed_amount-changed-requires-clause-amount_low c =
    let a = read_amount c.args.self.now c.self.inside.net.now (amounts_in c.self.inside.amounts) c.args.r.arc c.get.result c.self.view_is c.self.invariant.0.flow
    c.requires.arc (rw c.place-k.ensures at c.get.ensures) in
    omega (arith, ints, a.low, a.high, a.width)

pub changed_amount-changed-requires-clause-amount_high : goal.changed_amount-changed-requires-clause-amount_high
changed_amount-changed-requires-clause-amount_high c =
    let a = read_amount c.args.self.now c.self.inside.net.now (amounts_in c.self.inside.amounts) c.args.r.arc c.get.result c.self.view_is c.self.invariant.0.flow
    c.requires.arc (rw c.place-k.ensures at c.get.ensures) in
    omega (arith, ints, a.low, a.high, a.width)

pub changed_amount-changed-requires-clause-x_high : goal.changed_amount-changed-requires-clause-x_high
changed_amount-changed-requires-clause-x_high c =
    let room = read_room c.args.self.now c.self.inside.net.now (amounts_in c.self.inside.amounts) c.args.r c.self.view_is c.self.invariant.0.flow c.requires.arc in
    omega (arith, ints, c.requires.low, c.requires.high, room.high)

pub set-requires-clause-inside : goal.set-requires-clause-inside
set-requires-clause-inside c =
    omega (
      arith,
      c.place-k.ensures,
      amount_in_range c.args.self.now c.self.inside.net.now (amounts_in c.self.inside.amounts) c.args.r.arc c.self.view_is
          c.self.invariant.0.flow c.requires.arc,
    )

pub set-requires-clause-low : goal.set-requires-clause-low
set-requires-clause-low c =
    let s = c.self.inside in
    (push_fits c.args.self.now s.net.now (amounts_in s.amounts) (limit_of s.amounts) c.args.r c.args.amount c.get.result c.changed_amount-changed.result
    c.place-k.result c.self.view_is c.self.invariant.0.flow c.self.invariant.1 c.place-k.ensures c.requires.arc c.requires.low c.requires.high
    c.get.ensures c.changed_amount-changed.ensures).low

pub set-requires-clause-high : goal.set-requires-clause-high
set-requires-clause-high c =
    let s = c.self.inside in
    (push_fits c.args.self.now s.net.now (amounts_in s.amounts) (limit_of s.amounts) c.args.r c.args.amount c.get.result c.changed_amount-changed.result
    c.place-k.result c.self.view_is c.self.invariant.0.flow c.self.invariant.1 c.place-k.ensures c.requires.arc c.requires.low c.requires.high
    c.get.ensures c.changed_amount-changed.ensures).high

pub move_surplus-requires-clause-x : goal.move_surplus-requires-clause-x
move_surplus-requires-clause-x c =
    let room = read_room c.args.self.now c.self.inside.net.now (amounts_in c.self.inside.amounts) c.args.r c.self.view_is c.self.invariant.0.flow c.requires.arc in
    omega (arith, ints, c.requires.low, c.requires.high, room.high)

pub move_surplus-requires-clause-each : goal.move_surplus-requires-clause-each
move_surplus-requires-clause-each c v h =
    let small = kept_small _ c.self.inside.surpluses.items v c.self.invariant.0 h in
    omega (arith, ints, small)

pub invariant_of-self : goal.invariant_of-self
invariant_of-self c =
    let s = c.self.inside in (
      (push_made c.args.self.now s.net.now (amounts_in s.amounts) (amounts_in c.set.new.self) s.surpluses.items c.move_surplus.new.surpluses.items c.args.r c.args.amount c.get.result
          c.changed_amount-changed.result c.place-k.result _ _ c.self.view_is c.self.invariant.0 c.place-k.ensures c.requires.arc c.requires.low c.requires.high
          (to_z-of_z w128 c.args.amount c.ranges.amount) c.get.ensures c.changed_amount-changed.ensures c.set.ensures.value c.route.ensures.tail c.route.ensures.head
          c.move_surplus.ensures.length c.move_surplus.ensures.each).keeps,
      rw c.set.ensures.limit c.self.invariant.1,
    )

pub returns-clause-value : goal.returns-clause-value
returns-clause-value c =
    let s = c.self.inside in
    (push_made c.args.self.now s.net.now (amounts_in s.amounts) (amounts_in c.set.new.self) s.surpluses.items c.move_surplus.new.surpluses.items c.args.r c.args.amount c.get.result
    c.changed_amount-changed.result c.place-k.result _ _ c.self.view_is c.self.invariant.0 c.place-k.ensures c.requires.arc c.requires.low c.requires.high
    (to_z-of_z w128 c.args.amount c.ranges.amount) c.get.ensures c.changed_amount-changed.ensures c.set.ensures.value c.route.ensures.tail c.route.ensures.head
    c.move_surplus.ensures.length c.move_surplus.ensures.each).is

pub returns-clause-surpluses : goal.returns-clause-surpluses
returns-clause-surpluses c v h =
    let s = c.self.inside in
    (push_made c.args.self.now s.net.now (amounts_in s.amounts) (amounts_in c.set.new.self) s.surpluses.items c.move_surplus.new.surpluses.items c.args.r c.args.amount c.get.result
    c.changed_amount-changed.result c.place-k.result _ _ c.self.view_is c.self.invariant.0 c.place-k.ensures c.requires.arc c.requires.low c.requires.high
    (to_z-of_z w128 c.args.amount c.ranges.amount) c.get.ensures c.changed_amount-changed.ensures c.set.ensures.value c.route.ensures.tail c.route.ensures.head
    c.move_surplus.ensures.length c.move_surplus.ensures.each).moves v

pub returns-clause-valid : goal.returns-clause-valid
returns-clause-valid c =
    let s = c.self.inside in
    (push_made c.args.self.now s.net.now (amounts_in s.amounts) (amounts_in c.set.new.self) s.surpluses.items c.move_surplus.new.surpluses.items c.args.r c.args.amount c.get.result
    c.changed_amount-changed.result c.place-k.result _ _ c.self.view_is c.self.invariant.0 c.place-k.ensures c.requires.arc c.requires.low c.requires.high
    (to_z-of_z w128 c.args.amount c.ranges.amount) c.get.ensures c.changed_amount-changed.ensures c.set.ensures.value c.route.ensures.tail c.route.ensures.head
    c.move_surplus.ensures.length c.move_surplus.ensures.each).keeps.flow
