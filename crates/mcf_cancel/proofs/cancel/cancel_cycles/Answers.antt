use Rattle.mcf_cancel.proofs.Cancelling.{cancelled_falls, cancelled_feasible}
use Rattle.mcf_engine.proofs.StatePrices.{least_from_prices, state_prices}
use Rattle.mcf_cancel.proofs.cancel.cancel_cycles.Goals as goal

pub returns-in-Prices-clause-least : goal.returns-in-Prices-clause-least
returns-in-Prices-clause-least c =
    let found = rw c.in-Prices.is at c.in_ok-prices.ensures.recovered in
    least_from_prices c.args.state.net c.cycles.state _ c.cycles.invariant found

pub returns-in-Prices-clause-shown : goal.returns-in-Prices-clause-shown
returns-in-Prices-clause-shown c =
    let found = rw c.in-Prices.is at c.in_ok-prices.ensures.recovered in
    state_prices c.args.state.net c.cycles.state _ c.cycles.invariant found

pub cancel_cycle-requires-clause-cycle : goal.cancel_cycle-requires-clause-cycle
cancel_cycle-requires-clause-cycle c =
    rw c.as_slice.ensures.value (rw c.in-Cycle.is at c.in_ok-prices.ensures.recovered)

pub cycles-smaller : goal.cycles-smaller
cycles-smaller c =
    let cycle = rw c.in-Cycle.is at c.in_ok-prices.ensures.recovered in
    let done = rw c.as_slice.ensures.value at c.cancel_cycle.ensures in
    cancelled_falls c.cycles.state c.cancel_cycle.new.state _ cycle done c.cycles.invariant.flow

pub cycles-preserved : goal.cycles-preserved
cycles-preserved c =
    let cycle = rw c.in-Cycle.is at c.in_ok-prices.ensures.recovered in
    let done = rw c.as_slice.ensures.value at c.cancel_cycle.ensures in
    cancelled_feasible c.cycles.state c.cancel_cycle.new.state _ cycle done c.args.state.net c.cycles.invariant
