use Rattle.std.proofs.Common.{arith, pos}
use Rattle.std.proofs.lemmas.Int.{ints}
use Rattle.mcf_cancel.proofs.Cancelling.{cost_height_falls, cycle_by_one, cycle_feasible}
use Rattle.mcf_engine.proofs.StatePrices.{least_from_prices, state_prices}
use Rattle.mcf_engine_tests.proofs.prices.cancel_by_one.Goals as goal

pub returns-in-Prices-clause-least : goal.returns-in-Prices-clause-least
returns-in-Prices-clause-least c =
    let found = rw c.in-Prices.is at c.in_ok-prices.ensures.recovered in
    least_from_prices c.args.state.net c.cycles.state _ c.cycles.invariant found

pub returns-in-Prices-clause-shown : goal.returns-in-Prices-clause-shown
returns-in-Prices-clause-shown c =
    let found = rw c.in-Prices.is at c.in_ok-prices.ensures.recovered in
    state_prices c.args.state.net c.cycles.state _ c.cycles.invariant found

pub push_along-requires-clause-can : goal.push_along-requires-clause-can
push_along-requires-clause-can c =
    let cycle = rw c.in-Cycle.is at c.in_ok-prices.ensures.recovered in
    rw c.as_slice.ensures.value (cycle_by_one c.cycles.state _ cycle)

pub cycles-smaller : goal.cycles-smaller
cycles-smaller c =
    let cycle = rw c.in-Cycle.is at c.in_ok-prices.ensures.recovered in
    let value = rw c.as_slice.ensures.value at c.push_along.ensures.value in
    rw value (cost_height_falls c.cycles.state _ (pos 1) c.cycles.invariant.flow cycle (cycle_by_one c.cycles.state _ cycle) (omega (arith, ints)))

pub cycles-preserved : goal.cycles-preserved
cycles-preserved c =
    let cycle = rw c.in-Cycle.is at c.in_ok-prices.ensures.recovered in
    let value = rw c.as_slice.ensures.value at c.push_along.ensures.value in
    rw value (cycle_feasible c.args.state.net c.cycles.state _ (pos 1) c.cycles.invariant cycle (cycle_by_one c.cycles.state _ cycle))
