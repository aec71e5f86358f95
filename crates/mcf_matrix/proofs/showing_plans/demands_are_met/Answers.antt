use Rattle.std.proofs.Common.{rules, get_or, arith, ◌-ℤ◌, ◌≤ℤ◌, ◌<ℤ◌, pos}
use Rattle.std.specs.Int.{w64}
use Rattle.std.specs.Prelude.{FitsSigned}
use Rattle.std.proofs.lemmas.Int.{ints, to_z-of_z}
use Rattle.mcf_matrix.proofs.Shipping.{no_shipment, taken_off, too_much}
use Rattle.mcf_matrix.proofs.Tests.{fits_difference}
use Rattle.mcf_matrix.proofs.showing_plans.demands_are_met.Goals as goal

pub returns-then-left-shipment : goal.returns-then-left-shipment
returns-then-left-shipment c =
    let s = get_or c.args.plan.now c.loop-shipment.shipment-index no_shipment in
    let less : get_or c.loop-shipment.demands s.column (pos 0) <ℤ s.amount = omega (arith, ints, c.if-left-shipment.true) in (
      (λ t. absurd (cc)),
      (λ met. absurd (too_much (λ s. s.column) c.args.plan.now c.args.demands.now c.loop-shipment.demands c.loop-shipment.shipment-index
          c.loop-shipment-test.true c.requires c.loop-shipment.invariant less met)),
    )

pub loop-shipment-preserved : goal.loop-shipment-preserved
loop-shipment-preserved c =
    let s = get_or c.args.plan.now c.loop-shipment.shipment-index no_shipment in
    let sendable = c.requires c.loop-shipment.shipment-index no_shipment c.loop-shipment-test.true in
    let left : FitsSigned w64 (get_or c.loop-shipment.demands s.column (pos 0)) = search rules in
    let size : FitsSigned w64 s.amount = search rules in
    let enough : s.amount ≤ℤ get_or c.loop-shipment.demands s.column (pos 0) = omega (arith, ints, c.if-left-shipment.false) in
    let rest : FitsSigned w64 (get_or c.loop-shipment.demands s.column (pos 0) -ℤ s.amount) =
    fits_difference (get_or c.loop-shipment.demands s.column (pos 0)) s.amount left sendable.1 enough in
    simp to_z-of_z (taken_off (λ s. s.column) c.args.plan.now c.args.demands.now c.loop-shipment.demands c.loop-shipment.shipment-index
    c.loop-shipment-test.true sendable.0 c.loop-shipment.invariant)
