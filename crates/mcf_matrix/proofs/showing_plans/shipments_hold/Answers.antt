use Rattle.std.proofs.Common.{List, refl, subst}
use Rattle.std.specs.List.{All}
use Rattle.std.proofs.lemmas.List.{take_all}
use Rattle.std.proofs.lemmas.List.Elements.{All-more}
use Rattle.mcf_matrix.specs.declared.shipment.Shipment.{Shipment}
use Rattle.mcf_matrix.specs.Private.Shipping.{IsGoodShipment}
use Rattle.mcf_matrix.proofs.Shipping.{no_shipment}
use Rattle.mcf_matrix.proofs.showing_plans.shipments_hold.Goals as goal

pub loop-shipment-preserved : goal.loop-shipment-preserved
loop-shipment-preserved g c =
    let p = c.args.priced.now in
    All-more (IsGoodShipment (g.P.Priced.costs p) (g.P.Priced.row_prices p) (g.P.Priced.column_prices p)) c.args.plan.now c.loop-shipment.shipment-index no_shipment
    c.loop-shipment-test.true c.loop-shipment.invariant (c.is_good.ensures.0 c.if-not-is_good.false)

pub returns : goal.returns
returns g c =
    let p = c.args.priced.now in
    let all = take_all c.loop-shipment.shipment-index c.args.plan.now c.loop-shipment-test.false in (
      (λ t. subst (λ (xs : List Shipment). All (IsGoodShipment (g.P.Priced.costs p) (g.P.Priced.row_prices p) (g.P.Priced.column_prices p)) xs) all c.loop-shipment.invariant),
      (λ good. refl),
    )
