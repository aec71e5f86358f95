use Rattle.std.proofs.Common.{take}
use Rattle.std.specs.List.{All}
use Rattle.mcf_matrix.specs.Private.Shipping.{IsGoodShipment}
use Rattle.mcf_matrix.proofs.showing_plans.shipments_hold.Given as goal

abbrev pub invariant-loop-shipment : goal.invariant-loop-shipment
invariant-loop-shipment g l =
    All (IsGoodShipment (g.P.Priced.costs l.priced) (g.P.Priced.row_prices l.priced) (g.P.Priced.column_prices l.priced)) (take l.shipment-index l.plan)
