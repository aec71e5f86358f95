use Rattle.std.proofs.Common.{take}
use Rattle.mcf_matrix.specs.Private.Shipping.{IsLeft}
use Rattle.mcf_matrix.proofs.showing_plans.supplies_are_met.Given as goal

abbrev pub invariant-loop-shipment : goal.invariant-loop-shipment
invariant-loop-shipment l = IsLeft (λ s. s.row) (take l.shipment-index l.plan) l.initial.supplies l.supplies
