-- The tests that passes over a transport plan make.
use Rattle.std.specs.Prelude.{◌≡◌, ℕ, ◌<◌, ◌==◌, List, length, ℤ, pos, ◌+ℤ◌, ◌≤ℤ◌}
use Rattle.std.specs.List.{All}
use Rattle.mcf_flows.specs.Network.{when}
use Rattle.mcf_matrix.specs.declared.shipment.Shipment.{Shipment}
use Rattle.mcf_matrix.specs.Costs.{Costs}
use Rattle.mcf_matrix.specs.PlaceSums.{at_place}
use Rattle.mcf_matrix.specs.Plans.{IsShipment, IsTightShipment, plan_sum}

-- the entry's pair is allowed, its amount isn't below 0, and its reduced cost is 0 if the amount is
-- above 0
abbrev pub IsGoodShipment : Costs → List ℤ → List ℤ → Shipment → Type 0
IsGoodShipment m u v s = IsShipment m s × IsTightShipment m u v s

-- the amount that the entries bring to place i
abbrev pub amount_at : (Shipment → ℕ) → List Shipment → ℕ → ℤ
amount_at end plan i = plan_sum (λ s. when (end s == i) s.amount) plan

-- each end is a place of the list, and no amount is below 0
abbrev pub AreSendable : (Shipment → ℕ) → ℕ → List Shipment → Type 0
AreSendable end n plan = All (λ s. (end s < n) × (pos 0 ≤ℤ s.amount)) plan

-- each place gets exactly the amount in the list
abbrev pub AreMet : (Shipment → ℕ) → List Shipment → List ℤ → Type 0
AreMet end plan masses = (i : ℕ) → i < length masses → amount_at end plan i ≡ at_place masses i

-- the masses (supplies or demands) that are left after some entries
pub record IsLeft (end : Shipment → ℕ) (plan : List Shipment) (masses left : List ℤ) : Type 0 where
  pub as_long : length left ≡ length masses
  pub each : (i : ℕ) → i < length masses → at_place left i +ℤ amount_at end plan i ≡ at_place masses i
