-- From what to what the cost of an arc may change while a flow stays least (Ahuja, Magnanti and
-- Orlin, Network Flows, section 9.11).
-- Source: AMO 9.11
use Rattle.std.specs.Prelude.{ℕ, ◌-◌, List, ℤ, ◌+ℤ◌, ◌-ℤ◌, ◌≤ℤ◌, ◌↔◌, IfSome, slice_set}
use Rattle.mcf_flows.specs.Flow.{IsLeast, Shows}
use Rattle.mcf_flows.specs.Network.{Network}
use Rattle.mcf_network.specs.Residual.{arc_at}
use Rattle.mcf_ranges.specs.declared.range.CostRange.{CostRange}

-- the network with another cost of arc k
-- Source: own
abbrev pub with_cost : Network → ℕ → ℤ → Network
with_cost g k c = record g { arcs = slice_set g.arcs (k - 1) (record (arc_at g k) { cost = c }) }

-- a cost is at most so far below another, and at most so far above; a missing end is no limit
-- Source: own
abbrev pub IsInRange : ℤ → CostRange → ℤ → Type 0
IsInRange cost range c = IfSome range.down (λ d. (cost -ℤ d) ≤ℤ c) × IfSome range.up (λ u. c ≤ℤ (cost +ℤ u))

-- whatever the cost of arc k is, the flow is least exactly if the cost is in the range
abbrev pub IsCostRange : Network → List ℤ → ℕ → CostRange → Type 0
IsCostRange g flow k range = (c : ℤ) → IsInRange (arc_at g k).cost range c ↔ IsLeast (with_cost g k c) flow

-- at each cost of arc k in the range, some prices show the flow
-- Source: AMO 9.3
abbrev pub IsShownInRange : Network → List ℤ → ℕ → CostRange → Type 0
IsShownInRange g flow k range = (c : ℤ) → IsInRange (arc_at g k).cost range c → (prices : List ℤ) × Shows (with_cost g k c).arcs prices flow
