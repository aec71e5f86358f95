-- What a call for ranges of costs hands out.
-- Source: own
use Rattle.std.specs.Prelude.{◌≡◌, ◌≢◌, ◌≤◌, ◌⊎◌, ◌==◌, if◌then◌else◌, ℕ, List, length, ℤ, map, Option, Some, None}
use Rattle.std.specs.List.{All, AllZip}
use Rattle.mcf_c.specs.DoubleMatrices.{wide_value}
use Rattle.mcf_c.specs.Handing.{HandsFault}
use Rattle.mcf_c.specs.Verdicts.{number}
use Rattle.mcf_c.specs.declared.cost_ranges.McfCostRange.{McfCostRange}
use Rattle.mcf_c.specs.declared.cost_ranges.McfRangeEnd.{McfRangeEnd}
use Rattle.mcf_c.specs.declared.cost_ranges.McfShownFlow.{McfShownFlow}
use Rattle.mcf_c.specs.declared.statuses.TheConstants.{ACCEPTED, BUFFER_TOO_SMALL, INVALID_CHOICE, INVALID_INPUT, REJECTED}
use Rattle.mcf_c.specs.declared.verdicts.McfVerdict.{McfVerdict}
use Rattle.mcf_checker.specs.Correct.{IsRightFlow}
use Rattle.mcf_flows.specs.Network.{IsArcNumber, Network, node_count}
use Rattle.mcf_ranges.specs.Ranges.{IsCostRange}
use Rattle.mcf_ranges.specs.declared.range.CostRange.{CostRange}

-- an end of a range, if it is limited
abbrev pub end_of : McfRangeEnd → Option ℤ
end_of e = if e.is_limited == 0 then None else Some (wide_value e.change)

-- how far a cost may fall, and how far it may rise
abbrev pub range_of : McfCostRange → CostRange
range_of r = record { down = end_of r.down; up = end_of r.up }

-- the ranges of some arcs
abbrev pub ranges_of : List McfCostRange → List CostRange
ranges_of ranges = map range_of ranges

-- a flow with its prices is right, with the cost that is claimed
abbrev pub IsRightShown : Network → McfShownFlow → McfVerdict → Type 0
IsRightShown g shown told = IsRightFlow g (number told) shown.prices.now shown.flow.now

-- what a call answers that judges a flow and its prices, and tells ranges of the costs of some arcs
pub record RangesCosts (g : Network) (shown : McfShownFlow) (status : ℕ) (told told' : McfVerdict) (arcs : List ℕ) (ranges ranges' : List McfCostRange) : Type 0 where
  pub statuses : status ≤ INVALID_CHOICE
  pub right : (status ≡ ACCEPTED) ⊎ (status ≡ INVALID_CHOICE) → IsRightShown g shown told
  pub wrong : status ≡ REJECTED → ¬ IsRightShown g shown told
  pub told_ranges : status ≡ ACCEPTED → AllZip (IsCostRange g shown.flow.now) arcs (ranges_of ranges')
  pub hands_fault : status ≡ INVALID_INPUT → HandsFault g told'
  pub room : status ≡ BUFFER_TOO_SMALL → (length shown.flow.now ≢ length g.arcs) ⊎ (length shown.prices.now ≢ node_count g) ⊎ (length ranges ≢ length arcs)
  pub no_arcs : status ≡ INVALID_CHOICE → ¬ All (IsArcNumber g) arcs
  pub untouched : REJECTED ≤ status → ranges' ≡ ranges
