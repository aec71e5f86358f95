-- What is judged of arrays.
-- Source: own
use Rattle.std.specs.Prelude.{◌≡◌, ◌≢◌, ◌≤◌, ◌⊎◌, ◌↔◌, ℕ, ◌+◌, ◌*◌, ◌^◌, nat_le, List, length, ℤ, pos, if◌then◌else◌}
use Rattle.mcf_answer.specs.Ranges.{amount_limit}
use Rattle.mcf_c.specs.Handing.{HandsFault, KeepsSizes}
use Rattle.mcf_c.specs.Verdicts.{Tells, number}
use Rattle.mcf_c.specs.declared.statuses.TheConstants.{ACCEPTED, BUFFER_TOO_SMALL, INVALID_INPUT, NO_MEMORY, REJECTED}
use Rattle.mcf_c.specs.declared.verdicts.McfVerdict.{McfVerdict}
use Rattle.mcf_checker.specs.Amounts.{answer_along}
use Rattle.mcf_checker.specs.Correct.{IsRightFlow}
use Rattle.mcf_checker.specs.Judging.{solution_verdict}
use Rattle.mcf_flows.specs.Flow.{IsLeast}
use Rattle.mcf_flows.specs.Network.{Network, node_count}

-- the cost that is claimed, or one that no flow has where it is beyond the range of answers
abbrev pub claimed_cost : McfVerdict → ℤ
claimed_cost c = if nat_le (c.low + 2 ^ 64 * c.high) amount_limit then number c else pos amount_limit

-- what a call answers that judges a flow and prices for the problem of a network; `told` holds the
-- claimed cost
pub record Judges (g : Network) (flow prices : List ℤ) (status : ℕ) (told told' : McfVerdict) : Type 0 where
  pub statuses : status ≤ BUFFER_TOO_SMALL
  pub verdict : status ≤ REJECTED → Tells (solution_verdict g (answer_along g (claimed_cost told) flow prices)) told'
  pub exact : status ≤ REJECTED → (status ≡ ACCEPTED) ↔ IsRightFlow g (number told) prices flow
  pub least : status ≡ ACCEPTED → IsLeast g flow
  pub hands_fault : status ≡ INVALID_INPUT → HandsFault g told'
  pub memory : status ≡ NO_MEMORY → 1 ≤ node_count g
  pub sized : status ≡ NO_MEMORY → KeepsSizes g
  pub room : status ≡ BUFFER_TOO_SMALL → (length flow ≢ length g.arcs) ⊎ (length prices ≢ node_count g)
  pub told_stays : NO_MEMORY ≤ status → told' ≡ told
