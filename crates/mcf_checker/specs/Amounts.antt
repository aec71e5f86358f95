-- The answer that a flow by arc and prices by node make.
-- Source: own
use Rattle.std.specs.Prelude.{List, map, zip, ℤ}
use Rattle.mcf_answer.specs.Solution.{Solution}
use Rattle.mcf_answer.specs.declared.answers.Sent.{Sent}
use Rattle.mcf_flows.specs.Network.{Network}
use Rattle.mcf_flows.specs.declared.arc.Arc.{Arc}

-- what an arc carries, with its ends
abbrev pub sent_by : Arc × ℤ → Sent
sent_by m = record { src = m.0.src; dst = m.0.dst; flow = m.1 }

-- what the arcs carry, in order, with their ends
abbrev pub sent_along : List Arc → List ℤ → List Sent
sent_along arcs flow = map sent_by (zip arcs flow)

-- the answer that gives each arc its amount and each node its price, with a stated cost
abbrev pub answer_along : Network → ℤ → List ℤ → List ℤ → Solution
answer_along g total flow prices = record { cost = total; sent = sent_along g.arcs flow; prices = prices }
