-- Networks: arcs with bounds and costs between nodes with supplies. An instance is one, and so is a
-- net.
-- Source: textbook
use Rattle.std.specs.Prelude.{ℕ, zero, suc, ◌-◌, ◌≤◌, Bool, true, false, List, [], ◌∷◌, length, ℤ, pos, ◌+ℤ◌, slice_index_or}
use Rattle.mcf_flows.specs.declared.arc.Arc.{Arc}
use Rattle.mcf_flows.specs.declared.problem.Problem.{Problem}

-- the problem, the arcs in order, and the supplies of the nodes in order; nodes and arcs count from
-- 1
-- Source: AMO 1.2
pub record Network : Type 0 where
  pub problem : Problem
  pub arcs : List Arc
  pub supplies : List ℤ

-- the count of nodes, which is that of supplies
-- Source: AMO 1.2
abbrev pub node_count : Network → ℕ
node_count g = length g.supplies

-- v is the number of one of so many nodes
-- Source: own
abbrev pub IsNode : ℕ → ℕ → Type 0
IsNode nodes v = (1 ≤ v) × (v ≤ nodes)

-- k is the number of an arc
-- Source: own
abbrev pub IsArcNumber : Network → ℕ → Type 0
IsArcNumber g k = (1 ≤ k) × (k ≤ length g.arcs)

-- the entry for node v of a list that has one for each node
-- Source: own
abbrev pub at_node : List ℤ → ℕ → ℤ
at_node xs v = slice_index_or xs (v - 1) (pos 0)

-- z where the test holds, otherwise 0
abbrev pub when : Bool → ℤ → ℤ
when true z = z
when false z = pos 0

-- the sum of a term over the arcs
abbrev pub arc_sum : (Arc → ℤ) → List Arc → ℤ
arc_sum term [] = pos 0
arc_sum term (a ∷ arcs) = term a +ℤ arc_sum term arcs

-- the sum of a term over the arcs, each taken with its flow
abbrev pub flow_sum : (Arc → ℤ → ℤ) → List Arc → List ℤ → ℤ
flow_sum term [] flow = pos 0
flow_sum term (a ∷ arcs) [] = pos 0
flow_sum term (a ∷ arcs) (f ∷ flow) = term a f +ℤ flow_sum term arcs flow

-- the sum of a term over the nodes from 1 to n
abbrev pub node_sum : (ℕ → ℤ) → ℕ → ℤ
node_sum term zero = pos 0
node_sum term (suc n) = node_sum term n +ℤ term (suc n)
