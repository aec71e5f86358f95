-- What an instance of the assignment problem keeps.
-- Source: AMO 12
use Rattle.std.specs.Prelude.{◌≡◌, ◌⊎◌, List, ℤ, pos, neg_ℤ}
use Rattle.std.specs.List.{All}
use Rattle.mcf_flows.specs.declared.arc.Arc.{Arc}
use Rattle.mcf_flows.specs.declared.problem.Problem.{Problem}
use Rattle.mcf_flows.specs.declared.problem.Problem.TheVariants.{Min, Asn}
use Rattle.mcf_flows.specs.Network.{Network, at_node}

-- an arc from a node of supply 1 to one of supply -1, for one unit at most
pub record IsPairing (supplies : List ℤ) (a : Arc) : Type 0 where
  pub from_row : at_node supplies a.src ≡ pos 1
  pub to_column : at_node supplies a.dst ≡ neg_ℤ (pos 1)
  pub low_is : a.low ≡ pos 0
  pub cap_is : a.cap ≡ pos 1

-- each supply is 1 or -1, and each arc is a pairing; the sides may differ in size
pub record IsAssignment (g : Network) : Type 0 where
  pub each_supply : All (λ b. (b ≡ pos 1) ⊎ (b ≡ neg_ℤ (pos 1))) g.supplies
  pub each_arc : All (IsPairing g.supplies) g.arcs

-- a fact that holds if the problem is the assignment problem
-- Source: own
abbrev pub OnAssignment : Problem → Type 0 → Type 0
OnAssignment Min P = Unit {0}
OnAssignment Asn P = P
