-- The basis with which the simplex begins (Ahuja, Magnanti and Orlin, Network Flows, section 11.5):
-- the star of the artificial arcs.
-- Source: AMO 11.5
use Rattle.std.specs.Prelude.{◌≡◌, ℕ, ◌++◌, ◌∷◌, List, length, map, replicate, ℤ, pos, neg_ℤ, unsigned_abs, if◌then◌else◌}
use Rattle.std.specs.List.{range_with_len}
use Rattle.mcf_flows.specs.Network.{Network, at_node, node_count}
use Rattle.mcf_tree.specs.SpanningTree.{IsStar}
use Rattle.mcf_basis.specs.Artificial.{artificial_cost, is_sender}
use Rattle.mcf_basis.specs.Bases.{IsBasis}
use Rattle.mcf_basis.specs.Structures.{TreeStructure}

-- the artificial arc of a node carries what the node sends or takes
abbrev pub start_amounts : Network → List ℤ
start_amounts g =
    replicate (length g.arcs) (pos 0) ++ map (λ v. pos (unsigned_abs (at_node g.supplies v))) (range_with_len 1 (node_count g))

-- the price of a sender is the artificial cost, that of another node the opposite
abbrev pub start_price : Network → ℕ → ℤ
start_price g v = if is_sender g v then pos (artificial_cost g) else neg_ℤ (pos (artificial_cost g))

-- the price of the root, which is 0, and those of the nodes
abbrev pub start_prices : Network → List ℤ
start_prices g = pos 0 ∷ map (start_price g) (range_with_len 1 (node_count g))

-- the star of artificial arcs, with the amounts and prices of the start, and no price written
pub record IsStart (g : Network) (b : TreeStructure) : Type 0 where
  pub of_net : b.net ≡ g
  pub star : IsStar b.tree (node_count g) (length g.arcs)
  pub amounts : b.amounts ≡ start_amounts g
  pub prices : b.prices ≡ start_prices g
  pub priced : b.priced ≡ 0
  pub pivots : b.pivots ≡ 0
  pub basis : IsBasis b
