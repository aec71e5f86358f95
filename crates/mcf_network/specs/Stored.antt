-- How a net is stored.
use Rattle.std.specs.Prelude.{ℕ, List, [], ◌∷◌, ℤ, pos, slice_index_or}
use Rattle.mcf_flows.specs.declared.arc.Arc.{Arc}
use Rattle.mcf_flows.specs.declared.arc.Link.{Link}
use Rattle.mcf_flows.specs.declared.problem.Problem.{Problem}
use Rattle.mcf_flows.specs.Network.{Network}
use Rattle.mcf_network.specs.declared.rid.Rid.{Rid}
use Rattle.mcf_network.specs.Nets.{IsNet}
use Rattle.mcf_network.specs.Stars.{IsForwardStar}

-- the arc of a link and a width
abbrev pub stored_arc : Link → ℤ → Arc
stored_arc link width = record { src = link.src; dst = link.dst; low = pos 0; cap = width; cost = link.cost }

-- the arcs of links and widths: where the widths have ended, each width is 1
abbrev pub stored_arcs : List Link → List ℤ → List Arc
stored_arcs [] widths = []
stored_arcs (link ∷ links) [] = stored_arc link (pos 1) ∷ stored_arcs links []
stored_arcs (link ∷ links) (width ∷ widths) = stored_arc link width ∷ stored_arcs links widths

-- the width that such widths give the arc at a place
abbrev pub width_at : List ℤ → ℕ → ℤ
width_at widths place = slice_index_or widths place (pos 1)

-- the network of stored arcs and supplies
abbrev pub stored_net : Problem → List Link → List ℤ → List ℤ → Network
stored_net problem links widths supplies =
    record { problem = problem; arcs = stored_arcs links widths; supplies = supplies }

-- a net with its forward star, which has such a gap behind the residual arcs of each node
pub record IsStored (g : Network) (gap : ℕ) (firsts : List ℕ) (outs : List Rid) : Type 0 where
  pub of_net : IsNet g
  pub star : IsForwardStar g gap firsts outs
