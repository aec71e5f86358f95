-- The links of a net as they are stored.
use Rattle.std.specs.Prelude.{◌≡◌, List, [], map, pos}
use Rattle.std.specs.List.{range_with_len}
use Rattle.mcf_flows.specs.declared.arc.Link.{Link}
use Rattle.mcf_flows.specs.Network.{Network, node_count}
use Rattle.mcf_network.specs.declared.links.Links.{Links}
use Rattle.mcf_network.specs.declared.links.Links.TheVariants.{Nothing, Shared}
use Rattle.mcf_network.specs.Removal.{supply_left, without_low}
use Rattle.mcf_network.specs.Stored.{stored_arcs}

-- the links
abbrev pub links_in : Links → List Link
links_in Nothing = []
links_in (Shared links) = links.value.items

-- the link that a read past the end gives
abbrev pub no_link : Link
no_link = record { src = 0; dst = 0; cost = pos 0 }

-- the net of a network has these links with width 1 each, and the supplies as they are
pub record IsItsOwnNet (g : Network) (links : List Link) : Type 0 where
  pub arcs : stored_arcs links [] ≡ map without_low g.arcs
  pub supplies : g.supplies ≡ map (supply_left g) (range_with_len 1 (node_count g))
