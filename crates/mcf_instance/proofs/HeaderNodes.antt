-- An instance has as many nodes as the first problem line of its text names.
use Rattle.std.proofs.Common.{◌≡◌, ◌≤◌, ◌∙◌, Option, Some, None, Ok, List, ℕ, ap, refl, subst, sym}
use Rattle.std.proofs.lemmas.List.FromFn.{length-map-range_with_len}
use Rattle.mcf_instance.specs.Fault.{first_fault, header}
use Rattle.mcf_flows.specs.Codes.{Fault}
use Rattle.mcf_flows.specs.Limits.{limits}
use Rattle.mcf_instance.specs.Memory.{NamesNodes}
use Rattle.mcf_flows.specs.Network.{Network, node_count}
use Rattle.mcf_instance.specs.Reading.{instance_of_lines, reading, reading_of, supply_of}
use Rattle.mcf_text.specs.Row.{rows}
use Rattle.mcf_instance.proofs.NamedNodes.{names_nodes_without_fault}

read_instance : (fault : Option Fault) (h g : Network) → reading_of fault h ≡ Ok g → h ≡ g
read_instance None h g e = cc
read_instance (Some f) h g e = cc

-- the nodes of an instance are as many as that line names
pub nodes_named : (text : List ℕ) (g : Network) → reading limits text ≡ Ok g → node_count g ≡ (header (rows text)).nodes
unfolding reading instance_of_lines
nodes_named text g e =
    ap node_count (sym (read_instance (first_fault limits text) (instance_of_lines (rows text)) g e))
    ∙ length-map-range_with_len (supply_of (header (rows text)).problem (rows text)) 1 (header (rows text)).nodes

read_faultless : (fault : Option Fault) (h g : Network) → reading_of fault h ≡ Ok g → fault ≡ None
read_faultless None h g e = refl
read_faultless (Some f) h g e = cc

-- where an instance has nodes that line names some
pub instance_named : (text : List ℕ) (g : Network) → reading limits text ≡ Ok g → 1 ≤ node_count g → 1 ≤ (header (rows text)).nodes
instance_named text g e some = subst (λ count. 1 ≤ count) (nodes_named text g e) some

-- and it comes before the first fault, as there is none
pub instance_names_nodes : (text : List ℕ) (g : Network) → reading limits text ≡ Ok g → 1 ≤ node_count g → NamesNodes limits text
unfolding reading
instance_names_nodes text g e some =
    names_nodes_without_fault text (read_faultless (first_fault limits text) (instance_of_lines (rows text)) g e) (instance_named text g e some)
