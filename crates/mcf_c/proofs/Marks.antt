-- Node sets by marks.
use Rattle.std.proofs.Common.{◌≡◌, ◌-◌, ℕ, Bool, false, List, map, length, ◌∙◌, ap, arith}
use Rattle.std.specs.Prelude.{pos}
use Rattle.std.proofs.lemmas.List.{get_or-map}
use Rattle.mcf_c.specs.Handing.{mark_of}
use Rattle.mcf_flows.specs.Blocking.{in_list, in_table}
use Rattle.mcf_flows.specs.Network.{IsNode, at_node}

-- the marks of a table are those of the nodes that it lists
pub mark_is : (table : List Bool) (nodes : List ℕ) (v : ℕ) → IsNode (length table) v → in_table table v ≡ in_list nodes v
    → at_node (map mark_of table) v ≡ mark_of (in_list nodes v)
mark_is table nodes v node same = get_or-map mark_of table (v - 1) false (pos 0) (omega (arith, node.0, node.1)) ∙ ap mark_of same
