-- Where memory can be wanting: an instance with arcs has nodes.
use Rattle.std.proofs.Common.{◌≡◌, ◌≤◌, ◌∙◌, ◌⊎◌, inl, inr, length, refl, ap, subst, arith, Result, Ok, Err}
use Rattle.std.specs.Prelude.{OnErr}
use Rattle.mcf_flows.specs.Network.{Network, node_count}
use Rattle.mcf_network.specs.Nets.{IsNet}
use Rattle.mcf_network.specs.Removal.{net_of}
use Rattle.mcf_network.proofs.ArcLaws.{arcs_need_nodes}
use Rattle.mcf_network.proofs.RemovalLaws.{net_of-node_count}
use Rattle.mcf_network.proofs.RestoringLaws.{net_of-arc_count}

-- where the net of an instance has nodes the instance has some
pub net_nodes : (g n : Network) → n ≡ net_of g → 1 ≤ node_count n → 1 ≤ node_count g
net_nodes g n same some = subst (λ count. 1 ≤ count) (ap node_count same ∙ net_of-node_count g) some

-- where an instance has arcs it has nodes
pub arcs_have_nodes : (g n : Network) → n ≡ net_of g → IsNet n → 1 ≤ length g.arcs → 1 ≤ node_count g
arcs_have_nodes g n same ok some =
    let arcs : length n.arcs ≡ length g.arcs = ap (λ (h : Network). length h.arcs) same ∙ net_of-arc_count g in
    net_nodes g n same (arcs_need_nodes (node_count n) n.arcs ok.ends (omega (arith, arcs, some)))

-- an engine that needs none on nets without nodes
pub nodes_wanted : (g : Network) → (1 ≤ node_count g) ⊎ (1 ≤ node_count (net_of g)) → 1 ≤ node_count g
nodes_wanted g (inl some) = some
nodes_wanted g (inr some) = net_nodes g (net_of g) refl some

-- what holds whatever was answered
pub on_err_any : {A E : Type 0} (X : Type 0) (r : Result A E) → X → OnErr r X
on_err_any X (Ok a) x = tt
on_err_any X (Err e) x = x
