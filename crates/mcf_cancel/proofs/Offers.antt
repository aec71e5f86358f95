-- What the code reads of the labels.
use Rattle.std.proofs.Common.{◌≡◌, ℕ, ◌-◌, get_or, Option, None, ℤ, pos, ◌+ℤ◌, ap, sym, subst, ◌∙◌, arith}
use Rattle.std.proofs.lemmas.Int.{ints}
use Rattle.std.proofs.lemmas.List.{get_or_read}
use Rattle.mcf_flows.specs.Network.{Network, IsArcNumber, IsNode, at_node, node_count}
use Rattle.mcf_flows.specs.WellFormed.{IsUpTo}
use Rattle.mcf_network.specs.declared.rid.Rid.{Rid}
use Rattle.mcf_network.specs.Residual.{head, unit_cost}
use Rattle.mcf_network.proofs.ArcLaws.{head_is_node}
use Rattle.mcf_cancel.specs.Private.Labels.{Labels, IsLabelling, arc_depth, offer, link_at}
use Rattle.mcf_engine.specs.Respecting.{AreAtLeast, cost_limit}
use Rattle.mcf_engine.proofs.Showing.{cost_small}

-- the price of a node, as a read gives it
pub read_price : (l l' : Labels) (k v : ℕ) (x : ℤ) → l ≡ l' → IsLabelling l → IsNode (node_count l'.flow.net) v → k ≡ v - 1 → x ≡ get_or l.prices k x
    → x ≡ at_node l'.prices v
read_price l l' k v x view ok h same e =
    let old : IsNode (node_count l.flow.net) v = subst (λ (y : Labels). IsNode (node_count y.flow.net) v) (sym view) h in
    get_or_read l.prices k x (omega (arith, ok.count, old, same)) e (pos 0) ∙ ap (λ i. get_or l.prices i (pos 0)) same
    ∙ ap (λ (y : Labels). at_node y.prices v) view

pub read_link : (l l' : Labels) (k v : ℕ) (x : Option Rid) → l ≡ l' → IsLabelling l → IsNode (node_count l'.flow.net) v → k ≡ v - 1 → x ≡ get_or l.links k x
    → x ≡ link_at l' v
read_link l l' k v x view ok h same e =
    let old : IsNode (node_count l.flow.net) v = subst (λ (y : Labels). IsNode (node_count y.flow.net) v) (sym view) h in
    get_or_read l.links k x (omega (arith, ok.link_count, old, same)) e None ∙ ap (λ i. get_or l.links i None) same
    ∙ ap (λ (y : Labels). link_at y v) view

-- a cost and a price, which a residual arc offers together
pub record IsOffered (l : Labels) (r : Rid) (cost price : ℤ) : Type 0 where
  pub sum : cost +ℤ price ≡ offer l r
  pub cost_up_to : IsUpTo cost_limit cost
  pub price_up_to : IsUpTo arc_depth price

pub offered : (l l' : Labels) (g : Network) (r : Rid) (k to : ℕ) (cost price : ℤ) → l ≡ l' → IsLabelling l → AreAtLeast arc_depth l'.prices
    → IsArcNumber l'.flow.net r.arc → g ≡ l.flow.net → cost ≡ unit_cost g r → to ≡ head g r → k ≡ to - 1 → price ≡ get_or l.prices k price
    → IsOffered l' r cost price
offered l l' g r k to cost price view ok floor arc same_net is_cost is_to is_k e =
    let now : IsLabelling l' = subst IsLabelling view ok in
    let net : g ≡ l'.flow.net = same_net ∙ ap (λ (y : Labels). y.flow.net) view in
    let node = head_is_node l'.flow.net r.arc r.back now.flow.of_net arc in
    let here : k ≡ head l'.flow.net r - 1 = is_k ∙ ap (λ n. n - 1) (is_to ∙ ap (λ n. head n r) net) in
    let price_is = read_price l l' k (head l'.flow.net r) price view ok node here e in
    let cost_is : cost ≡ unit_cost l'.flow.net r = is_cost ∙ ap (λ n. unit_cost n r) net in
    let small = cost_small l'.flow.net r.arc r.back now.flow.of_net arc in
    let low = floor (head l'.flow.net r) (node.0, omega (arith, node, now.count)) in
    let high = now.not_above_zero (head l'.flow.net r - 1) (pos 0) (omega (arith, node, now.count)) in
    record {
      sum = omega (arith, ints, price_is, cost_is);
      cost_up_to = rw cost_is small;
      price_up_to = (omega (arith, ints, price_is, low), omega (arith, ints, price_is, high));
    }
