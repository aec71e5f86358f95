use Rattle.std.proofs.Common.{◌≡◌, ◌==◌, ◌≤◌, ◌∙◌, List, ap, arith, rules, if◌then◌else◌, ℤ, pos, length, replicate, subst, sym}
use Rattle.mcf_flows.specs.Network.{Network, node_count}
use Rattle.mcf_network.specs.Nets.{width_limit}
use Rattle.mcf_network.specs.Private.StoredAmounts.{amounts_in, limit_of, small_limit}
use Rattle.mcf_network.specs.Private.StoredLinks.{links_in}
use Rattle.mcf_network.specs.States.{KeepsSurplus, Pseudoflow}
use Rattle.mcf_network.specs.Stored.{stored_arcs}
use Rattle.mcf_network.proofs.AmountLaws.{widths_fit}
use Rattle.mcf_network.proofs.ArcLaws.{arcs_need_nodes}
use Rattle.mcf_network.proofs.StateLaws.{zero_keeps}
use Rattle.mcf_network.proofs.StoredLaws.{length-stored_arcs}
use Rattle.mcf_network.proofs.state.State.zero.Goals as goal

pub invariant_of-result : goal.invariant_of-result
invariant_of-result c =
    let e : amounts_in c.in_ok-amounts.amounts ≡ replicate (length (links_in c.net.inside.links)) (pos 0) = search rules in
    let f : c.in_ok-surpluses.surpluses.items ≡ c.net.inside.supplies.items = search rules in
    let n = c.net.inside in
    let limit : limit_of c.in_ok-amounts.amounts ≡ (if c.is_empty.result then small_limit else width_limit) = search rules in
    let empty : c.is_empty.result ≡ (length n.widths.items == 0) = search rules in
    let fit = widths_fit (links_in n.links) n.widths.items c.is_empty.result (limit_of c.in_ok-amounts.amounts) c.net.invariant.0.each_arc empty limit in
    (rw (e, f, ← length-stored_arcs (links_in n.links) n.widths.items, ← c.net.view_is) (zero_keeps _ c.net.invariant.0), rw (← c.net.view_is) fit)

pub returns-clause-value : goal.returns-clause-value
returns-clause-value c =
    let links = links_in c.net.inside.links in
    let e : amounts_in c.in_ok-amounts.amounts ≡ replicate (length links) (pos 0) = search rules in
    let count : length links ≡ length c.args.net.now.arcs = sym (length-stored_arcs links c.net.inside.widths.items)
    ∙ ap (λ (g : Network). length g.arcs) c.net.view_is in
    let state : List ℤ → Pseudoflow = λ amounts. record { net = c.args.net.now; amounts = amounts } in
    ap state (e ∙ ap (λ n. replicate n (pos 0)) count)

pub returns-clause-valid : goal.returns-clause-valid
returns-clause-valid c =
    let e : amounts_in c.in_ok-amounts.amounts ≡ replicate (length (links_in c.net.inside.links)) (pos 0) = search rules in
    let f : c.in_ok-surpluses.surpluses.items ≡ c.net.inside.supplies.items = search rules in
    let kept : KeepsSurplus (record { net = c.args.net.now; amounts = amounts_in c.in_ok-amounts.amounts }) c.in_ok-surpluses.surpluses.items =
    rw (e, f, ← length-stored_arcs (links_in c.net.inside.links) c.net.inside.widths.items, ← c.net.view_is) (zero_keeps _ c.net.invariant.0) in
    kept.flow

pub returns-in_err-amounts-clause-wants : goal.returns-in_err-amounts-clause-wants
returns-in_err-amounts-clause-wants c =
    let n = c.net.inside in
    let here : 1 ≤ length (stored_arcs (links_in n.links) n.widths.items) =
    omega (arith, length-stored_arcs (links_in n.links) n.widths.items, ap length c.as_slice.ensures, c.in_err-amounts.ensures.wants) in
    let some : 1 ≤ node_count c.args.net.now = subst (λ (g : Network). 1 ≤ node_count g) c.net.view_is
    (arcs_need_nodes (length n.supplies.items) (stored_arcs (links_in n.links) n.widths.items) c.net.invariant.0.ends here) in
    search rules
