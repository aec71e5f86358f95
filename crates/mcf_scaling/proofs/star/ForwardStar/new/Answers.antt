use Rattle.std.proofs.Common.{◌≡◌, ℕ, ◌*◌, ◌∙◌, ◌≤◌, length, rules, arith, sym, ap, subst}
use Rattle.std.proofs.lemmas.Bool.{true≢false}
use Rattle.std.proofs.lemmas.List.{length-replicate}
use Rattle.mcf_flows.specs.Network.{node_count}
use Rattle.mcf_scaling.specs.Private.Stars.{IsStarUpTo}
use Rattle.mcf_scaling.proofs.StarLaws.{arcs_want, on_err}
use Rattle.mcf_scaling.proofs.PositionLaws.{whole_few, whole_positions, whole_star}
use Rattle.mcf_scaling.proofs.star.ForwardStar.new.Goals as goal

pub returns-in_err-outs-clause-wants : goal.returns-in_err-outs-clause-wants
returns-in_err-outs-clause-wants c =
    on_err c.from_residual-in_err-outs.result (1 ≤ node_count c.args.net.now) (arcs_want c.args.net.now (2 * c.arc_count.result)
    c.arc_count.ensures.of_net (ap (λ (n : ℕ). 2 * n) c.arc_count.ensures.value) (λ none. true≢false (sym (c.in_err-outs.ensures.succeeds none))))

pub put_leaving-requires-clause-star : goal.put_leaving-requires-clause-star
put_leaving-requires-clause-star c =
    subst (IsStarUpTo c.args.net.now _) (let at = c.at.ensures in omega (arith, at)) c.nodes.invariant

pub nodes-preserved : goal.nodes-preserved
nodes-preserved c = subst (IsStarUpTo c.args.net.now _) c.at.ensures c.in_ok-put_leaving.ensures

pub returns-in_err-positions-clause-wants : goal.returns-in_err-positions-clause-wants
returns-in_err-positions-clause-wants c =
    let some = c.in_err-positions.ensures.wants in
    on_err c.from_residual-in_err-positions.result (1 ≤ node_count c.args.net.now) (arcs_want c.args.net.now (2 * c.arc_count-2.result)
    c.arc_count-2.ensures.of_net (ap (λ (n : ℕ). 2 * n) c.arc_count-2.ensures.value) (λ none. omega (arith, none, some)))

pub write_positions-requires-clause-few : goal.write_positions-requires-clause-few
write_positions-requires-clause-few c =
    let done : c.nodes.number ≡ node_count c.args.net.now = search rules in
    whole_few c.args.net.now c.nodes.spans.items c.nodes.outs.items c.deref.result.now c.nodes.number c.nodes.invariant done
    c.arc_count-2.ensures.of_net c.deref.ensures.value

pub returns-clause-value : goal.returns-clause-value
returns-clause-value c =
    let done : c.nodes.number ≡ node_count c.args.net.now = search rules in
    whole_star c.args.net.now c.nodes.spans.items c.nodes.outs.items c.deref.result.now c.nodes.number c.nodes.invariant done
    c.arc_count-2.ensures.of_net c.deref.ensures.value c.write_positions.new.positions.items

pub returns-clause-positions : goal.returns-clause-positions
returns-clause-positions c =
    let done : c.nodes.number ≡ node_count c.args.net.now = search rules in
    let count : length c.write_positions.new.positions.items ≡ 2 * length c.args.net.now.arcs =
    c.write_positions.ensures.count ∙ ap length c.in_ok-positions.ensures.value ∙ length-replicate (2 * c.arc_count-2.result) 0
    ∙ ap (λ (n : ℕ). 2 * n) c.arc_count-2.ensures.value in
    whole_positions c.args.net.now c.nodes.spans.items c.nodes.outs.items c.deref.result.now c.nodes.number c.nodes.invariant done
    c.arc_count-2.ensures.of_net c.deref.ensures.value c.write_positions.new.positions.items count c.write_positions.ensures.positions
