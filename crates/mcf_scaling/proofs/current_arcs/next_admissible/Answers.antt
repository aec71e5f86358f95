use Rattle.std.proofs.Common.{◌≡◌, ◌+◌, rules, sym, ap, ◌∙◌, arith, subst, to_z, of_z}
use mir.Syntax.{w128}
use Rattle.std.proofs.lemmas.Int.{to_z-of_z}
use Rattle.mcf_flows.specs.Network.{at_node}
use Rattle.mcf_network.specs.declared.rid.Rid.{Rid}
use Rattle.mcf_network.specs.Stars.{Leaves}
use Rattle.mcf_scaling.specs.Optimality.{IsAdmissible}
use Rattle.mcf_scaling.specs.declared.star.Span.{Span}
use Rattle.mcf_scaling.specs.Private.CurrentArcs.{rest_from}
use Rattle.mcf_scaling.specs.Private.Stars.{residual_at}
use Rattle.mcf_scaling.proofs.CurrentLaws.{looked_on}
use Rattle.mcf_scaling.proofs.StarLaws.{scan_leaves, scan_rest, scan_step}
use Rattle.mcf_scaling.proofs.current_arcs.next_admissible.Goals as goal

pub is_admissible-requires-clause-price : goal.is_admissible-requires-clause-price
is_admissible-requires-clause-price c =
    let same : to_z w128 (of_z w128 c.price_of-price.result) ≡ c.price_of-price.result = search (rules, to_z-of_z) in
    let here = scan_leaves c.args.state.now.net c.args.star.now c.args.v c.looking.i c.span-end.result c.requires.star c.requires.node
    c.span-end.ensures c.looking-test.true c.at-residual.result c.at-residual.ensures c.looking.invariant.leaves in
    same ∙ c.price_of-price.ensures.value ∙ ap (at_node c.args.prices.now) (sym here.from)

pub returns-then-is_admissible-clause-some : goal.returns-then-is_admissible-clause-some
returns-then-is_admissible-clause-some c =
    let here = scan_leaves c.args.state.now.net c.args.star.now c.args.v c.looking.i c.span-end.result c.requires.star c.requires.node
    c.span-end.ensures c.looking-test.true c.at-residual.result c.at-residual.ensures c.looking.invariant.leaves in
    subst (λ (r : Rid). IsAdmissible c.args.state.now c.args.prices.now r × Leaves c.args.state.now.net c.args.v r) (sym c.residual_of.ensures)
    (c.if-is_admissible.ensures.yes, here)

pub looking-preserved : goal.looking-preserved
looking-preserved c =
    let end = ap (λ (s : Span). s.end) c.span-end.ensures in
    let test = c.looking-test.true in
    let step = scan_step c.args.state.now.net c.args.star.now c.args.v c.looking.i c.span-end.result c.requires.star c.requires.node
    c.span-end.ensures c.looking-test.true c.at-residual.result c.at-residual.ensures in
    record {
      within = omega (arith, end, test);
      leaves = scan_rest c.args.state.now.net c.args.star.now c.args.v c.looking.i c.span-end.result c.requires.star c.requires.node c.span-end.ensures
          c.looking-test.true c.at-residual.result c.at-residual.ensures c.looking.invariant.leaves;
      passed = looked_on c.args.state.now c.args.prices.now (rest_from c.args.star.now c.args.v c.args.current.now)
          (rest_from c.args.star.now c.args.v c.looking.i) (rest_from c.args.star.now c.args.v (c.looking.i + 1)) (residual_at c.at-residual.result) step
          c.if-is_admissible.ensures.no c.looking.invariant.passed;
    }
