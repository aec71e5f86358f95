use Rattle.std.proofs.Common.{◌+◌, ◌∙◌, ap, sym, refl, length, map, true, false, arith}
use Rattle.std.specs.Prelude.{nat_le, pos, neg_ℤ}
use Rattle.std.proofs.lemmas.Bool.{and_parts}
use Rattle.mcf_instance.specs.Arrays.{assignment_problem}
use Rattle.mcf_flows.specs.Limits.{arc_limit, node_limit}
use Rattle.mcf_flows.specs.Network.{Network}
use Rattle.mcf_instance.proofs.ArrayFaults.{holds_none, sides_are, sides_count, sides_fit, sides_within, sized_sides, sizes_refused, within_passes}
use Rattle.mcf_instance.proofs.arrays.made_of_sides.Goals as goal

pub returns-then-not-sizes_fit-clause-exact : goal.returns-then-not-sizes_fit-clause-exact
returns-then-not-sizes_fit-clause-exact c =
    sizes_refused (assignment_problem c.args.rows c.args.columns c.args.pairs.now)
    (sides_fit c.args.rows c.args.columns c.args.pairs.now _ c.sizes_fit.ensures ∙ c.if-not-sizes_fit.true)

pub of_nodes-state-requires : goal.of_nodes-state-requires
of_nodes-state-requires c =
    let fit = and_parts (nat_le (c.args.rows + c.args.columns) node_limit) (nat_le (length c.args.pairs.now) arc_limit)
    (sym c.sizes_fit.ensures ∙ c.if-not-sizes_fit.false) in
    record {
      nodes_small = grind (arith, fit.0);
      arcs_small = grind (arith, fit.1);
      one_flag_a_node = ap length c.in_ok-listed.ensures.value ∙ sides_count c.args.rows c.args.columns true false;
      one_supply_a_node = ap length c.in_ok-supplies.ensures.value ∙ sides_count c.args.rows c.args.columns (pos 1) (neg_ℤ (pos 1));
      within = rw c.in_ok-supplies.ensures.value (sides_within c.args.rows c.args.columns);
      assignment = c.in_ok-supplies.ensures.value ∙ sides_are c.args.rows c.args.columns ∙ ap (map _) (sym c.in_ok-listed.ensures.value);
    }

pub returns-clause-exact : goal.returns-clause-exact
returns-clause-exact c =
    let g : Network = assignment_problem c.args.rows c.args.columns c.args.pairs.now in
    let sized = sym (sized_sides c.args.rows c.args.columns c.args.pairs.now) in
    c.made.ensures.exact g (
      sides_fit c.args.rows c.args.columns c.args.pairs.now _ c.sizes_fit.ensures ∙ c.if-not-sizes_fit.false,
      within_passes g.supplies (sides_within c.args.rows c.args.columns),
    )
    (c.in_ok-fault.ensures.took g refl (holds_none g _ _ _ _ sized c.in_ok-supplies.ensures.value c.of_nodes-state.ensures))
