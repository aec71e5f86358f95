use Rattle.std.proofs.Common.{◌&&◌, ◌++◌, ◌∙◌, ap, sym, refl, length, false, List, arith, ℤ}
use Rattle.std.specs.Prelude.{nat_le}
use Rattle.std.proofs.lemmas.Bool.{and_parts}
use Rattle.std.proofs.lemmas.List.{length-map, length-replicate}
use Rattle.mcf_flows.specs.declared.problem.Problem.TheVariants.{Min}
use Rattle.mcf_instance.specs.declared.reader.line.Header.{Header}
use Rattle.mcf_instance.specs.Arrays.{arc_of_numbers, flow_problem}
use Rattle.mcf_flows.specs.Limits.{arc_limit, node_limit}
use Rattle.mcf_flows.specs.Network.{Network}
use Rattle.mcf_instance.proofs.ArrayFaults.{holds_none, sizes_refused, supplies_within, supply_refused}
use Rattle.mcf_instance.proofs.arrays.made_of_supplies.Goals as goal

pub returns-then-not-sizes_fit-clause-exact : goal.returns-then-not-sizes_fit-clause-exact
returns-then-not-sizes_fit-clause-exact c =
    let g : Network = flow_problem c.args.supplies.now c.args.arcs.now in
    sizes_refused g
    (ap (λ n. nat_le (length c.args.supplies.now) node_limit && nat_le n arc_limit) (length-map c.args.arcs.now arc_of_numbers)
    ∙ sym c.sizes_fit.ensures ∙ c.if-not-sizes_fit.true)

pub returns-in-Some-clause-exact : goal.returns-in-Some-clause-exact
returns-in-Some-clause-exact c =
    let g : Network = flow_problem c.args.supplies.now c.args.arcs.now in
    supply_refused g c.in-Some.fault
    (ap (λ n. nat_le (length c.args.supplies.now) node_limit && nat_le n arc_limit) (length-map c.args.arcs.now arc_of_numbers)
    ∙ sym c.sizes_fit.ensures ∙ c.if-not-sizes_fit.false)
    (sym c.faulty_supply.ensures ∙ c.in-Some.is)

pub of_nodes-state-requires : goal.of_nodes-state-requires
of_nodes-state-requires c =
    let fit = and_parts (nat_le (length c.args.supplies.now) node_limit) (nat_le (length c.args.arcs.now) arc_limit)
    (sym c.sizes_fit.ensures ∙ c.if-not-sizes_fit.false) in
    let kept = c.in_ok-extend_from_slice.ensures.items ∙ ap (λ (xs : List ℤ). xs ++ c.args.supplies.now) c.new-kept.ensures.items in
    record {
      nodes_small = grind (arith, fit.0);
      arcs_small = grind (arith, fit.1);
      one_flag_a_node = ap length c.in_ok-listed.ensures.value ∙ length-replicate (length c.args.supplies.now) false;
      one_supply_a_node = ap length kept;
      within = rw kept (supplies_within c.args.supplies.now (sym c.faulty_supply.ensures ∙ c.in-None.is));
      assignment = tt;
    }

pub returns-clause-exact : goal.returns-clause-exact
returns-clause-exact c =
    let g : Network = flow_problem c.args.supplies.now c.args.arcs.now in
    let kept = c.in_ok-extend_from_slice.ensures.items ∙ ap (λ (xs : List ℤ). xs ++ c.args.supplies.now) c.new-kept.ensures.items in
    let sized = ap {B = Header} (λ n. record { problem = Min; nodes = length c.args.supplies.now; arcs = n }) (sym (length-map c.args.arcs.now arc_of_numbers)) in
    c.made.ensures.exact g (
      ap (λ n. nat_le (length c.args.supplies.now) node_limit && nat_le n arc_limit) (length-map c.args.arcs.now arc_of_numbers)
          ∙ sym c.sizes_fit.ensures ∙ c.if-not-sizes_fit.false,
      sym c.faulty_supply.ensures ∙ c.in-None.is,
    )
    (c.in_ok-fault.ensures.took g refl (holds_none g _ _ _ _ sized kept c.of_nodes-state.ensures))
