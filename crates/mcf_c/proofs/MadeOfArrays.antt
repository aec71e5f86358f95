-- What was made of arrays.
use Rattle.std.proofs.Common.{◌≡◌, ◌≤◌, ℤ, List, length, subst, sym, Ok, Some, None}
use Rattle.std.specs.Prelude.{Option}
use Rattle.std.proofs.lemmas.List.{length-map}
use Rattle.mcf_c.specs.Handing.{KeepsSizes}
use Rattle.mcf_instance.proofs.ArrayFaults.{supplies_within}
use Rattle.mcf_instance.specs.Arrays.{arc_of_numbers, array_fault, first_found, flow_problem, made_of_arrays, made_unless, supply_fault}
use Rattle.mcf_flows.specs.Limits.{arc_limit, limits, node_limit}
use Rattle.mcf_flows.specs.Network.{Network}
use Rattle.mcf_instance.specs.declared.arrays.ArrayFault.{ArrayFault}
use Rattle.mcf_instance.specs.declared.arrays.RawArc.{RawArc}

-- the instance that was made is the network
pub made_is : (g made : Network) → Ok made ≡ made_of_arrays limits g → made ≡ g
made_is g made e = go (array_fault limits g) e
  where
    go : (o : Option ArrayFault) → Ok made ≡ made_unless o g → made ≡ g
    go None is = cc
    go (Some fault) is = cc

-- supplies and arcs that were looked at have no fault of the sizes or of a supply
pub sized_arcs : (supplies : List ℤ) (arcs : List RawArc) → (length supplies ≤ node_limit) × (length arcs ≤ arc_limit)
    → first_found (supply_fault limits) supplies ≡ None → KeepsSizes (flow_problem supplies arcs)
sized_arcs supplies arcs fit none = record {
  nodes = fit.0;
  arcs = subst (λ n. n ≤ arc_limit) (sym (length-map arcs arc_of_numbers)) fit.1;
  supplies = supplies_within supplies none;
}
