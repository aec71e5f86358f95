-- The verdict on a flow answer: at each of its cases, and when it accepts.
use Rattle.std.proofs.Common.{◌≡◌, ◌∙◌, ℕ, Bool, true, false, cond, refl, sym, ap, List, Option, Some, None, ℤ}
use Rattle.std.specs.Option.{option_map_or}
use Rattle.std.specs.Ordering.{int_eq}
use Rattle.std.proofs.lemmas.Bool.{false≢true}
use Rattle.std.proofs.lemmas.Bool.Decides.{Decides-int_eq}
use Rattle.mcf_answer.specs.Solution.{Solution}
use Rattle.mcf_checker.specs.Correct.{IsRightFlow, IsRightSolution, amounts}
use Rattle.mcf_checker.specs.Judging.{accepts, bad_arc, bad_node, bad_price, flow_verdict, solution_verdict}
use Rattle.mcf_checker.specs.declared.verdict.Verdict.{Verdict}
use Rattle.mcf_checker.specs.declared.verdict.Verdict.TheVariants.{BadArc, BadCost, BadNode, BadPrice, Flow as FlowAccepted}
use Rattle.mcf_checker.proofs.BadArcs.{AllAgree-from_none, none-from_AllAgree}
use Rattle.mcf_checker.proofs.BadNodes.{AllMet-from_none, none-from_AllMet}
use Rattle.mcf_checker.proofs.BadPrices.{Shows-from_none, none-from_Shows}
use Rattle.mcf_flows.specs.Flow.{IsWithinBounds, cost}
use Rattle.mcf_flows.specs.Network.{Network}

-- ---- at each case

module _ (g : Network) (total : ℤ) (prices flow : List ℤ) where
  pub at_bad_node : (v : ℕ) → Some v ≡ bad_node g prices flow → BadNode v ≡ flow_verdict g total prices flow
  unfolding flow_verdict
  at_bad_node v f = rw (← f) refl

  pub at_bad_price : (k : ℕ) → bad_node g prices flow ≡ None → Some k ≡ bad_price g prices flow → BadPrice k ≡ flow_verdict g total prices flow
  unfolding flow_verdict
  at_bad_price k f p = rw (f, ← p) refl

  pub at_bad_cost : bad_node g prices flow ≡ None → bad_price g prices flow ≡ None → int_eq total (cost g.arcs flow) ≡ false
      → BadCost ≡ flow_verdict g total prices flow
  unfolding flow_verdict
  at_bad_cost f p c = rw (f, p, c) refl

  pub at_flow : bad_node g prices flow ≡ None → bad_price g prices flow ≡ None → int_eq total (cost g.arcs flow) ≡ true
      → FlowAccepted total ≡ flow_verdict g total prices flow
  unfolding flow_verdict
  at_flow f p c = rw (f, p, c) refl

module _ (g : Network) (a : Solution) where
  pub at_bad_arc : (k : ℕ) → Some k ≡ bad_arc g a.sent → BadArc k ≡ solution_verdict g a
  unfolding solution_verdict
  at_bad_arc k e = rw (← e) refl

  pub past_arcs : bad_arc g a.sent ≡ None → flow_verdict g a.cost a.prices (amounts a.sent) ≡ solution_verdict g a
  unfolding solution_verdict
  past_arcs e = rw e refl

-- ---- when it accepts

-- the cases, as they come
abbrev case_of : Option ℕ → Option ℕ → Bool → ℤ → Verdict
case_of node price right cost =
    option_map_or BadNode node (option_map_or BadPrice price (cond right (FlowAccepted cost) BadCost))

record IsClear (node price : Option ℕ) (right : Bool) : Type 0 where
  node_is : node ≡ None
  price_is : price ≡ None
  right_is : right ≡ true

clear_of : (node price : Option ℕ) (right : Bool) (cost : ℤ) → accepts (case_of node price right cost) ≡ true → IsClear node price right
clear_of (Some v) price right cost e = absurd (false≢true e)
clear_of None (Some k) right cost e = absurd (false≢true e)
clear_of None None false cost e = absurd (false≢true e)
clear_of None None true cost e = record { node_is = refl; price_is = refl; right_is = refl }

-- a verdict before which an arc is looked for
pub no_bad_arc : (arc : Option ℕ) (next : Verdict) → accepts (option_map_or BadArc arc next) ≡ true → (arc ≡ None) × (accepts next ≡ true)
no_bad_arc (Some k) next e = absurd (false≢true e)
no_bad_arc None next e = (refl, e)

module _ (g : Network) (total : ℤ) (prices flow : List ℤ) where
  pub IsRightFlow-from_accepts : IsWithinBounds g.arcs flow → accepts (flow_verdict g total prices flow) ≡ true → IsRightFlow g total prices flow
  unfolding flow_verdict
  IsRightFlow-from_accepts bounds e =
      let clear = clear_of (bad_node g prices flow) (bad_price g prices flow) (int_eq total (cost g.arcs flow)) total e in
      let nodes = AllMet-from_none g prices flow clear.node_is in
      record {
        one_price_each = nodes.one_price_each;
        feasible = record { within_bounds = bounds; meets_supplies = nodes.meets_supplies };
        shown = Shows-from_none g prices flow bounds clear.price_is;
        cost_is = (Decides-int_eq total (cost g.arcs flow)).0 clear.right_is;
      }

  pub at_right_flow : IsRightFlow g total prices flow → FlowAccepted total ≡ flow_verdict g total prices flow
  at_right_flow h =
      at_flow g total prices flow
      (none-from_AllMet g prices flow (record { one_price_each = h.one_price_each; meets_supplies = h.feasible.meets_supplies }))
      (none-from_Shows g prices flow h.shown)
      ((Decides-int_eq total (cost g.arcs flow)).1 h.cost_is)

pub IsRightSolution-from_accepts : (g : Network) (a : Solution) → accepts (solution_verdict g a) ≡ true → IsRightSolution g a
unfolding solution_verdict
IsRightSolution-from_accepts g a e =
    let parts = no_bad_arc (bad_arc g a.sent) (flow_verdict g a.cost a.prices (amounts a.sent)) e in
    let arcs = AllAgree-from_none g a.sent parts.0 in
    record { same_ends = arcs.same_ends; right = IsRightFlow-from_accepts g a.cost a.prices (amounts a.sent) arcs.within_bounds parts.1 }

pub at_right : (g : Network) (a : Solution) → IsRightSolution g a → FlowAccepted a.cost ≡ solution_verdict g a
at_right g a h =
    at_right_flow g a.cost a.prices (amounts a.sent) h.right
    ∙ past_arcs g a (none-from_AllAgree g a.sent (record { same_ends = h.same_ends; within_bounds = h.right.feasible.within_bounds }))

pub accepts-from_IsRightSolution : (g : Network) (a : Solution) → IsRightSolution g a → accepts (solution_verdict g a) ≡ true
accepts-from_IsRightSolution g a h = sym (ap accepts (at_right g a h))
