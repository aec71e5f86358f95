-- The flow of a run of the network simplex is a tree solution of the instance.
use Rattle.std.proofs.Common.{◌≡◌, ◌∙◌, ℕ, List, ℤ, length, refl, subst, sym}
use Rattle.std.specs.Prelude.{Option, Ok, Err}
use Rattle.std.proofs.lemmas.Option.{IfSome_then}
use Rattle.mcf_checker.specs.Correct.{flow_given}
use Rattle.mcf_flows.specs.Flow.{CanCarry}
use Rattle.mcf_flows.specs.Network.{Network}
use Rattle.mcf_flows.proofs.AllZips.{length-AllZip}
use Rattle.mcf_network.specs.Laws.{RestoredTreeSolutionsAreTreeSolutions}
use Rattle.mcf_network.specs.Nets.{IsNet}
use Rattle.mcf_network.specs.Removal.{net_of}
use Rattle.mcf_network.specs.States.{Pseudoflow}
use Rattle.mcf_network.specs.TreeSolutions.{IsTreeSolution}
use Rattle.mcf_network.proofs.RestoringLaws.{net_of-arc_count}
use Rattle.mcf_simplex.specs.Blocks.{IsBlockPick}
use Rattle.mcf_simplex.specs.Laws.{RunsAreTreeSolutions}
use Rattle.mcf_simplex.specs.Stretches.{IsWidePick}
use Rattle.mcf_solver.specs.Making.{IsMadeBy, IsMadeByEngine, IsMadeBySimplex, IsShapedBy, StandsForMade, best_picks, first_picks, meant, new_block_rule}
use Rattle.mcf_solver.specs.Private.Shaping.{MadeFlowsAreShaped}
use Rattle.mcf_choice.specs.declared.choice.Choice.{Choice}
use Rattle.mcf_solver.specs.declared.meant.Meant.{Meant}
use Rattle.mcf_solver.specs.declared.meant.Meant.TheVariants.{ByCancel, BySimplex, ByScaling, ByFast, BySap}
use Rattle.mcf_choice.specs.declared.choice.PricingChoice.{PricingChoice}
use Rattle.mcf_choice.specs.declared.choice.PricingChoice.TheVariants.{First, Best, Block, Wide}

module _ (first : RunsAreTreeSolutions first_picks) (best : RunsAreTreeSolutions best_picks) (block : RunsAreTreeSolutions IsBlockPick)
    (wide : RunsAreTreeSolutions IsWidePick) (stands : RestoredTreeSolutionsAreTreeSolutions) where
  -- of the net
  net_tree : (pricing : PricingChoice) (chosen : ℕ) (g : Network) (s : Pseudoflow) → IsNet g → IsMadeBySimplex pricing chosen g s →
      IsTreeSolution g s.amounts
  net_tree First chosen g s net made = first made.0 g s made.1 net made.2
  net_tree Best chosen g s net made = best made.0 g s made.1 net made.2
  net_tree Block chosen g s net made = block (new_block_rule chosen) g s made.0 net made.1
  net_tree Wide chosen g s net made = wide made.0 g s made.1 net made.3

  -- and of the instance
  tree_of : (pricing : PricingChoice) (chosen : ℕ) (g : Network) (flow : List ℤ) → StandsForMade (IsMadeBySimplex pricing chosen) g flow →
      IsTreeSolution g flow
  tree_of pricing chosen g flow h =
      let s = h.state in
      let net : IsNet (net_of g) = subst IsNet h.least.feasible.of_net h.least.feasible.flow.of_net in
      let count : length s.amounts ≡ length g.arcs =
      sym (sym (net_of-arc_count g) ∙ length-AllZip CanCarry (net_of g).arcs s.amounts h.least.least.feasible.within_bounds) in
      subst (IsTreeSolution g) (sym h.restores) (stands g s.amounts count (net_tree pricing chosen (net_of g) s net h.made))

  shaped_by : (m : Meant) (choice : Choice) (g : Network) (flow : List ℤ) → meant choice.engine g.problem ≡ m → StandsForMade (IsMadeBy choice) g flow
      → IsShapedBy m g flow
  unfolding net_of
  shaped_by ByCancel choice g flow e h = tt
  shaped_by BySimplex choice g flow e h =
      tree_of choice.pricing choice.block g flow (record {
        state = h.state;
        least = h.least;
        made = subst (λ (m : Meant). IsMadeByEngine m choice (net_of g) h.state) e h.made;
        restores = h.restores;
      })
  shaped_by ByScaling choice g flow e h = tt
  shaped_by ByFast choice g flow e h = tt
  shaped_by BySap choice g flow e h = tt

  pub shaped : MadeFlowsAreShaped
  shaped choice (Ok g) a h = IfSome_then (flow_given g a) h (λ flow m. shaped_by (meant choice.engine g.problem) choice g flow refl m)
  shaped choice (Err fault) a h = tt
