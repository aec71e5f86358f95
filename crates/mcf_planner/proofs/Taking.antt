-- What the solver's answers are to models.
use Rattle.std.proofs.Common.{◌≡◌, ℕ, ◌+◌, ◌<◌, ◌≤◌, List, [], ◌∷◌, ◌++◌, length, map, take, get_or, ap, sym, ◌∙◌, subst, arith, ℤ}
use Rattle.std.specs.List.{All, AllZip}
use Rattle.std.proofs.lemmas.Int.{ints}
use Rattle.std.proofs.lemmas.List.{get_or-map, length-map, map-append, take_more}
use Rattle.std.proofs.lemmas.List.Elements.{All-cons, All-head, All-tail}
use Rattle.mcf_answer.specs.BlockingSet.{BlockingSet, IsBlockingSet}
use Rattle.mcf_answer.specs.Solution.{Solution}
use Rattle.mcf_answer.specs.declared.answers.Sent.{Sent}
use Rattle.mcf_checker.specs.Correct.{amounts}
use Rattle.mcf_flows.specs.declared.arc.Arc.{Arc}
use Rattle.mcf_flows.specs.Blocking.{Blocks, in_list}
use Rattle.mcf_flows.specs.Flow.{CanCarry, IsFeasible, Shows, cost}
use Rattle.mcf_flows.specs.Limits.{limits}
use Rattle.mcf_flows.specs.Network.{IsNode, Network, node_count}
use Rattle.mcf_flows.specs.WellFormed.{HasEnds, IsArcWithinLimits, IsUpTo, IsWellFormed}
use Rattle.mcf_model.specs.declared.planning.Bottleneck.{Bottleneck}
use Rattle.mcf_model.specs.declared.planning.ShownFlow.{ShownFlow}
use Rattle.mcf_model.specs.Planning.{IsBlocked, IsShownFlow}
use Rattle.mcf_solver.specs.Answering.{IsLeastSolution, IsNoFlowProof}

-- ---- the loop over what arcs carry

pub amounts_more : (sent : List Sent) (i : ℕ) (d : Sent) (old new : List ℤ) (x : ℤ) → i < length sent → x ≡ (get_or sent i d).flow → new ≡ old ++ x ∷ []
    → old ≡ amounts (take i sent) → new ≡ amounts (take (i + 1) sent)
amounts_more sent i d old new x inside is e before =
    e
    ∙ ap (λ xs. xs ++ x ∷ []) before
    ∙ ap (λ y. amounts (take i sent) ++ y ∷ []) is
    ∙ sym (map-append (λ s. s.flow) (take i sent) (get_or sent i d ∷ []))
    ∙ ap amounts (sym (take_more sent i d inside))

pub at_place : (sent : List Sent) (i : ℕ) (d : Sent) → i < length sent → All (IsUpTo limits.bound) (amounts sent) → IsUpTo limits.bound (get_or sent i d).flow
at_place sent i d inside h =
    subst (IsUpTo limits.bound) (get_or-map (λ s. s.flow) sent i d (get_or sent i d).flow inside)
    (h i (get_or sent i d).flow (omega (arith, inside, length-map sent (λ s. s.flow))))

-- ---- what arcs carry is small

within_limits : (arcs : List Arc) (flow : List ℤ) → AllZip CanCarry arcs flow → All (IsArcWithinLimits limits) arcs → All (IsUpTo limits.bound) flow
within_limits [] [] h k = λ i d l. absurd (omega arith)
within_limits [] (f ∷ flow) h k = absurd h
within_limits (a ∷ arcs) [] h k = absurd h
within_limits (a ∷ arcs) (f ∷ flow) h k =
    let first = All-head (IsArcWithinLimits limits) a arcs k in
    All-cons (IsUpTo limits.bound) f flow
    (omega (arith, ints, (h.0).0, first.low_small.0), omega (arith, ints, (h.0).1, first.cap_small.1))
    (within_limits arcs flow h.1 (All-tail (IsArcWithinLimits limits) a arcs k))

pub small_amounts : (g : Network) (a : Solution) → IsWellFormed limits g → IsLeastSolution g a → All (IsUpTo limits.bound) (amounts a.sent)
small_amounts g a well h = within_limits g.arcs (amounts a.sent) h.right.right.feasible.within_bounds well.within.arcs

-- where an arc carries something there are nodes
pub some_nodes : (g : Network) (a : Solution) → IsWellFormed limits g → IsLeastSolution g a → 1 ≤ length a.sent → 1 ≤ node_count g
some_nodes g a well h k = go g.arcs a.sent h.right.right.feasible.within_bounds well.ends k
  where
    go : (arcs : List Arc) (sent : List Sent) → AllZip CanCarry arcs (amounts sent) → All (HasEnds (node_count g)) arcs → 1 ≤ length sent → 1 ≤ node_count g
    go arcs [] h ends k = absurd (omega arith)
    go [] (s ∷ sent) h ends k = absurd h
    go (a ∷ arcs) (s ∷ sent) h ends k =
        let first = All-head (HasEnds (node_count g)) a arcs ends in omega (arith, first.src_is_node.0, first.src_is_node.1)

-- ---- the answers

pub is_shown : (g : Network) (a : Solution) (s : ShownFlow) → IsLeastSolution g a → s.flow.items ≡ amounts a.sent → s.prices.items ≡ a.prices
    → s.cost ≡ a.cost → IsShownFlow g s
is_shown g a s h flow prices cost_same =
    let right = h.right.right in
    record {
      feasible = subst (IsFeasible g) (sym flow) right.feasible;
      shown = subst (λ y. Shows g.arcs y s.flow.items) (sym prices) (subst (Shows g.arcs a.prices) (sym flow) right.shown);
      cost_is = cost_same ∙ right.cost_is ∙ ap (λ f. cost g.arcs f) (sym flow);
    }

pub is_blocked : (g : Network) (a : BlockingSet) (b : Bottleneck) → IsNoFlowProof g a → IsBlockingSet a → b.places.items ≡ a.nodes → b.side ≡ a.side → IsBlocked g b
is_blocked g a b h set nodes side =
    record {
      are_nodes = subst (All (IsNode (node_count g))) (sym nodes) (λ i d l. ((set.are_nodes i d l).0, h.right.of_instance i d l));
      blocks = subst (λ s. Blocks g (in_list b.places.items) s) (sym side) (subst (λ ns. Blocks g (in_list ns) a.side) (sym nodes) h.right.exceeds);
    }
