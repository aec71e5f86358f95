-- The state that a run made is a tree solution.
use Rattle.std.proofs.Common.{◌≡◌, ℕ, refl, sym, ◌∙◌, subst, Option}
use Rattle.mcf_flows.specs.Network.{Network}
use Rattle.mcf_network.specs.States.{Pseudoflow}
use Rattle.mcf_network.specs.TreeSolutions.{IsTreeSolution}
use Rattle.mcf_basis.specs.Structures.{TreeStructure, state_of}
use Rattle.mcf_basis.proofs.TreeFlows.{bases_are_tree_solutions_lem}
use Rattle.mcf_simplex.specs.Laws.{RunsAreTreeSolutions}
use Rattle.mcf_simplex.specs.Runs.{Reached}
use Rattle.mcf_simplex.specs.Runs.Reached.{start, next}

run_is : (last : TreeStructure) (g : Network) (s : Pseudoflow) → last.net ≡ g → IsTreeSolution last.net (state_of last).amounts
    → s ≡ state_of last → IsTreeSolution g s.amounts
run_is last g s net solution e =
    subst (λ n. IsTreeSolution n s.amounts) net (subst (λ (x : Pseudoflow). IsTreeSolution last.net x.amounts) (sym e) solution)

reached_net : {R : Type 0} (Picks : R → TreeStructure → Option ℕ → R → Type 0) (r : R) (b : TreeStructure) (s : R) (c : TreeStructure) (pivots : ℕ)
    → Reached Picks r b s c pivots → c.net ≡ b.net
reached_net Picks r b _ _ _ start = refl
reached_net Picks r b _ _ _ (next {s} {t} {c} {d} {pivots} before picks pivot falls ok) = pivot.net ∙ reached_net Picks r b s c pivots before

pub runs_are_tree_solutions_lem : {R : Type 0} (Picks : R → TreeStructure → Option ℕ → R → Type 0) → RunsAreTreeSolutions Picks
runs_are_tree_solutions_lem Picks old g s new ok run =
    run_is run.last g s (reached_net Picks old.rule run.first run.rule run.last new.pivots run.reached ∙ run.starts.of_net)
    (bases_are_tree_solutions_lem run.last run.basis) run.state
