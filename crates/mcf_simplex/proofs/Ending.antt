-- What a run ends with.
use Rattle.std.proofs.Common.{◌≡◌, ℕ, List, ◌++◌, length, drop, take, refl, sym, ap, ◌∙◌, arith, subst}
use Rattle.std.proofs.Common.{Option, ℤ}
use Rattle.std.specs.List.{All}
use Rattle.std.proofs.lemmas.Int.{ints}
use Rattle.std.proofs.Math.Seq.{take-append_seam}
use Rattle.std.proofs.lemmas.List.Elements.{All-weaker}
use Rattle.mcf_flows.specs.Network.{Network, node_count}
use Rattle.mcf_flows.specs.WellFormed.{IsUpTo}
use Rattle.mcf_flows.proofs.Duality.{shown_flows_are_least_lem}
use Rattle.mcf_network.specs.States.{Pseudoflow, IsPseudoflow}
use Rattle.mcf_network.proofs.StuckLaws.{no_surplus_of_feasible}
use Rattle.mcf_engine.specs.declared.engine.Outcome.{Outcome}
use Rattle.mcf_engine.specs.declared.engine.Outcome.TheVariants.{Least, Blocked}
use Rattle.mcf_engine.specs.NearPrices.{AreNearPrices, near_limit}
use Rattle.mcf_engine.specs.Outcomes.{IsLeastState, IsOutcome}
use Rattle.mcf_engine.proofs.NearLaws.{shown_near}
use Rattle.mcf_basis.specs.Bases.{IsBasis}
use Rattle.mcf_basis.specs.Laws.{HasNoArtificial}
use Rattle.mcf_basis.specs.Ranks.{IsBounded}
use Rattle.mcf_basis.specs.Starts.{IsStart}
use Rattle.mcf_basis.specs.Structures.{TreeStructure, state_of, price_limit}
use Rattle.mcf_basis.specs.Violations.{HasNoEligible}
use Rattle.mcf_basis.proofs.LastBases.{last_bases_are_shown_lem}
use Rattle.mcf_simplex.specs.Private.Loops.{IsLoop}
use Rattle.mcf_simplex.specs.Runs.{IsRun, Reached}

-- an answer whose state was made in one way is one whose state was made in another
pub outcome_wider : (Made Wide : Pseudoflow → Type 0) (g : Network) (answer : Outcome)
    → ((s : Pseudoflow) → Made s → Wide s) → IsOutcome Made g answer → IsOutcome Wide g answer
outcome_wider Made Wide g (Least s prices) wider ok = (ok.0, ok.1, wider s ok.2)
outcome_wider Made Wide g (Blocked table side) wider ok = ok

-- what a mutable slice of a whole vector leaves
pub written : {X : Type 0} (n : ℕ) (xs ys : List X) → n ≡ length xs → take n (xs ++ ys) ≡ xs
written n xs ys e = ap (λ k. take k (xs ++ ys)) e ∙ take-append_seam xs ys

-- ---- the last basis

module _ (b : TreeStructure) (ok : IsBasis b) (last : HasNoEligible b) where
  -- where no artificial arc carries anything, the flow is least, and the prices of the basis show
  -- it
  module _ (clear : HasNoArtificial b) where
    own_flow : IsPseudoflow (state_of b)
    own_flow = record { of_net = ok.of_net; within_bounds = (last_bases_are_shown_lem b ok last clear).0.within_bounds }

    least_at : IsLeastState b.net (state_of b)
    least_at =
        let shown = last_bases_are_shown_lem b ok last clear in
        record {
          feasible = record { of_net = refl; flow = own_flow; no_surplus = no_surplus_of_feasible (state_of b) shown.0 };
          least = shown_flows_are_least_lem b.net (drop 1 b.prices) (state_of b).amounts ok.of_net.ends shown.0 shown.1;
        }

    near_at : length (drop 1 b.prices) ≡ node_count b.net → All (IsUpTo price_limit) (drop 1 b.prices) → AreNearPrices (state_of b) 1 0 (drop 1 b.prices)
    near_at count small =
        let near : All (IsUpTo near_limit) (drop 1 b.prices) =
        All-weaker (IsUpTo price_limit) (IsUpTo near_limit) (λ y h. (let low = h.0 in let high = h.1 in
        (omega (arith, ints, low), omega (arith, ints, high))))
        (drop 1 b.prices) small in
        shown_near (state_of b) (drop 1 b.prices) own_flow count near (last_bases_are_shown_lem b ok last clear).1

    pub last_least : (s : Pseudoflow) → s ≡ state_of b → IsLeastState b.net s
    last_least s e = subst (λ (x : Pseudoflow). IsLeastState b.net x) (sym e) least_at

    pub last_near : (s : Pseudoflow) (ys : List ℤ) → s ≡ state_of b → ys ≡ drop 1 b.prices → length ys ≡ node_count b.net
        → All (IsUpTo price_limit) ys → AreNearPrices s 1 0 ys
    last_near s ys e f count small =
        let here : AreNearPrices (state_of b) 1 0 (drop 1 b.prices) =
        near_at (ap (λ (l : List ℤ). length l) (sym f) ∙ count) (subst (λ (l : List ℤ). All (IsUpTo price_limit) l) f small) in
        subst (λ (l : List ℤ). AreNearPrices s 1 0 l) (sym f) (subst (λ (x : Pseudoflow). AreNearPrices x 1 0 (drop 1 b.prices)) (sym e) here)

-- ---- how the state was made

pub made_by_run : {R : Type 0} (Picks : R → TreeStructure → Option ℕ → R → Type 0) (r : R) (g : Network) (first : TreeStructure) (t : R)
    (last : TreeStructure) (s : Pseudoflow) (pivots : ℕ) → IsStart g first → IsLoop Picks r first t last → IsBasis last → s ≡ state_of last
    → pivots ≡ last.pivots → IsRun Picks r g s t pivots
made_by_run Picks r g first t last s pivots starts loop ok e counted =
    let none = starts.pivots in
    let made = loop.counted in
    let same : loop.pivots ≡ pivots = omega (arith, none, made, counted) in
    record {
      first = first;
      starts = starts;
      last = last;
      rule = loop.rule;
      reached = subst (λ n. Reached Picks r first loop.rule last n) same loop.reached;
      bounded = subst (λ n. IsBounded first n) same loop.bounded;
      found_none = loop.found_none;
      basis = ok;
      state = e;
    }

pub run_outcome : {R : Type 0} (Picks : R → TreeStructure → Option ℕ → R → Type 0) (r : R) (g : Network) (first : TreeStructure) (t : R)
    (last : TreeStructure) (pivots : ℕ) (answer : Outcome) → IsStart g first → IsLoop Picks r first t last → IsBasis last → last.net ≡ first.net
    → pivots ≡ last.pivots → IsOutcome (λ s. s ≡ state_of last) last.net answer → IsOutcome (λ s. IsRun Picks r g s t pivots) g answer
run_outcome Picks r g first t last pivots answer starts loop ok net counted outcome =
    let of_net : last.net ≡ g = net ∙ starts.of_net in
    outcome_wider (λ s. s ≡ state_of last) (λ s. IsRun Picks r g s t pivots) g answer
    (λ s e. made_by_run Picks r g first t last s pivots starts loop ok e counted)
    (subst (λ n. IsOutcome (λ s. s ≡ state_of last) n answer) of_net outcome)
