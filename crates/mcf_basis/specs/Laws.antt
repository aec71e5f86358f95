-- Laws of bases.
-- Source: AMO 11
use Rattle.std.specs.Prelude.{◌≡◌, ℕ, ◌+◌, ◌<◌, List, drop, length, ℤ, pos, ◌+ℤ◌, ◌-ℤ◌, ◌≤ℤ◌, ◌<ℤ◌}
use Rattle.mcf_flows.specs.Flow.{IsFeasible, Shows}
use Rattle.mcf_flows.specs.Network.{IsNode, node_count}
use Rattle.mcf_basis.specs.Bases.{IsBasis}
use Rattle.mcf_basis.specs.Pivots.{IsPivot, PairFalls}
use Rattle.mcf_basis.specs.Ranks.{IsFloor, pivot_bound, rank_above, rank_of}
use Rattle.mcf_basis.specs.Pivots.{full_cost}
use Rattle.mcf_basis.specs.Structures.{TreeStructure, carried, state_of}
use Rattle.mcf_network.specs.TreeSolutions.{IsTreeSolution}
use Rattle.mcf_basis.specs.Violations.{HasNoEligible}

-- no artificial arc carries anything
abbrev pub HasNoArtificial : TreeStructure → Type 0
HasNoArtificial b =
    (v : ℕ) → IsNode (node_count b.net) v → carried b (length b.net.arcs + v) ≡ pos 0

-- each pivot lowers the pair
-- Source: AMO 11.5, 11.6
abbrev pub PivotsLowerThePair : Type 0
PivotsLowerThePair =
    (old new : TreeStructure) (k : ℕ) (moved : ℤ) → IsBasis old → IsPivot old k moved new → PairFalls old new

-- where the pair falls, the rank does
abbrev pub RanksFall : Type 0
RanksFall =
    (old new : TreeStructure) → IsBasis old → IsBasis new → new.net ≡ old.net → PairFalls old new → rank_of new <ℤ rank_of old

-- where the pair falls, the rank counted from below all ranks falls, too
abbrev pub RanksCountDown : Type 0
RanksCountDown =
    (old new : TreeStructure) → IsBasis old → IsBasis new → new.net ≡ old.net → PairFalls old new → rank_above new < rank_above old

-- no more pivots than the rank fell by, from one basis to another of its net, are within the bound
abbrev pub RanksBoundPivots : Type 0
RanksBoundPivots =
    (first last : TreeStructure) (pivots : ℕ) (floor : ℤ) → IsBasis first → IsBasis last → last.net ≡ first.net → (pos pivots +ℤ rank_of last) ≤ℤ rank_of first
    → IsFloor first.net floor → pos pivots ≤ℤ pivot_bound first.net (full_cost first -ℤ floor)

-- the flow of a basis is a tree solution
abbrev pub BasesAreTreeSolutions : Type 0
BasesAreTreeSolutions = (b : TreeStructure) → IsBasis b → IsTreeSolution b.net (state_of b).amounts

-- where no arc is eligible and no artificial arc carries anything, the flow is feasible, and the
-- prices of the basis show it
abbrev pub LastBasesAreShown : Type 0
LastBasesAreShown =
    (b : TreeStructure) → IsBasis b → HasNoEligible b → HasNoArtificial b
    → IsFeasible b.net (state_of b).amounts × Shows b.net.arcs (drop 1 b.prices) (state_of b).amounts

-- a pivot keeps a basis a basis
-- Source: AMO 11.5, 11.6
abbrev pub PivotsKeepBases : Type 0
PivotsKeepBases =
    (old new : TreeStructure) (k : ℕ) (moved : ℤ) → IsBasis old → IsPivot old k moved new → IsBasis new

-- where no arc is eligible and some flow is feasible, no artificial arc carries anything
-- Source: AMO 11.5, 11.6
abbrev pub LastBasesAreFeasible : Type 0
LastBasesAreFeasible =
    (b : TreeStructure) (flow : List ℤ) → IsBasis b → HasNoEligible b → IsFeasible b.net flow → HasNoArtificial b
