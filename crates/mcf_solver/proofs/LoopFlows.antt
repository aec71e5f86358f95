-- What the loops of a restored flow carry.
use Rattle.std.proofs.Common.{◌≡◌, List, [], ◌∷◌, length, arith, ℤ}
use Rattle.std.specs.List.{AllZip}
use Rattle.mcf_flows.specs.declared.arc.Arc.{Arc}
use Rattle.mcf_network.specs.Restoring.{restored}
use Rattle.mcf_network.proofs.RestoringLaws.{restored_loop}
use Rattle.mcf_solver.specs.ChosenSolutions.{IsLoopAtBound}

pub loops_at_bounds : (arcs : List Arc) (flow : List ℤ) → length arcs ≡ length flow → AllZip IsLoopAtBound arcs (restored arcs flow)
loops_at_bounds [] flow h = tt
loops_at_bounds (a ∷ arcs) [] h = absurd (omega (arith, h))
loops_at_bounds (a ∷ arcs) (x ∷ flow) h = (restored_loop a x, loops_at_bounds arcs flow (omega (arith, h)))
