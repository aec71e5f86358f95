use Rattle.std.proofs.Common.{◌≡◌, ℕ}
use Rattle.mcf_scaling.specs.Phases.{Run}
use Rattle.std.specs.Option.{IfNone, IfSome}
use Rattle.mcf_scaling.specs.Refinements.{Refinement, IsActive, IsRefinement}
use Rattle.mcf_scaling.proofs.Heights.{height}
use Rattle.mcf_scaling.proofs.scaling.discharge_all.Given as goal

abbrev pub invariant-steps : goal.invariant-steps
invariant-steps l =
    record {
      run : (a : Refinement) (k : ℕ) → Run a l.fn.refine k → Run a l.refine k;
      scale : l.refine.scale ≡ l.fn.refine.scale;
      valid : IsRefinement l.refine;
      some : IfSome l.next (IsActive l.refine);
      none : IfNone l.next ((v : ℕ) → ¬ IsActive l.refine v);
    }

abbrev pub decreases-steps : goal.decreases-steps
decreases-steps l = height l.refine
