use Rattle.mcf_simplex.proofs.Running.{IsMovedOn}
use Rattle.mcf_simplex.proofs.parts.advance.Given as goal

abbrev pub invariant-loop-made : goal.invariant-loop-made
invariant-loop-made g l = IsMovedOn g.P.Pricing.Picks l.initial.rule l.initial.basis l.rule l.basis l.made
