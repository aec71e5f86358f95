use Rattle.std.proofs.Common.{[]}
use Rattle.mcf_scaling.specs.Private.Stars.{IsStarUpTo}
use Rattle.mcf_scaling.proofs.star.ForwardStar.new.Given as goal

abbrev pub invariant-nodes : goal.invariant-nodes
invariant-nodes l = IsStarUpTo l.fn.net (record { spans = l.spans.items; outs = l.outs.items; positions = [] }) l.number
