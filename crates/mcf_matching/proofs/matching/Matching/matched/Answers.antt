use Rattle.std.proofs.Common.{◌∙◌, ap, subst, sym}
use Rattle.std.specs.Bool.{IsTrue}
use Rattle.mcf_matching.specs.Extending.{Assigned, IsMatched}
use Rattle.mcf_matching.specs.Private.Cores.{assigned_in}
use Rattle.mcf_matching.proofs.matching.Matching.matched.Goals as goal

pub returns-in-Narrow-clause-value : goal.returns-in-Narrow-clause-value
returns-in-Narrow-clause-value c =
    subst (λ (m : Assigned). (IsTrue c.matched.result → IsMatched m.flow c.args.v) × (IsMatched m.flow c.args.v → IsTrue c.matched.result))
    (ap assigned_in (sym c.in-Narrow.is) ∙ c.self.view_is) c.matched.ensures.value

pub returns-in-Wide-clause-value : goal.returns-in-Wide-clause-value
returns-in-Wide-clause-value c =
    subst (λ (m : Assigned). (IsTrue c.matched-in-Wide.result → IsMatched m.flow c.args.v) × (IsMatched m.flow c.args.v → IsTrue c.matched-in-Wide.result))
    (ap assigned_in (sym c.in-Wide.is) ∙ c.self.view_is) c.matched-in-Wide.ensures.value
