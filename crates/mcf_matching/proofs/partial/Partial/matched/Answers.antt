use Rattle.std.proofs.Common.{◌∙◌, ap, sym, subst, arith, get_or}
use Rattle.std.proofs.lemmas.List.{get_or_default}
use Rattle.mcf_flows.specs.Network.{IsNode, node_count}
use Rattle.mcf_network.specs.States.{Pseudoflow}
use Rattle.std.proofs.Common.{◌≡◌, ltb, true}
use Rattle.mcf_matching.specs.declared.scene.Mate.{Mate}
use Rattle.mcf_matching.specs.Private.Forests.{mate}
use Rattle.mcf_matching.specs.Extending.{Assigned, IsMatched, IsShownMatching}
use Rattle.mcf_matching.proofs.Kept.{mates_tell, shown_kept}
use Rattle.mcf_matching.proofs.partial.Partial.matched.Goals as goal

pub returns-clause-value : goal.returns-clause-value
returns-clause-value g c =
    let i = c.self.inside in
    let flow = ap (λ (m : Assigned). m.flow) c.self.view_is in
    let node = subst (λ (s : Pseudoflow). IsNode (node_count s.net) c.args.v) (sym flow) c.requires in
    let place = c.place.ensures in
    let count = c.self.invariant.0.mated.count in
    subst (λ (s : Pseudoflow). (ltb 0 c.index.result.now.arc ≡ true → IsMatched s c.args.v) × (IsMatched s c.args.v → ltb 0 c.index.result.now.arc ≡ true)) flow
    (subst (λ (m : Mate). (ltb 0 m.arc ≡ true → IsMatched i.state c.args.v) × (IsMatched i.state c.args.v → ltb 0 m.arc ≡ true))
    (sym (c.index.ensures ∙ get_or_default i.mates.items c.place.result c.index.result.now (mate 0 0) (omega (arith, place, node, count)) ∙ ap (λ j. get_or i.mates.items j (mate 0 0)) place))
    (mates_tell i.state i.mates.items c.args.v c.self.invariant.0.mated node))

pub returns-clause-shown : goal.returns-clause-shown
returns-clause-shown g c = subst IsShownMatching c.self.view_is (shown_kept c.self.invariant.0)
