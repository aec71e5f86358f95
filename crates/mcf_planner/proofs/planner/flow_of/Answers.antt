use Rattle.std.proofs.Common.{rules, ◌≡◌, ◌∙◌, ◌++◌, ◌∷◌, [], ap, sym, subst, to_z, of_z, w64}
use Rattle.mcf_flows.specs.Limits.{limits}
use Rattle.mcf_flows.specs.WellFormed.{IsUpTo}
use Rattle.mcf_planner.proofs.Taking.{amounts_more, at_place}
use Rattle.mcf_planner.proofs.planner.flow_of.Goals as goal

pub carried-requires : goal.carried-requires
carried-requires c =
    let read = c.index-sent-place.is in
    subst (IsUpTo limits.bound) (ap (λ s. s.flow) (sym read))
    (at_place c.args.sent.now c.loop-place.place c.index-sent-place.result c.loop-place-test.true c.requires)

pub loop-place-preserved : goal.loop-place-preserved
loop-place-preserved c =
    let same : to_z w64 (of_z w64 c.carried.result) ≡ c.carried.result = search rules in
    let read = c.index-sent-place.is in
    amounts_more c.args.sent.now c.loop-place.place c.index-sent-place.result c.loop-place.flow.items c.push.new.self.items c.carried.result
    c.loop-place-test.true (c.carried.ensures ∙ ap (λ s. s.flow) read)
    (c.in_ok-push.ensures.items ∙ ap (λ y. c.loop-place.flow.items ++ y ∷ []) same) c.loop-place.invariant
