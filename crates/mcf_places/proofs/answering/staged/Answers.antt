use Rattle.std.proofs.Common.{rules, ◌≡◌, false, true, sym, ◌∙◌, subst, to_z, of_z, w64}
use Rattle.mcf_places.specs.Answers.{IsAllowed, IsMissed, StandsFor}
use Rattle.mcf_places.specs.Planners.{misses_least}
use Rattle.mcf_places.proofs.Stages.{allowed_at_once, allowed_least, stands_at_once, stands_for_least}
use Rattle.mcf_places.proofs.answering.staged.Goals as goal

pub in_one_stage-requires-clause-stands : goal.in_one_stage-requires-clause-stands
in_one_stage-requires-clause-stands g c =
    let read : to_z w64 (of_z w64 c.most_missing-most.result) ≡ c.most_missing-most.result = search rules in
    let one : c.misses_least.result ≡ false = search rules in
    subst (λ z. StandsFor z c.args.planner.now) (sym read)
    (stands_at_once c.most_missing-most.result c.args.planner.now c.requires.proper
    (sym c.misses_least.ensures ∙ one) c.most_missing-most.ensures)

pub in_one_stage-requires-in-Missing-clause-stands : goal.in_one_stage-requires-in-Missing-clause-stands
in_one_stage-requires-in-Missing-clause-stands g c =
    let read : to_z w64 (of_z w64 c.in-Missing.most) ≡ c.in-Missing.most = search rules in
    let two : c.misses_least.result ≡ true = search rules in
    subst (λ z. StandsFor z c.args.planner.now) (sym read)
    (stands_for_least c.in-Missing.most c.args.planner.now c.requires.proper
    (sym c.misses_least.ensures ∙ two)
    (subst (IsMissed c.args.planner.now) c.in-Missing.is c.in_ok-most.ensures))

pub in_one_stage-requires-clause-allowed : goal.in_one_stage-requires-clause-allowed
in_one_stage-requires-clause-allowed g c =
    let read : to_z w64 (of_z w64 c.most_missing-most.result) ≡ c.most_missing-most.result = search rules in
    let one : c.misses_least.result ≡ false = search rules in
    let P = c.args.planner.now in
    let stages = misses_least P in
    subst (λ z. IsAllowed stages z P) (sym read)
    (allowed_at_once c.most_missing-most.result P stages (sym c.misses_least.ensures ∙ one)
    c.most_missing-most.ensures)

pub in_one_stage-requires-in-Missing-clause-allowed : goal.in_one_stage-requires-in-Missing-clause-allowed
in_one_stage-requires-in-Missing-clause-allowed g c =
    let read : to_z w64 (of_z w64 c.in-Missing.most) ≡ c.in-Missing.most = search rules in
    let two : c.misses_least.result ≡ true = search rules in
    let P = c.args.planner.now in
    let stages = misses_least P in
    subst (λ z. IsAllowed stages z P) (sym read)
    (allowed_least c.in-Missing.most P stages (sym c.misses_least.ensures ∙ two)
    (subst (IsMissed P) c.in-Missing.is c.in_ok-most.ensures))
