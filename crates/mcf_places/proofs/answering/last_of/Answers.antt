use Rattle.std.proofs.Common.{rules, ◌≡◌, ◌-◌, ◌∙◌, ap, get_or, length, pos, to_z, of_z}
use Rattle.std.specs.Int.{w128}
use Rattle.mcf_places.proofs.Stages.{last_is, no_last}
use Rattle.mcf_places.proofs.answering.last_of.Goals as goal

pub returns-then-count-eq0 : goal.returns-then-count-eq0
returns-then-count-eq0 c before last e = absurd (no_last c.args.amounts.now before last e c.if-count-eq0.true)

pub returns-else-count-eq0 : goal.returns-else-count-eq0
returns-else-count-eq0 c before last e =
    let xs = c.args.amounts.now in
    let read : to_z w128 (of_z w128 (get_or xs (length xs - 1) (pos 0))) ≡ get_or xs (length xs - 1) (pos 0) = search rules in
    read ∙ ap (λ ys. get_or ys (length ys - 1) (pos 0)) e ∙ last_is before last (pos 0)
