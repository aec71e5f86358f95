use Rattle.std.proofs.Common.{rules, sym, ◌∙◌}
use Rattle.std.specs.Int.{w128}
use Rattle.std.specs.Prelude.{FitsSigned}
use Rattle.std.proofs.lemmas.Int.{to_z-of_z}
use Rattle.mcf_checker.proofs.StatedLines.{step_of_line, step_of_none}
use Rattle.mcf_checker.proofs.stated.flow_at.Goals as goal

pub returns-in-Some-clause-flow : goal.returns-in-Some-clause-flow
returns-in-Some-clause-flow c =
    let fits : FitsSigned w128 c.in-Some.flow = search rules in
    let step = step_of_line c.args.stated c.in-Moved.moved c.args.place c.args.next.now c.args.arc.now c.in-Some.flow c.in-Moved.is c.requires.next
    (sym c.in-Some.is ∙ c.flow_of_next.ensures) in
    simp to_z-of_z step.flow

pub returns-in-Some-clause-next : goal.returns-in-Some-clause-next
returns-in-Some-clause-next c =
    (step_of_line c.args.stated c.in-Moved.moved c.args.place c.args.next.now c.args.arc.now c.in-Some.flow c.in-Moved.is c.requires.next
    (sym c.in-Some.is ∙ c.flow_of_next.ensures)).next_is

pub returns-in-None-clause-flow : goal.returns-in-None-clause-flow
returns-in-None-clause-flow c =
    let fits : FitsSigned w128 c.args.arc.now.low = search rules in
    let step = step_of_none c.args.stated c.in-Moved.moved c.args.place c.args.next.now c.args.arc.now c.in-Moved.is c.requires.next
    (sym c.in-None.is ∙ c.flow_of_next.ensures) in
    simp to_z-of_z step.flow

pub returns-in-None-clause-next : goal.returns-in-None-clause-next
returns-in-None-clause-next c =
    (step_of_none c.args.stated c.in-Moved.moved c.args.place c.args.next.now c.args.arc.now c.in-Moved.is c.requires.next
    (sym c.in-None.is ∙ c.flow_of_next.ensures)).next_is
