use Rattle.std.proofs.Common.{◌≡◌, ◌∙◌, ◌+◌, ◌-◌, [], ap, arith, false, get_or}
use Rattle.mcf_flows.specs.Blocking.{in_table}
use Rattle.mcf_model.specs.Complements.{turned_if}
use Rattle.mcf_roster.proofs.RowSteps.{entry_more}
use Rattle.mcf_roster.proofs.told.tests_told.Goals as goal

pub loop-place-preserved : goal.loop-place-preserved
loop-place-preserved c =
    let i = c.args.before + c.loop-place.place in
    let e : i ≡ c.args.before + (c.loop-place.place + 1) - 1 = omega arith in
    entry_more (λ v. turned_if c.args.turned (in_table c.args.table.now (c.args.before + v))) [] c.loop-place.made.items c.push.new.self.items
    c.loop-place.place c.turned_if-test.result c.loop-place.invariant c.in_ok-push.ensures.items
    (c.turned_if-test.ensures ∙ ap (λ j. turned_if c.args.turned (get_or c.args.table.now j false)) e)
