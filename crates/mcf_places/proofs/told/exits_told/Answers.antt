use Rattle.std.proofs.Common.{◌∙◌, ap}
use Rattle.mcf_flows.specs.Blocking.{in_table}
use Rattle.mcf_places.specs.Models.{exit_of}
use Rattle.mcf_model.specs.Complements.{turned_if}
use Rattle.mcf_places.proofs.ToldAnswers.{test_more}
use Rattle.mcf_places.proofs.told.exits_told.Goals as goal

pub loop-place-preserved : goal.loop-place-preserved
loop-place-preserved c =
    test_more (λ v. turned_if c.args.turned (in_table c.args.table.now (exit_of c.args.places.now v))) c.loop-place.made.items c.push.new.self.items
    c.loop-place.place c.turned_if-test.result c.loop-place.invariant c.in_ok-push.ensures.items
    (c.turned_if-test.ensures ∙ ap (λ v. turned_if c.args.turned (in_table c.args.table.now v)) c.exit_of-exit.ensures)
