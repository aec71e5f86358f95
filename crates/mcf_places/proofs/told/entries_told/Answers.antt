use Rattle.std.proofs.Common.{◌∙◌, ap}
use Rattle.mcf_flows.specs.Blocking.{in_table}
use Rattle.mcf_model.specs.Complements.{turned_if}
use Rattle.mcf_places.proofs.ToldAnswers.{test_at, test_more}
use Rattle.mcf_places.proofs.told.entries_told.Goals as goal

pub loop-place-preserved : goal.loop-place-preserved
loop-place-preserved c =
    test_more (λ v. turned_if c.args.turned (in_table c.args.table.now v)) c.loop-place.made.items c.push.new.self.items c.loop-place.place
    c.turned_if-test.result c.loop-place.invariant c.in_ok-push.ensures.items
    (c.turned_if-test.ensures ∙ ap (turned_if c.args.turned) (test_at c.args.table.now c.loop-place.place))
