use Rattle.std.proofs.Common.{rules, ◌≡◌, [], ◌∷◌, ◌++◌}
use Rattle.mcf_plan_figures.specs.Told.{way_told}
use Rattle.mcf_plan_figures.proofs.ToldFigures.{made_more}
use Rattle.mcf_plan_figures.proofs.figures.ways_told.Goals as goal

pub loop-place-preserved : goal.loop-place-preserved
loop-place-preserved c =
    let pushed : c.push.new.self.items ≡ c.loop-place.made.items ++ c.way_told-told.result ∷ [] = search rules in
    made_more (way_told c.args.shown.now c.args.groups.now) _ _ c.loop-place.place c.way_told-told.result c.loop-place.invariant c.way_told-told.ensures pushed
