use Rattle.mcf_plan_figures.proofs.ToldFigures.{small_way}
use Rattle.mcf_plan_figures.proofs.figures.way_told.Goals as goal

pub unreachable-requires : goal.unreachable-requires
unreachable-requires c =
    c.in-None.ensures.none (small_way c.args.shown.now _ _ c.args.number _ _ c.deref.ensures.value c.deref-2.ensures.value c.requires)
