use Rattle.mcf_plan_figures.proofs.ToldFigures.{exact_in, have_figures}
use Rattle.mcf_plan_figures.proofs.figures.groups_in.Goals as goal

pub unreachable-requires : goal.unreachable-requires
unreachable-requires c =
    let none = rw c.in-None.is at c.in_ok-groups.ensures.none in
    none (have_figures c.args.shown.now _ _ c.deref.ensures.value c.deref-2.ensures.value c.requires)

pub returns-clause-exact : goal.returns-clause-exact
returns-clause-exact c number h =
    let exact = rw c.in-Some.is at c.in_ok-groups.ensures.exact in
    exact_in c.args.shown.now _ _ c.in-Some.groups.items c.deref.ensures.value c.deref-2.ensures.value exact number h
