use Rattle.std.proofs.Common.{◌∙◌, ap, sym}
use Rattle.std.proofs.lemmas.Bool.{true≢false}
use Rattle.mcf_model.specs.Model.{Route}
use Rattle.mcf_figures.proofs.Classes.{classes_kept, by_row}
use Rattle.mcf_figures.proofs.groups.join_route.Goals as goal

pub returns-then-figures-clause-some : goal.returns-then-figures-clause-some
returns-then-figures-clause-some c e =
    let told = c.in-Some.ensures.some in
    by_row c.args.prices.now c.args.model.now c.args.carries.now c.args.place c.args.parents.now c.join.new.parents (c.route.ensures.proper).sound c.requires.is_route
    c.requires.classes ((told.loose_is).0 c.if-figures.true) _ _ (ap (λ (r : Route). r.tail) c.route.ensures.value) (ap (λ (r : Route). r.head) c.route.ensures.value)
    c.join.ensures.as_long (c.join.ensures.joined (c.requires.classes).labels (c.requires.classes).forest)

pub returns-else-figures-clause-some : goal.returns-else-figures-clause-some
returns-else-figures-clause-some c e =
    let told = c.in-Some.ensures.some in
    classes_kept c.args.prices.now c.args.model.now c.args.carries.now c.args.place c.args.parents.now c.requires.classes
    (λ loose. true≢false (sym ((told.loose_is).1 loose) ∙ c.if-figures.false))
