use Rattle.std.proofs.Common.{rules, ◌≡◌, subst, sym}
use Rattle.std.specs.Prelude.{IsTrue, ◌↔◌, suc}
use Rattle.mcf_figures.specs.Figures.{IsExact}
use Rattle.mcf_figures.specs.Groups.{is_exact_by}
use Rattle.mcf_figures.proofs.Classes.{exact_iff}
use Rattle.mcf_figures.proofs.groups.is_exact.Goals as goal

pub returns-clause-exact : goal.returns-clause-exact
returns-clause-exact c prices plan g e =
    let value : c.is_exact_between.result ≡ is_exact_by c.args.model.now c.args.groups.now c.args.place c.args.saves = search rules in
    subst (λ t. IsTrue t ↔ IsExact prices c.args.model.now plan (suc c.args.place)) (sym value)
    (exact_iff c.args.model.now prices plan c.args.groups.now c.args.place c.args.saves (c.route.ensures.proper).sound c.requires g e)
