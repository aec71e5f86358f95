use Rattle.std.proofs.Common.{◌≡◌, ◌∙◌, ap, inl, inr, sym}
use Rattle.std.proofs.lemmas.Result.{on_err_weaker}
use Rattle.mcf_solver.specs.Making.{meant}
use Rattle.mcf_solver.specs.declared.meant.Meant.TheVariants.{ByCancel, BySimplex, ByScaling, ByFast, BySap}
use Rattle.mcf_solver.proofs.Making.{made_as_meant, net_for_assignments}
use Rattle.mcf_solver.proofs.WantedMemory.{nodes_wanted, on_err_any}
use Rattle.mcf_solver.proofs.solving.solve_instance.Goals as goal

pub returns-in-ByCancel-clause-made : goal.returns-in-ByCancel-clause-made
returns-in-ByCancel-clause-made c =
    let choice = c.args.choice in
    let is : ByCancel ≡ meant choice.engine c.args.instance.now.problem =
    sym c.in-ByCancel.is ∙ c.engine_meant.ensures ∙ ap (meant choice.engine) c.problem.ensures.value in
    made_as_meant ByCancel choice c.args.instance.now _ c.solve_by.result is (λ s made. tt) c.solve_by.ensures.made

pub returns-in-BySimplex-clause-made : goal.returns-in-BySimplex-clause-made
returns-in-BySimplex-clause-made c =
    let choice = c.args.choice in
    let is : BySimplex ≡ meant choice.engine c.args.instance.now.problem =
    sym c.in-BySimplex.is ∙ c.engine_meant.ensures ∙ ap (meant choice.engine) c.problem.ensures.value in
    made_as_meant BySimplex choice c.args.instance.now _ c.solve_by_simplex.result is (λ s made. made) c.solve_by_simplex.ensures.made

pub returns-in-ByScaling-clause-made : goal.returns-in-ByScaling-clause-made
returns-in-ByScaling-clause-made c =
    let choice = c.args.choice in
    let is : ByScaling ≡ meant choice.engine c.args.instance.now.problem =
    sym c.in-ByScaling.is ∙ c.engine_meant.ensures ∙ ap (meant choice.engine) c.problem.ensures.value in
    made_as_meant ByScaling choice c.args.instance.now _ c.solve_by-in-ByScaling.result is (λ s made. (_, made)) c.solve_by-in-ByScaling.ensures.made

pub returns-in-ByFast-clause-made : goal.returns-in-ByFast-clause-made
returns-in-ByFast-clause-made c =
    let choice = c.args.choice in
    let is : ByFast ≡ meant choice.engine c.args.instance.now.problem =
    sym c.in-ByFast.is ∙ c.engine_meant.ensures ∙ ap (meant choice.engine) c.problem.ensures.value in
    made_as_meant ByFast choice c.args.instance.now _ c.solve_by-in-ByFast.result is (λ s made. (_, _, made)) c.solve_by-in-ByFast.ensures.made

pub solve_by-requires-in-BySap : goal.solve_by-requires-in-BySap
solve_by-requires-in-BySap c =
    let choice = c.args.choice in
    net_for_assignments choice.engine c.args.instance.now (sym c.in-BySap.is ∙ c.engine_meant.ensures ∙ ap (meant choice.engine) c.problem.ensures.value)

pub returns-in-BySap-clause-made : goal.returns-in-BySap-clause-made
returns-in-BySap-clause-made c =
    let choice = c.args.choice in
    let is : BySap ≡ meant choice.engine c.args.instance.now.problem =
    sym c.in-BySap.is ∙ c.engine_meant.ensures ∙ ap (meant choice.engine) c.problem.ensures.value in
    made_as_meant BySap choice c.args.instance.now _ c.solve_by-in-BySap.result is (λ s made. (_, made)) c.solve_by-in-BySap.ensures.made

pub returns-in-ByCancel-clause-wants : goal.returns-in-ByCancel-clause-wants
returns-in-ByCancel-clause-wants c = on_err_weaker c.solve_by.result (λ w. inl (nodes_wanted c.args.instance.now w)) c.solve_by.ensures.wants

pub returns-in-ByScaling-clause-wants : goal.returns-in-ByScaling-clause-wants
returns-in-ByScaling-clause-wants c = on_err_weaker c.solve_by-in-ByScaling.result (λ w. inl (nodes_wanted c.args.instance.now w)) c.solve_by-in-ByScaling.ensures.wants

pub returns-in-ByFast-clause-wants : goal.returns-in-ByFast-clause-wants
returns-in-ByFast-clause-wants c = on_err_weaker c.solve_by-in-ByFast.result (λ w. inl (nodes_wanted c.args.instance.now w)) c.solve_by-in-ByFast.ensures.wants

pub returns-in-BySap-clause-wants : goal.returns-in-BySap-clause-wants
returns-in-BySap-clause-wants c = on_err_weaker c.solve_by-in-BySap.result (λ w. inl (nodes_wanted c.args.instance.now w)) c.solve_by-in-BySap.ensures.wants

pub returns-in-BySimplex-clause-wants : goal.returns-in-BySimplex-clause-wants
returns-in-BySimplex-clause-wants c =
    let choice = c.args.choice in
    on_err_any _ c.solve_by_simplex.result (inr (sym (sym c.in-BySimplex.is ∙ c.engine_meant.ensures ∙ ap (meant choice.engine) c.problem.ensures.value)))
