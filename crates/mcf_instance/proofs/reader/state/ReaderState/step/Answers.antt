use Rattle.std.proofs.Common.{◌++◌, ◌∷◌, [], subst, sym}
use Rattle.std.proofs.lemmas.Result.{on_err_weaker, on_ok_weaker}
use Rattle.mcf_flows.specs.Limits.{limits}
use Rattle.mcf_instance.specs.ReadOn.{Stands}
use Rattle.mcf_instance.proofs.NamedNodes.{step_names_nodes}
use Rattle.mcf_text.specs.Row.{row_of}
use Rattle.mcf_instance.proofs.Simulation.{stands_after}
use Rattle.mcf_instance.proofs.reader.state.ReaderState.step.Goals as goal

pub returns-clause-stands : goal.returns-clause-stands
returns-clause-stands c =
    let row = row_of (c.args.number, c.args.line.now) in
    on_ok_weaker c.take_any.result
    (λ e lines h. subst (λ t. Stands limits t (lines ++ row ∷ [])) (sym e) (stands_after c.args.self.now lines row h))
    c.take_any.ensures.ok

pub returns-clause-wants : goal.returns-clause-wants
returns-clause-wants c =
    let row = row_of (c.args.number, c.args.line.now) in
    on_err_weaker c.take_any.result (λ g lines h. step_names_nodes c.args.self.now lines row h g.0 g.1) c.take_any.ensures.grows
