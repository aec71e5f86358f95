use Rattle.std.proofs.Common.{◌≡◌, ◌∙◌, ◌-◌, ◌++◌, ◌∷◌, [], ℕ, length, ap, arith}
use Rattle.mcf_table.specs.Heads.{cells_of}
use Rattle.mcf_reading.specs.Steps.{row_steps}
use Rattle.mcf_reading.specs.declared.route_rows.RouteRow.{RouteRow}
use Rattle.mcf_reading.proofs.StepLemmas.{one_route}
use Rattle.mcf_reading.proofs.route_rows.push_route.Goals as goal

pub returns-clause-routes : goal.returns-clause-routes
returns-clause-routes c =
    let steps = c.args.routes.now.steps.items in
    let rows = c.args.routes.now.rows.items in
    let first = c.len-first.result in
    let after = c.push_steps.new.steps.items in
    let from : first ≡ length steps = omega (arith, c.len-first.ensures, c.args.routes.now.steps.ok.0) in
    let all : c.len.result ≡ length after = omega (arith, c.len.ensures, c.push_steps.new.steps.ok.0) in
    one_route steps (row_steps c.args.format.mark c.args.format.steps.now (cells_of c.args.records.now c.args.row)) after rows
    c.push.new.self.items c.args.read first (c.len.result - first) c.in_ok-push_steps.ensures.steps from (ap (λ (n : ℕ). n - first) all)
    (c.in_ok-push.ensures.items ∙ ap (λ (row : RouteRow). rows ++ row ∷ []) c.route_row.ensures) c.requires.within
