use Rattle.std.proofs.Common.{rules, ◌≡◌, ◌∙◌, ap, arith, to_z, of_z, w64}
use Rattle.mcf_model.specs.Tables.{route_of}
use Rattle.mcf_places.specs.Models.{from_exit, gate_route, missings, stayings, throughs}
use Rattle.std.specs.Prelude.{map}
use Rattle.mcf_places.specs.Ways.{with_tables}
use Rattle.mcf_places.proofs.Listed.{listed_push, none_listed, rows_joined}
use Rattle.mcf_places.proofs.making.rows_of.Goals as goal

pub returns-clause-routes : goal.returns-clause-routes
returns-clause-routes c =
    let s = c.args.parts.steps.now in
    let P = with_tables c.args.parts.places.now s c.args.parts.rows.now c.args.parts.returning.now c.args.parts.policy in
    let most : to_z w64 (of_z w64 c.args.most) ≡ c.args.most = search rules in
    rows_joined (route_of s) c.new-rows.result.items c.push_exits.new.rows.items c.push_kind.new.rows.items c.push_kind-2.new.rows.items
    c.push_kind-3.new.rows.items c.push.new.self.items c.gate_row-gate.result
    (map (from_exit c.args.parts.places.now) (map (route_of s) c.args.parts.rows.now)) (throughs P) (stayings P) (missings P) (gate_route c.args.most P)
    c.new-rows.ensures.items (c.in_ok-push_exits.ensures.routes s) (c.in_ok-push_kind.ensures.routes s) (c.in_ok-push_kind-2.ensures.routes s)
    (c.in_ok-push_kind-3.ensures.routes s) c.in_ok-push.ensures.items (c.gate_row-gate.ensures.route s c.args.parts.rows.now c.args.parts.returning.now c.args.parts.policy ∙ ap (λ z. gate_route z P) most)

pub returns-clause-listed : goal.returns-clause-listed
returns-clause-listed c lent =
    let s = c.args.parts.steps.now in
    listed_push s c.push_kind-3.new.rows.items c.push.new.self.items c.gate_row-gate.result c.in_ok-push.ensures.items (omega (arith, c.gate_row-gate.ensures.plain))
    (c.in_ok-push_kind-3.ensures.listed s (c.in_ok-push_kind-2.ensures.listed s (c.in_ok-push_kind.ensures.listed s
    (c.in_ok-push_exits.ensures.listed s lent (none_listed s c.new-rows.result.items c.new-rows.ensures.items)))))
