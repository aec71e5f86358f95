use Rattle.std.proofs.Common.{◌-◌, List, ap, get_or, pos, subst, sym, ◌∙◌, ℕ}
use Rattle.std.specs.Prelude.{IfOk, None}
use Rattle.mcf_model.specs.Tables.{IsRouteNumber}
use Rattle.mcf_places.specs.declared.places.Place.{Place}
use Rattle.mcf_places.specs.Models.{place_at}
use Rattle.mcf_range_text.specs.PassRangeTexts.{IsPassRange}
use Rattle.mcf_range_text.proofs.PassLaws.{is_number}
use Rattle.mcf_range_text.proofs.passes.place_pass.Goals as goal

pub pass_range-requires-clause-number : goal.pass_range-requires-clause-number
pass_range-requires-clause-number g c bounds e =
    let P = c.args.planner.now in
    let none : Place = record { supply = pos 0; through = None; penalty = None } in
    let there = ap (λ (ps : List Place). (get_or ps (c.args.row - 1) none).through) (sym c.places-places.ensures.value) ∙ e in
    subst (IsRouteNumber c.args.least.now.shown.model) (sym c.requires.number)
    (is_number c.told_figures_are_the_planners.ensures P c.args.least.now c.requires.shown c.args.row (c.requires.low, c.requires.high) bounds there)

pub returns : goal.returns
returns g c =
    let s = c.args.least.now.shown in
    let none : Place = record { supply = pos 0; through = None; penalty = None } in
    subst (λ (k : ℕ). IfOk c.pass_range.result (IsPassRange s k (place_at c.args.planner.now.places c.args.row).through)) c.requires.number
    (subst (λ (ps : List Place). IfOk c.pass_range.result (IsPassRange s c.args.number (get_or ps (c.args.row - 1) none).through)) c.places-places.ensures.value
    c.pass_range.ensures)
