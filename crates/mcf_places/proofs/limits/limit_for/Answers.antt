use Rattle.std.proofs.Common.{◌≡◌, ◌∙◌, true, false, ap, arith, pos, rules, sym, to_z, of_z, w64}
use Rattle.std.specs.Prelude.{Some}
use Rattle.std.proofs.lemmas.Int.{ints}
use Rattle.mcf_places.proofs.ProperLimits.{found_by_tables, none_by_tables}
use Rattle.mcf_places.proofs.limits.limit_for.Goals as goal

pub returns-then-both-clause-value : goal.returns-then-both-clause-value
returns-then-both-clause-value c =
    let parts = c.parts-parts.result in
    let test : c.both.result ≡ true = search rules in
    let fits : to_z w64 (of_z w64 (pos c.ample_limit-limit.result)) ≡ pos c.ample_limit-limit.result = omega (arith, ints, c.ample_limit-limit.ensures.within) in
    ap (λ z. Some z) fits
    ∙ found_by_tables c.args.planner.now parts.places.now parts.steps.now parts.rows.now c.parts-parts.ensures.places c.parts-parts.ensures.routes
    c.parts-parts.ensures.proper c.some_open-open.result c.earning-earning.result c.some_open-open.ensures c.earning-earning.ensures
    (sym c.both.ensures ∙ test) (pos c.ample_limit-limit.result) c.ample_limit-limit.ensures.value

pub returns-else-both-clause-value : goal.returns-else-both-clause-value
returns-else-both-clause-value c =
    let parts = c.parts-parts.result in
    let test : c.both.result ≡ false = search rules in
    none_by_tables c.args.planner.now parts.places.now parts.steps.now parts.rows.now c.parts-parts.ensures.places c.parts-parts.ensures.routes
    c.some_open-open.result c.earning-earning.result c.some_open-open.ensures c.earning-earning.ensures (sym c.both.ensures ∙ test)
