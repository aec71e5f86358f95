use Rattle.std.proofs.Common.{◌≡◌, ◌∙◌, ap, rules, to_z, of_z}
use Rattle.std.specs.Prelude.{unsigned_abs}
use mir.Syntax.{w128}
use Rattle.std.proofs.lemmas.Int.{to_z-of_z}
use Rattle.mcf_engine.proofs.RaisedPrices.{rounded_is}
use Rattle.mcf_engine.proofs.pricer.rounded_down.Goals as goal

pub returns : goal.returns
returns c =
    let t : to_z w128 (of_z w128 c.opposite.result) ≡ c.opposite.result = search (rules, to_z-of_z) in
    let d : to_z w128 (of_z w128 c.args.label) ≡ c.args.label = search (rules, to_z-of_z) in
    let depth : c.unsigned_abs-depth.result ≡ unsigned_abs c.args.label = c.unsigned_abs-depth.ensures.value ∙ ap unsigned_abs d in
    let enough = rw c.from.ensures at c.quotient_above.ensures.enough in
    let least = rw c.from.ensures at c.quotient_above.ensures.least in
    rw t (rounded_is c.args.scale c.unsigned_abs-depth.result c.quotient_above.result c.args.label c.opposite.result c.requires.high depth c.opposite.ensures
    enough least)
