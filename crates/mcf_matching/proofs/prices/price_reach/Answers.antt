use Rattle.std.proofs.Common.{◌≡◌, ◌*◌, ◌∙◌, ap, arith, pos, rules, to_z, of_z}
use mir.Syntax.{w64, w128}
use Rattle.std.proofs.Math.Facts.{to_z_pos}
use Rattle.std.proofs.lemmas.Int.{ints, to_z-of_z}
use Rattle.mcf_matching.proofs.prices.price_reach.Goals as goal

pub path_cost-reach-requires : goal.path_cost-reach-requires
path_cost-reach-requires c =
    let read : to_z w128 (of_z w128 c.wide.result) ≡ c.wide.result = search (rules, to_z-of_z) in
    let first = read ∙ c.wide.ensures ∙ c.requires.first in
    let value = c.unsigned_abs.ensures.value in
    omega (arith, ints, value, first)

pub returns : goal.returns
returns c =
    let path = c.path_cost-reach.ensures.value in
    let width = c.requires.width in
    c.of.ensures ∙ to_z_pos w64 (omega (arith, path, width)) ∙ ap (λ n. pos (8 * n)) path
