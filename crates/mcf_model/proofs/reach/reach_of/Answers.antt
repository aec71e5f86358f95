use Rattle.std.proofs.Common.{ap, arith}
use Rattle.std.proofs.lemmas.Int.{ints}
use Rattle.mcf_model.specs.Reach.{sizes}
use Rattle.mcf_model.proofs.Reaches.{reach_is_sums}
use Rattle.mcf_model.proofs.reach.reach_of.Goals as goal

pub returns : goal.returns
returns c =
    let whole = reach_is_sums c.args.model.now c.tables.result.steps.now c.tables.result.rows.now c.tables.ensures.value c.tables.ensures.proper.steps_take in
    let same = ap sizes c.supplies.ensures.value in
    omega (
      arith,
      ints,
      whole,
      same,
      c.sizes-supplied.ensures.value,
      c.sizes-supplied.ensures.low,
      c.sizes-supplied.ensures.high,
      c.leasts-least.ensures.value,
      c.leasts-least.ensures.low,
      c.leasts-least.ensures.high,
    )
