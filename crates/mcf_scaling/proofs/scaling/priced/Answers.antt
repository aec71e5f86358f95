use Rattle.mcf_scaling.proofs.Sizes.{small_prices}
use Rattle.mcf_scaling.proofs.scaling.priced.Goals as goal

pub raise_all-requires-clause-small : goal.raise_all-requires-clause-small
raise_all-requires-clause-small c =
    let parts = c.into_counted_parts-state.ensures in
    rw (parts.state, parts.prices) (small_prices c.args.refine parts.valid)
