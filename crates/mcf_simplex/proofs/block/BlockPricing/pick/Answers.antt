use Rattle.std.proofs.Common.{subst}
use Rattle.mcf_simplex.specs.Blocks.{BlockRule, IsBlockPick}
use Rattle.mcf_simplex.proofs.block.BlockPricing.pick.Goals as goal

pub returns-clause-picks : goal.returns-clause-picks
returns-clause-picks c =
    let new : BlockRule = record { size = c.self.inside.size; next = c.pick_block-picked.result.next } in
    subst (λ (old : BlockRule). IsBlockPick old c.args.basis.now c.pick_block-picked.result.arc new) c.self.view_is c.pick_block-picked.ensures.picks
