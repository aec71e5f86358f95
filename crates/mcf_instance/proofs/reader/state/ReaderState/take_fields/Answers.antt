use Rattle.std.proofs.Common.{sym}
use Rattle.mcf_instance.proofs.FittingItems.{item_fits}
use Rattle.mcf_instance.proofs.reader.state.ReaderState.take_fields.Goals as goal

pub take-requires : goal.take-requires
take-requires c = item_fits _ _ _ (sym c.in-Ok.ensures)
