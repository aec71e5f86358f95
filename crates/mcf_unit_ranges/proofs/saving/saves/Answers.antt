use Rattle.std.specs.Prelude.{IsTrue}
use Rattle.mcf_figures.specs.Figures.{gain}
use Rattle.mcf_model.specs.Tables.{route_with}
use Rattle.mcf_unit_ranges.proofs.RoomRanges.{saves_iff}
use Rattle.mcf_unit_ranges.proofs.saving.saves.Goals as goal

pub returns-in-Some : goal.returns-in-Some
returns-in-Some c own =
    saves_iff c.args.row.last_most _ (gain c.args.prices.now (route_with c.args.row own)) (IsTrue c.gains-gains.result) c.in-Some.is (c.gains-gains.ensures own)
