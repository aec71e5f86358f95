use Rattle.std.proofs.Common.{◌∷◌, None, map, rules}
use Rattle.mcf_answer_rows.proofs.RowTexts.{two_put}
use Rattle.mcf_pair_text.specs.GroupTexts.{closing_rows}
use Rattle.mcf_pair_text.specs.PairFaultRows.{cell_fault_row}
use Rattle.mcf_pair_text.specs.PairPlaces.{sheet_in}
use Rattle.mcf_pair_text.specs.PairTexts.{faults_row}
use Rattle.mcf_pair_text.proofs.group_telling.put_faulty_costs.Goals as goal

pub returns : goal.returns
returns c =
    two_put c.put_closing.result c.args.out.now.items c.put_cost_faults.new.out.items c.put_closing.new.out.items
    (faults_row ∷ map (cell_fault_row (sheet_in c.args.page)) c.args.faults.now)
    (closing_rows c.args.page.records.now c.args.records.now None) (search rules) (search rules)
