use Rattle.std.proofs.Common.{rules, ◌∷◌, None, map}
use Rattle.mcf_answer_rows.proofs.RowTexts.{two_put}
use Rattle.mcf_pair_text.specs.PairFaultRows.{cell_fault_row}
use Rattle.mcf_pair_text.specs.PairPlaces.{sheet_in}
use Rattle.mcf_pair_text.specs.PairTexts.{closing_rows, faults_row}
use Rattle.mcf_pair_text.proofs.telling.put_faulty.Goals as goal

pub returns : goal.returns
returns c =
    let s = sheet_in c.args.page in
    two_put c.put_closing.result c.args.out.now.items c.put_faults.new.out.items c.put_closing.new.out.items
    (faults_row ∷ map (cell_fault_row s) c.args.faults.now) (closing_rows s None) (search rules) (search rules)
