use Rattle.std.proofs.Common.{◌≡◌, ◌∙◌, ℕ, List, subst}
use Rattle.std.specs.Prelude.{IfOk}
use Rattle.mcf_roster_reading.specs.Cells.{rows}
use Rattle.mcf_group_reading.specs.GroupReading.{read_sheet}
use Rattle.mcf_group_reading.specs.GroupRows.{Sheet, rosters_in, sheet_in}
use Rattle.mcf_group_reading.proofs.reading.read_cells.Goals as goal

pub returns : goal.returns
returns c =
    let known = rosters_in c.args.known in
    let listed = c.deref.ensures.value ∙ c.in_ok-rows.ensures in
    subst (λ (s : Sheet). IfOk c.read_page.result (λ read. read ≡ read_sheet known s (rows c.args.records.now))) c.page_of.ensures
    (subst (λ (xs : List ℕ). IfOk c.read_page.result (λ read. read ≡ read_sheet known (sheet_in c.page_of.result) xs)) listed c.read_page.ensures)
